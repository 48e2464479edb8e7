use Rattle.std.proofs.Common.{◌≡◌, ◌<◌, ◌++◌, [], ◌∷◌, cond, length, ap, sym, subst, ◌∙◌, arith, append-nil}
use Rattle.avn_frames.specs.Listing.{AreSlots, is_kept, slot_places}
use Rattle.avn_frames.proofs.walk.places_of.Goals.{then-is_kept+in_ok-push, else-is_kept}
use Rattle.avn_frames.proofs.Walking.{slot_here, no_slot, place_on}
use Rattle.avn_frames.proofs.walk.places_of.Goals as goal

pub slots-smaller : goal.slots-smaller
slots-smaller c =
    let l : c.slots.slot < length c.args.nodes.now.nodes = omega arith in
    let h = slot_here c.args.nodes.now.nodes c.slots.slot c.slots.invariant.0 l in
    omega (arith, h.grows, h.within, c.end-slot.ensures)

pub slots-preserved : goal.slots-preserved
slots-preserved c =
    let nodes = c.args.nodes.now.nodes in
    let l : c.slots.slot < length nodes = omega arith in
    let h = slot_here nodes c.slots.slot c.slots.invariant.0 l in
    let more : c.if-is_kept.places.items ≡ c.slots.places.items ++ cond c.is_kept.result (c.slots.slot ∷ []) [] = elim c.if-is_kept.branch [
      | then-is_kept+in_ok-push w ↦ ap (λ v. v.items) w.places-is ∙ w.in_ok-push.ensures.items ∙ ap (λ b. c.slots.places.items ++ cond b (c.slots.slot ∷ []) []) (sym w.if-is_kept.true)
      | else-is_kept w ↦ ap (λ v. v.items) w.places-is ∙ sym (append-nil c.slots.places.items) ∙ ap (λ b. c.slots.places.items ++ cond b (c.slots.slot ∷ []) []) (sym w.if-is_kept.false)
    ] in (
      subst (AreSlots nodes) (sym c.end-slot.ensures) h.next,
      place_on c.args.all c.is_kept.result nodes c.slots.slot c.end-slot.result _ _ _ c.slots.invariant.0 l c.slots.invariant.1 (c.is_kept.ensures ∙ ap (is_kept c.args.all) c.kind.ensures) c.end-slot.ensures more,
    )

pub returns : goal.returns
returns c =
    sym (append-nil c.slots.places.items) ∙ ap (λ x. c.slots.places.items ++ slot_places c.args.all c.slots.slot x) (sym (no_slot c.args.nodes.now.nodes c.slots.slot (omega arith))) ∙ c.slots.invariant.1
