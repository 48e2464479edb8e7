use Rattle.std.proofs.Common.{◌<◌, length, sym, subst, ◌∙◌, arith, string_bytes}
use Rattle.std.proofs.lemmas.Result.{IfOk-weaker}
use Rattle.avn_frames.proofs.Walking.{slot_here, has_tree_here, Gathered, gathered_more, gathered_left, stand_sorted}
use Rattle.avn_frames.proofs.walk.sorted_places.Goals.{then-is_kept+in_ok-text+in_ok-add, else-is_kept}
use Rattle.avn_frames.proofs.walk.sorted_places.Goals as goal

pub print-requires : goal.print-requires
print-requires c = has_tree_here c.args.nodes.now.nodes c.slots.slot c.slots.invariant.slots (omega arith) c.kind.result c.kind.ensures (sym c.is_kept.ensures ∙ c.if-is_kept.true)

pub slots-smaller : goal.slots-smaller
slots-smaller c =
    let l : c.slots.slot < length c.args.nodes.now.nodes = omega arith in
    let h = slot_here c.args.nodes.now.nodes c.slots.slot c.slots.invariant.slots l in
    omega (arith, h.grows, h.within, c.end-slot.ensures)

pub slots-preserved : goal.slots-preserved
slots-preserved c =
    let nodes = c.args.nodes.now.nodes in
    let l : c.slots.slot < length nodes = omega arith in
    elim c.if-is_kept.branch [
      | then-is_kept+in_ok-text+in_ok-add w ↦
          gathered_more nodes c.args.from c.slots.slot c.end-slot.result c.slots.entries c.if-is_kept.entries (string_bytes w.in_ok-text.text) c.kind.result c.slots.invariant l c.kind.ensures (sym c.is_kept.ensures ∙ w.if-is_kept.true) w.in_ok-text.ensures
          (w.entries-is ∙ w.in_ok-add.ensures) c.end-slot.ensures
      | else-is_kept w ↦
          subst (Gathered nodes c.args.from c.end-slot.result) (sym w.entries-is) (gathered_left nodes c.args.from c.slots.slot c.end-slot.result c.slots.entries c.kind.result c.slots.invariant l c.kind.ensures (sym c.is_kept.ensures ∙ w.if-is_kept.false) c.end-slot.ensures)
    ]

pub returns : goal.returns
returns c = IfOk-weaker c.into_sorted.result _ _ (λ places e. stand_sorted c.args.nodes.now.nodes c.args.from c.slots.slot c.slots.entries places.items c.slots.invariant (omega arith) e) c.into_sorted.ensures
