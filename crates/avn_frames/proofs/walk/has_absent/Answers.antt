use Rattle.std.proofs.Common.{◌<◌, length, ap, sym, subst, ◌∙◌, arith}
use Rattle.avn_frames.specs.Listing.{AreSlots, has_absent, slots_from}
use Rattle.avn_frames.proofs.Walking.{slot_here, no_slot, absent_found, absent_later}
use Rattle.avn_frames.proofs.walk.has_absent.Goals as goal

pub returns-in-Absent : goal.returns-in-Absent
returns-in-Absent c =
    let l : c.slots.slot < length c.args.nodes.now.nodes = omega arith in
    sym (absent_found c.args.nodes.now.nodes c.slots.slot c.slots.invariant.0 l (sym c.kind.ensures ∙ c.in-Absent.is)) ∙ c.slots.invariant.1

pub slots-smaller : goal.slots-smaller
slots-smaller c =
    let l : c.slots.slot < length c.args.nodes.now.nodes = omega arith in
    let h = slot_here c.args.nodes.now.nodes c.slots.slot c.slots.invariant.0 l in
    omega (arith, h.grows, h.within, c.end-slot.ensures)

pub slots-preserved : goal.slots-preserved
slots-preserved c =
    let nodes = c.args.nodes.now.nodes in
    let l : c.slots.slot < length nodes = omega arith in
    let h = slot_here nodes c.slots.slot c.slots.invariant.0 l in (
      subst (AreSlots nodes) (sym c.end-slot.ensures) h.next,
      ap (λ n. has_absent (slots_from nodes n)) c.end-slot.ensures ∙ absent_later nodes c.slots.slot c.slots.invariant.0 l (λ e. c.in_default.not-Absent (c.kind.ensures ∙ e)) ∙ c.slots.invariant.1,
    )

pub returns : goal.returns
returns c = sym (ap has_absent (no_slot c.args.nodes.now.nodes c.slots.slot (omega arith))) ∙ c.slots.invariant.1
