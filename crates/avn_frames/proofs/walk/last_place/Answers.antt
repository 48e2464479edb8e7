use Rattle.std.proofs.Common.{◌<◌, length, sym, subst, ◌∙◌, arith}
use Rattle.avn_frames.proofs.Walking.{slot_here, LastSoFar, last_begun, last_more, last_left, last_found}
use Rattle.avn_frames.proofs.walk.last_place.Goals.{then-is_kept, else-is_kept}
use Rattle.avn_frames.proofs.walk.last_place.Goals as goal

pub slots-init : goal.slots-init
slots-init c = last_begun c.args.nodes.now.nodes c.args.from c.requires

pub slots-smaller : goal.slots-smaller
slots-smaller c =
    let l : c.slots.slot < length c.args.nodes.now.nodes = omega arith in
    let h = slot_here c.args.nodes.now.nodes c.slots.slot c.slots.invariant.slots l in
    omega (arith, h.grows, h.within, c.end-slot.ensures)

pub slots-preserved : goal.slots-preserved
slots-preserved c =
    let nodes = c.args.nodes.now.nodes in
    let l : c.slots.slot < length nodes = omega arith in
    elim c.if-is_kept.branch [
      | then-is_kept w ↦ subst (LastSoFar nodes c.args.from c.end-slot.result) (sym w.last-is) (last_more nodes c.args.from c.slots.slot c.end-slot.result c.slots.last c.kind.result c.slots.invariant l c.kind.ensures (sym c.is_kept.ensures ∙ w.if-is_kept.true) c.end-slot.ensures)
      | else-is_kept w ↦ subst (LastSoFar nodes c.args.from c.end-slot.result) (sym w.last-is) (last_left nodes c.args.from c.slots.slot c.end-slot.result c.slots.last c.kind.result c.slots.invariant l c.kind.ensures (sym c.is_kept.ensures ∙ w.if-is_kept.false) c.end-slot.ensures)
    ]

pub returns : goal.returns
returns c = last_found c.args.nodes.now.nodes c.args.from c.slots.slot c.slots.last c.slots.invariant (omega arith)
