use Rattle.std.proofs.Common.{◌<◌, ◌≤◌, ap, subst, arith, length}
use Rattle.asn_model.specs.Shape.{Shape}
use Rattle.asn_model.specs.ShapeView.{shape_view}
use Rattle.asn_growth.specs.Parts.{node_count, parts}
use Rattle.asn_growth.proofs.Steps.{capped-step, nodes-end, part-smaller}
use Rattle.asn_growth.proofs.Walking.{nodes-parts}
use Rattle.asn_growth.proofs.nodes.+place_after.Goals as goal

pub place_after-next-requires : goal.place_after-next-requires
place_after-next-requires t c =
    let s = shape_view c.args.shape.now in
    let within : c.loop-index.index < length (parts s) = omega (arith, c.loop-index-test.true, c.part_count-index-end.ensures) in
    (subst (λ m. node_count (shape_view c.part_at.result.now) < m) c.decreases (omega (arith, part-smaller s c.loop-index.index Shape.null within, ap node_count c.part_at.ensures)), tt)

pub loop-index-init : goal.loop-index-init
loop-index-init t c = record {
  within = omega (arith, c.min-next.ensures);
  left = omega (arith, c.min-next.ensures, nodes-parts (shape_view c.args.shape.now));
}

pub loop-index-preserved : goal.loop-index-preserved
loop-index-preserved t c =
    let s = shape_view c.args.shape.now in
    let within : c.loop-index.index < length (parts s) = omega (arith, c.loop-index-test.true, c.part_count-index-end.ensures) in
    record {
      within = omega (arith, c.place_after-next.ensures);
      left = capped-step (parts s) c.loop-index.index Shape.null (shape_view c.part_at.result.now) c.loop-index.next c.place_after-next.result _ within c.part_at.ensures c.place_after-next.ensures c.loop-index.invariant.left;
    }

pub returns : goal.returns
returns t c =
    let s = shape_view c.args.shape.now in
    let past : length (parts s) ≤ c.loop-index.index = omega (arith, c.loop-index-test.false, c.part_count-index-end.ensures) in
    omega (arith, nodes-end (parts s) c.loop-index.index past, c.loop-index.invariant.left, c.loop-index.invariant.within)
