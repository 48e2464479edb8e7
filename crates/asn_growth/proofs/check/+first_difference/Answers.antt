use Rattle.std.proofs.Common.{◌<◌, ◌≤◌, ap, sym, ◌∙◌, subst, arith, length}
use Rattle.std.proofs.lemmas.Result.{err_from_is_err_and}
use Rattle.asn_model.specs.Shape.{Shape}
use Rattle.asn_model.specs.ShapeView.{shape_view}
use Rattle.asn_growth.specs.Parts.{node_count, parts}
use Rattle.asn_growth.proofs.Steps.{differences-end, first-of-part, nodes-end, part-fits, part-smaller, place-step, skip-differences}
use Rattle.asn_growth.proofs.Walking.{differences-parts, nodes-parts, parts-beside}
use Rattle.asn_growth.proofs.check.+first_difference.Goals as goal

pub part_at-requires-in-loop-index : goal.part_at-requires-in-loop-index
part_at-requires-in-loop-index t c =
    let s = shape_view c.args.old.now in
    let r = shape_view c.args.new.now in
    let i = c.loop-index.index in
    let within : i < length (parts s) = omega (arith, c.loop-index-test.true, c.part_count-index-end.ensures) in
    omega (arith, within, parts-beside s r (sym c.in_default.ensures))

pub first_difference-requires : goal.first_difference-requires
first_difference-requires t c =
    let s = shape_view c.args.old.now in
    let i = c.loop-index.index in
    let part = shape_view c.part_at.result.now in
    let within : i < length (parts s) = omega (arith, c.loop-index-test.true, c.part_count-index-end.ensures) in (
      subst (λ m. node_count part < m) c.decreases (omega (arith, part-smaller s i Shape.null within, ap node_count c.part_at.ensures)),
      omega (arith, part-fits (parts s) i Shape.null part c.loop-index.next _ within c.part_at.ensures c.loop-index.invariant.left, c.requires),
    )

pub returns-in_err-next : goal.returns-in_err-next
returns-in_err-next t c =
    let s = shape_view c.args.old.now in
    let r = shape_view c.args.new.now in
    let i = c.loop-index.index in
    let within : i < length (parts s) = omega (arith, c.loop-index-test.true, c.part_count-index-end.ensures) in
    let beside : i < length (parts r) = omega (arith, within, parts-beside s r (sym c.in_default.ensures)) in
    let p = err_from_is_err_and c.from_residual.result c.from_residual.ensures.1 in
    rw (p.1, p.2) (first-of-part (parts s) (parts r) i Shape.null Shape.null (shape_view c.part_at.result.now) (shape_view c.part_at-in-loop-index.result.now) c.loop-index.next _ _ within beside c.part_at.ensures c.part_at-in-loop-index.ensures c.in_err-next.ensures c.loop-index.invariant.differ)

pub returns : goal.returns
returns t c =
    let s = shape_view c.args.old.now in
    let r = shape_view c.args.new.now in
    let past : length (parts s) ≤ c.loop-index.index = omega (arith, c.loop-index-test.false, c.part_count-index-end.ensures) in
    (omega (arith, nodes-end (parts s) c.loop-index.index past, c.loop-index.invariant.left), sym c.loop-index.invariant.differ ∙ differences-end (parts s) (parts r) c.loop-index.index c.loop-index.next past)

pub loop-index-init : goal.loop-index-init
loop-index-init t c =
    let s = shape_view c.args.old.now in
    record { left = omega (arith, nodes-parts s); differ = sym (differences-parts s (shape_view c.args.new.now) c.args.place (sym c.in_default.ensures)) }

pub loop-index-preserved : goal.loop-index-preserved
loop-index-preserved t c =
    let s = shape_view c.args.old.now in
    let r = shape_view c.args.new.now in
    let i = c.loop-index.index in
    let within : i < length (parts s) = omega (arith, c.loop-index-test.true, c.part_count-index-end.ensures) in
    let beside : i < length (parts r) = omega (arith, within, parts-beside s r (sym c.in_default.ensures)) in
    let part = shape_view c.part_at.result.now in
    record {
      left = place-step (parts s) i Shape.null part c.loop-index.next c.in_ok-next.next _ within c.part_at.ensures c.in_ok-next.ensures.0 c.loop-index.invariant.left;
      differ = skip-differences (parts s) (parts r) i Shape.null Shape.null part (shape_view c.part_at-in-loop-index.result.now) c.loop-index.next c.in_ok-next.next _ within beside c.part_at.ensures c.part_at-in-loop-index.ensures c.in_ok-next.ensures.0 c.in_ok-next.ensures.1 c.loop-index.invariant.differ;
    }
