use Rattle.std.proofs.Common.{◌<◌, ◌≤◌, ap, sym, ◌∙◌, subst, arith, length}
use Rattle.asn_model.specs.Shape.{Shape}
use Rattle.asn_model.specs.ShapeView.{shape_view}
use Rattle.asn_growth.specs.Parts.{node_count, parts}
use Rattle.asn_growth.proofs.Steps.{add-differences, differences-end, nodes-end, part-fits, part-smaller, place-step}
use Rattle.asn_growth.proofs.Walking.{differences-parts, nodes-parts, parts-beside}
use Rattle.std.proofs.Common.{◌++◌, append-nil}
use Rattle.asn_growth.proofs.collect.+add_differences.Goals as goal

pub part_at-requires-in-loop-index : goal.part_at-requires-in-loop-index
part_at-requires-in-loop-index t c =
    let s = shape_view c.args.old.now in
    let r = shape_view c.args.new.now in
    let i = c.loop-index.index in
    let within : i < length (parts s) = omega (arith, c.loop-index-test.true, c.part_count-index-end.ensures) in
    omega (arith, within, parts-beside s r (sym c.in_default.ensures))

pub add_differences-requires : goal.add_differences-requires
add_differences-requires t c =
    let s = shape_view c.args.old.now in
    let i = c.loop-index.index in
    let part = shape_view c.part_at.result.now in
    let within : i < length (parts s) = omega (arith, c.loop-index-test.true, c.part_count-index-end.ensures) in (
      subst (λ m. node_count part < m) c.decreases (omega (arith, part-smaller s i Shape.null within, ap node_count c.part_at.ensures)),
      omega (arith, part-fits (parts s) i Shape.null part c.loop-index.next _ within c.part_at.ensures c.loop-index.invariant.left, c.requires),
    )

pub returns : goal.returns
returns t c =
    let s = shape_view c.args.old.now in
    let r = shape_view c.args.new.now in
    let past : length (parts s) ≤ c.loop-index.index = omega (arith, c.loop-index-test.false, c.part_count-index-end.ensures) in (
      omega (arith, nodes-end (parts s) c.loop-index.index past, c.loop-index.invariant.left),
      sym (append-nil c.loop-index.found.items) ∙ ap (λ l. c.loop-index.found.items ++ l) (sym (differences-end (parts s) (parts r) c.loop-index.index c.loop-index.next past)) ∙ c.loop-index.invariant.found,
    )

pub loop-index-init : goal.loop-index-init
loop-index-init t c =
    let s = shape_view c.args.old.now in
    record { left = omega (arith, nodes-parts s); found = ap (λ l. c.args.found.now.items ++ l) (sym (differences-parts s (shape_view c.args.new.now) c.args.place (sym c.in_default.ensures))) }

pub loop-index-preserved : goal.loop-index-preserved
loop-index-preserved t c =
    let s = shape_view c.args.old.now in
    let r = shape_view c.args.new.now in
    let i = c.loop-index.index in
    let within : i < length (parts s) = omega (arith, c.loop-index-test.true, c.part_count-index-end.ensures) in
    let beside : i < length (parts r) = omega (arith, within, parts-beside s r (sym c.in_default.ensures)) in
    let part = shape_view c.part_at.result.now in
    record {
      left = place-step (parts s) i Shape.null part c.loop-index.next c.in_ok-next.next _ within c.part_at.ensures c.in_ok-next.ensures.0 c.loop-index.invariant.left;
      found = add-differences (parts s) (parts r) i Shape.null Shape.null part (shape_view c.part_at-in-loop-index.result.now) c.loop-index.next c.in_ok-next.next c.loop-index.found.items c.add_differences.new.found.items _ within beside c.part_at.ensures
          c.part_at-in-loop-index.ensures c.in_ok-next.ensures.0 c.in_ok-next.ensures.1 c.loop-index.invariant.found;
    }
