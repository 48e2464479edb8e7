use Rattle.std.proofs.Common.{map, refl, arith}
use Rattle.std.proofs.lemmas.Result.{err_from_is_err_and}
use Rattle.asn_modules_rules.specs.included.TooLarge.{first_too_large_in}
use Rattle.asn_modules_rules.specs.included.Types.{type_view}
use Rattle.asn_modules_rules.proofs.included.Telling.{type_passed, type_told, types_end}
use Rattle.asn_modules_rules.proofs.included.check.check_types.Goals as goal

pub loop-assigned-init : goal.loop-assigned-init
loop-assigned-init c = λ ss is. refl

pub loop-assigned-preserved : goal.loop-assigned-preserved
loop-assigned-preserved c = λ ss is.
    let ts = map type_view c.args.types.now in
    type_passed ss ts (first_too_large_in ss ts) c.args.types.now c.loop-assigned.assigned-index c.loop-assigned.left _ c.assigned-item.result (type_view c.stands_for-within.result.now) c.loop-assigned-test.true c.assigned-item.is
    c.stands_for-within.ensures (c.loop-assigned.invariant ss is) (c.in_ok-left.ensures ss is)

pub returns-in_err-left : goal.returns-in_err-left
returns-in_err-left c = λ ss is.
    let ts = map type_view c.args.types.now in
    let p = err_from_is_err_and c.from_residual.result c.from_residual.ensures.1 in
    rw (p.1, p.2) (type_told ss ts (first_too_large_in ss ts) c.args.types.now c.loop-assigned.assigned-index c.loop-assigned.left c.assigned-item.result (type_view c.stands_for-within.result.now) c.in_err-left.field-0.0 c.loop-assigned-test.true c.assigned-item.is
    c.stands_for-within.ensures (c.loop-assigned.invariant ss is) (c.in_err-left.ensures ss is))

pub returns : goal.returns
returns c = λ ss is.
    let ts = map type_view c.args.types.now in
    types_end ss ts (first_too_large_in ss ts) c.args.types.now c.loop-assigned.assigned-index c.loop-assigned.left (omega (arith, c.loop-assigned-test.false)) (c.loop-assigned.invariant ss is)
