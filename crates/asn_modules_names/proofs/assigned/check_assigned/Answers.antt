use Rattle.std.proofs.Common.{◌≡◌, None, refl, map, sym, subst, arith}
use Rattle.std.proofs.lemmas.Result.{err_from_is_err_and}
use Rattle.asn_modules_names.specs.Assigned.{assigned_again, assigned_twice, first_found}
use Rattle.asn_modules_names.specs.Faults.{Tells}
use Rattle.asn_modules_names.specs.Mentions.{source_view}
use Rattle.asn_modules_names.proofs.Founds.{found_behind, found_here, found_nowhere, tells_at}
use Rattle.asn_modules_grammar.specs.notation.View.{module_view}
use Rattle.asn_modules_names.proofs.assigned.check_assigned.Goals as goal

pub loop-source-init : goal.loop-source-init
loop-source-init c = refl

pub returns-in_err-check_each : goal.returns-in_err-check_each
returns-in_err-check_each c =
    let s = c.source-item.result in
    let p = err_from_is_err_and c.from_residual.result c.from_residual.ensures.1 in
    rw (p.1, p.2) (found_here assigned_again source_view c.args.sources.now (first_found assigned_again (map source_view c.args.sources.now)) _ c.loop-source.source-index s
    c.loop-source-test.true c.source-item.is c.loop-source.invariant
    (tells_at (λ l. first_found (assigned_twice (source_view s)) (map module_view l)) _ _ _ c.as_slice.ensures.value c.in_err-check_each.ensures))

pub loop-source-preserved : goal.loop-source-preserved
loop-source-preserved c =
    let s = c.source-item.result in
    found_behind assigned_again source_view c.args.sources.now (first_found assigned_again (map source_view c.args.sources.now)) c.loop-source.source-index s
    c.loop-source-test.true c.source-item.is c.loop-source.invariant
    (subst (λ l. first_found (assigned_twice (source_view s)) (map module_view l) ≡ None) c.as_slice.ensures.value c.in_ok-check_each.ensures)

pub returns : goal.returns
returns c =
    found_nowhere assigned_again source_view c.args.sources.now (first_found assigned_again (map source_view c.args.sources.now)) c.loop-source.source-index (omega (arith, c.loop-source-test.false)) c.loop-source.invariant
