use Rattle.std.proofs.Common.{refl, map, arith}
use Rattle.std.proofs.lemmas.Result.{err_from_is_err_and}
use Rattle.asn_modules_names.specs.Assigned.{assigned_twice, first_found}
use Rattle.asn_modules_names.specs.Mentions.{source_view}
use Rattle.asn_modules_names.proofs.Founds.{found_behind, found_here, found_nowhere}
use Rattle.asn_modules_grammar.specs.notation.View.{module_view}
use Rattle.asn_modules_names.proofs.assigned.check_each.Goals as goal

pub loop-parsed-init : goal.loop-parsed-init
loop-parsed-init c = refl

pub returns-in_err-check_module : goal.returns-in_err-check_module
returns-in_err-check_module c =
    let f = assigned_twice (source_view c.args.source.now) in
    let p = err_from_is_err_and c.from_residual.result c.from_residual.ensures.1 in
    rw (p.1, p.2) (found_here f module_view c.args.modules.now (first_found f (map module_view c.args.modules.now)) _ c.loop-parsed.parsed-index c.parsed-item.result
    c.loop-parsed-test.true c.parsed-item.is c.loop-parsed.invariant c.in_err-check_module.ensures)

pub loop-parsed-preserved : goal.loop-parsed-preserved
loop-parsed-preserved c =
    let f = assigned_twice (source_view c.args.source.now) in
    found_behind f module_view c.args.modules.now (first_found f (map module_view c.args.modules.now)) c.loop-parsed.parsed-index c.parsed-item.result
    c.loop-parsed-test.true c.parsed-item.is c.loop-parsed.invariant c.in_ok-check_module.ensures

pub returns : goal.returns
returns c =
    let f = assigned_twice (source_view c.args.source.now) in
    found_nowhere f module_view c.args.modules.now (first_found f (map module_view c.args.modules.now)) c.loop-parsed.parsed-index (omega (arith, c.loop-parsed-test.false)) c.loop-parsed.invariant
