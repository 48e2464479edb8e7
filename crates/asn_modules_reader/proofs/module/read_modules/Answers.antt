use Rattle.std.proofs.Common.{ap, ◌∙◌, map}
use Rattle.std.proofs.lemmas.Result.{err_from_is_err_and}
use Rattle.asn_modules_grammar.specs.notation.View.{module_view}
use Rattle.asn_modules_reader.proofs.parts.EntriesSeen.{map_join}
use Rattle.asn_modules_reader.proofs.ModulesRead.{modules_start, modules_next, modules_end, modules_none}
use Rattle.asn_modules_reader.proofs.module.read_modules.Goals as goal

pub modules-init : goal.modules-init
modules-init c = modules_start 64 c.args.tokens.now (map module_view c.new-modules.result.items) (ap (map module_view) c.new-modules.ensures.items)

pub returns-in_default-clause-ok : goal.returns-in_default-clause-ok
returns-in_default-clause-ok c = modules_end 64 c.args.tokens.now c.modules.rest.now (map module_view c.modules.modules.items) c.modules.invariant c.in_default.ensures

pub returns-in_err-module-clause-none : goal.returns-in_err-module-clause-none
returns-in_err-module-clause-none c =
    let p = err_from_is_err_and c.from_residual.result c.from_residual.ensures.1 in
    rw (p.1, p.2) (λ syntax all q.
    modules_none 64 c.args.tokens.now c.modules.rest.now (map module_view c.modules.modules.items) c.modules.invariant c.in-Some.ensures (c.in_err-module.ensures.found syntax) all q)

pub modules-preserved : goal.modules-preserved
modules-preserved c =
    modules_next 64 c.args.tokens.now c.modules.rest.now c.in_ok-module.after.now (map module_view c.modules.modules.items) (map module_view c.push.new.self.items) (module_view c.in_ok-module.module)
    c.modules.invariant c.in_ok-module.ensures.found (ap (map module_view) c.in_ok-push.ensures.items ∙ map_join module_view c.modules.modules.items _)
