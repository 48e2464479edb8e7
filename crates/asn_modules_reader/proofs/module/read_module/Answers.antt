use Rattle.std.proofs.Common.{map, arith}
use Rattle.std.proofs.lemmas.Result.{err_from_is_err_and}
use Rattle.asn_modules_grammar.specs.headers.Views.{header_view}
use Rattle.asn_modules_grammar.specs.notation.View.{assignment_view}
use Rattle.asn_modules_reader.proofs.HeadersShorter.{header_lt}
use Rattle.asn_modules_reader.proofs.ModulesRead.{module_read, module_headless, module_unassigned, module_unended}
use Rattle.asn_modules_reader.proofs.module.read_module.Goals as goal

pub returns-in_err-header-clause-found : goal.returns-in_err-header-clause-found
returns-in_err-header-clause-found c =
    let p = err_from_is_err_and c.from_residual.result c.from_residual.ensures.1 in
    rw (p.1, p.2) (λ syntax m rest q. module_headless 64 c.args.tokens.now (c.in_err-header.ensures.none syntax) m rest q)

pub returns-in_err-assignments-clause-found : goal.returns-in_err-assignments-clause-found
returns-in_err-assignments-clause-found c =
    let p = err_from_is_err_and c.from_residual-in_err-assignments.result c.from_residual-in_err-assignments.ensures.1 in
    rw (p.1, p.2) (λ syntax m rest q.
    module_unassigned 64 c.args.tokens.now c.in_ok-header.assigned.now (header_view c.in_ok-header.header) c.in_ok-header.ensures.ok (c.in_err-assignments.ensures.found syntax) m rest q)

pub returns-in_default-clause-found : goal.returns-in_default-clause-found
returns-in_default-clause-found c = λ syntax m rest q.
    module_unended 64 c.args.tokens.now c.in_ok-header.assigned.now c.in_ok-assignments.behind.now (header_view c.in_ok-header.header) (map assignment_view c.in_ok-assignments.assignments.items)
    c.in_ok-header.ensures.ok c.in_ok-assignments.ensures.found c.in_default.ensures m rest q

pub returns-clause-found : goal.returns-clause-found
returns-clause-found c =
    module_read 64 c.args.tokens.now c.in_ok-header.assigned.now c.in_ok-assignments.behind.now c.in-Some.rest.now (header_view c.in_ok-header.header) (map assignment_view c.in_ok-assignments.assignments.items)
    c.in_ok-header.ensures.ok c.in_ok-assignments.ensures.found c.in-Some.ensures.0 c.in-Some.ensures.1

pub returns-clause-shorter : goal.returns-clause-shorter
returns-clause-shorter c =
    omega (arith, header_lt c.args.tokens.now c.in_ok-header.assigned.now (header_view c.in_ok-header.header) c.in_ok-header.ensures.ok, c.in_ok-assignments.ensures.shorter, c.in-Some.ensures.2)
