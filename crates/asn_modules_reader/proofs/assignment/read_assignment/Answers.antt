use Rattle.std.proofs.Common.{sym, ◌∙◌}
use Rattle.std.proofs.lemmas.Result.{err_from_is_err_and}
use Rattle.asn_modules_grammar.specs.notation.View.{assignment_view}
use Rattle.asn_modules_reader.proofs.ModulesRead.{unnamed, unclosed_parameters, bodiless, with_them, without_them}
use Rattle.asn_modules_reader.proofs.assignment.read_assignment.Goals as goal

pub returns-in_default-clause-found : goal.returns-in_default-clause-found
returns-in_default-clause-found c = λ syntax a rest q. unnamed 64 c.args.tokens.now c.in_default.ensures a rest q

pub returns-in_err-body-clause-found : goal.returns-in_err-body-clause-found
returns-in_err-body-clause-found c =
    let p = err_from_is_err_and c.from_residual.result c.from_residual.ensures.1 in
    rw (p.1, p.2) (λ syntax a rest q. unclosed_parameters 64 c.args.tokens.now c.in-Some.behind.now c.in-Some.name c.in-Some.ensures.0 (c.in_err-body.ensures.found syntax) a rest q)

pub returns-in_err-assignment-clause-found : goal.returns-in_err-assignment-clause-found
returns-in_err-assignment-clause-found c =
    let p = err_from_is_err_and c.from_residual-in_err-assignment.result c.from_residual-in_err-assignment.ensures.1 in
    rw (p.1, p.2) (λ syntax a rest q.
    bodiless 64 c.args.tokens.now c.in-Some.behind.now c.in_ok-body.body.now c.in-Some.name c.in-Some.ensures.0 c.in_ok-body.ensures.found (c.in_err-assignment.ensures.found syntax) a rest q)

pub returns-in_err-parameters-clause-found : goal.returns-in_err-parameters-clause-found
returns-in_err-parameters-clause-found c =
    let p = err_from_is_err_and c.from_residual-in_err-parameters.result c.from_residual-in_err-parameters.ensures.1 in
    rw (p.1, p.2) (λ syntax a rest q. c.in_err-parameters.ensures.err syntax)

pub returns-then-opens_brace-clause-found : goal.returns-then-opens_brace-clause-found
returns-then-opens_brace-clause-found c =
    let r = c.in_ok-assignment in
    with_them 64 c.args.tokens.now c.in-Some.behind.now c.in_ok-body.body.now r.rest.now c.in-Some.name (assignment_view r.assignment) (assignment_view c.with_parameters.result) _
    c.in-Some.ensures.0 c.in_ok-body.ensures.found r.ensures.found (sym c.opens_brace.ensures ∙ c.if-opens_brace.true) c.in_ok-parameters.ensures.ok c.with_parameters.ensures

pub returns-clause-found : goal.returns-clause-found
returns-clause-found c =
    let r = c.in_ok-assignment in
    without_them 64 c.args.tokens.now c.in-Some.behind.now c.in_ok-body.body.now r.rest.now c.in-Some.name (assignment_view r.assignment)
    c.in-Some.ensures.0 c.in_ok-body.ensures.found r.ensures.found (sym c.opens_brace.ensures ∙ c.if-opens_brace.false)
