use Rattle.std.proofs.Common.{sym, ◌∙◌}
use Rattle.std.proofs.lemmas.Result.{err_from_is_err_and}
use Rattle.asn_modules_grammar.specs.notation.Modules.{macro_at}
use Rattle.asn_modules_grammar.specs.notation.View.{assignment_view, notation_view}
use Rattle.asn_modules_reader.proofs.MacrosRead.{unmade, made_found}
use Rattle.asn_modules_reader.proofs.ModulesRead.{small_none, type_read, type_none, macro_read, macro_broken, value_read, value_untyped, value_unassigned, value_none}
use Rattle.asn_modules_reader.proofs.assignment.read_body.Goals as goal

pub returns-then-is_small-clause-found : goal.returns-then-is_small-clause-found
returns-then-is_small-clause-found c = λ syntax a rest q.
    small_none 64 c.args.name c.args.tokens.now c.in-Some.ensures.0 (sym c.is_small.ensures ∙ c.if-is_small.true) a rest q

pub returns-in_err-assigned-clause-found : goal.returns-in_err-assigned-clause-found
returns-in_err-assigned-clause-found c =
    let p = err_from_is_err_and c.from_residual.result c.from_residual.ensures.1 in
    rw (p.1, p.2) (λ syntax a rest q.
    type_none 64 c.args.name c.args.tokens.now c.in-Some.inner.now c.in-Some.ensures.0 c.in-Some.ensures.1 (c.in_err-assigned.ensures.found syntax) a rest q)

pub returns-in-Some-clause-found : goal.returns-in-Some-clause-found
returns-in-Some-clause-found c =
    let r = c.in_ok-assigned in
    type_read 64 c.args.name c.args.tokens.now c.in-Some.inner.now r.rest.now (notation_view r.assigned) c.in-Some.ensures.0 (sym c.is_small.ensures ∙ c.if-is_small.false) c.in-Some.ensures.1 r.ensures.found

pub returns-in_err-made-clause-found : goal.returns-in_err-made-clause-found
returns-in_err-made-clause-found c =
    let p = err_from_is_err_and c.from_residual-in_err-made.result c.from_residual-in_err-made.ensures.1 in
    rw (p.1, p.2) (λ syntax a rest q. macro_broken 64 c.args.name c.args.tokens.now c.in_default.ensures (c.in_err-made.ensures.found syntax) a rest q)

pub returns-in-Some-made-clause-found : goal.returns-in-Some-made-clause-found
returns-in-Some-made-clause-found c =
    let f = c.in-Some-made.found in
    macro_read 64 c.args.name c.args.tokens.now f.1.now (assignment_view f.0) (made_found assignment_view (macro_at c.args.name c.args.tokens.now) c.args.tokens.now c.in_ok-made.made f c.in-Some-made.is c.in_ok-made.ensures.found)

pub returns-in_err-notation-clause-found : goal.returns-in_err-notation-clause-found
returns-in_err-notation-clause-found c =
    let p = err_from_is_err_and c.from_residual-in_err-notation.result c.from_residual-in_err-notation.ensures.1 in
    rw (p.1, p.2) (λ syntax a rest q. value_untyped 64 c.args.name c.args.tokens.now c.in_default.ensures (unmade assignment_view (macro_at c.args.name c.args.tokens.now) c.args.tokens.now c.in_ok-made.made c.in_default-made.not-Some c.in_ok-made.ensures.found) (c.in_err-notation.ensures.found syntax) a rest q)

pub returns-in_default-take_sign-clause-found : goal.returns-in_default-take_sign-clause-found
returns-in_default-take_sign-clause-found c = λ syntax a rest q.
    value_unassigned 64 c.args.name c.args.tokens.now c.in_ok-notation.assigning.now (notation_view c.in_ok-notation.notation) c.in_default.ensures (unmade assignment_view (macro_at c.args.name c.args.tokens.now) c.args.tokens.now c.in_ok-made.made c.in_default-made.not-Some c.in_ok-made.ensures.found) c.in_ok-notation.ensures.found c.in_default-take_sign.ensures a rest q

pub returns-in_err-value-clause-found : goal.returns-in_err-value-clause-found
returns-in_err-value-clause-found c =
    let p = err_from_is_err_and c.from_residual-in_err-value.result c.from_residual-in_err-value.ensures.1 in
    rw (p.1, p.2) (λ syntax a rest q.
    value_none 64 c.args.name c.args.tokens.now c.in_ok-notation.assigning.now c.in-Some-take_sign.inner.now (notation_view c.in_ok-notation.notation)
    c.in_default.ensures (unmade assignment_view (macro_at c.args.name c.args.tokens.now) c.args.tokens.now c.in_ok-made.made c.in_default-made.not-Some c.in_ok-made.ensures.found) c.in_ok-notation.ensures.found c.in-Some-take_sign.ensures.1 (c.in_err-value.ensures.found syntax) a rest q)

pub returns-clause-found : goal.returns-clause-found
returns-clause-found c =
    value_read 64 c.args.name c.args.tokens.now c.in_ok-notation.assigning.now c.in-Some-take_sign.inner.now c.in_ok-value.rest.now (notation_view c.in_ok-notation.notation) c.in_ok-value.value
    c.in_default.ensures (unmade assignment_view (macro_at c.args.name c.args.tokens.now) c.args.tokens.now c.in_ok-made.made c.in_default-made.not-Some c.in_ok-made.ensures.found) c.in_ok-notation.ensures.found c.in-Some-take_sign.ensures.0 c.in-Some-take_sign.ensures.1 c.in_ok-value.ensures.found
