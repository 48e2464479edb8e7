use Rattle.std.proofs.Common.{◌≡◌, [], ◌∷◌, ◌++◌, List, sym, ap, subst, ◌∙◌, map, None}
use Rattle.std.proofs.lemmas.Result.{err_from_is_err_and}
use Rattle.asn_modules_grammar.specs.notation.Modules.{TextParses}
use Rattle.asn_modules_grammar.specs.notation.View.{assignment_view, module_view}
use Rattle.asn_modules_grammar.specs.declared.notation.module.Module.{Module}
use Rattle.asn_modules_reader.proofs.ModulesRead.{bare_read, bare_none, bare_unended}
use Rattle.asn_modules_reader.proofs.module.read_bare.Goals as goal

single : (xs ys : List Module) (m : Module) → xs ≡ [] → ys ≡ xs ++ m ∷ [] → map module_view ys ≡ module_view m ∷ []
single xs ys m e f = ap (map module_view) (f ∙ ap (λ l. l ++ m ∷ []) e)

pub returns-in_err-assignments-clause-none : goal.returns-in_err-assignments-clause-none
returns-in_err-assignments-clause-none c =
    let p = err_from_is_err_and c.from_residual.result c.from_residual.ensures.1 in
    rw (p.1, p.2) (λ syntax all q. bare_none 64 c.args.tokens.now c.requires (c.in_err-assignments.ensures.found syntax) all q)

pub returns-in-Some-clause-none : goal.returns-in-Some-clause-none
returns-in-Some-clause-none c = λ syntax all q.
    bare_unended 64 c.args.tokens.now c.in_ok-assignments.rest.now (map assignment_view c.in_ok-assignments.assignments.items) c.requires c.in_ok-assignments.ensures.found c.in-Some.ensures all q

pub returns-clause-ok : goal.returns-clause-ok
returns-clause-ok c =
    subst (λ z. TextParses 64 c.args.tokens.now z) (sym (single c.new-modules.result.items c.push.new.self.items (record { header = None; assignments = c.in_ok-assignments.assignments }) c.new-modules.ensures.items c.in_ok-push.ensures.items))
    (bare_read 64 c.args.tokens.now c.in_ok-assignments.rest.now (map assignment_view c.in_ok-assignments.assignments.items) c.requires c.in_ok-assignments.ensures.found c.in_default.ensures)
