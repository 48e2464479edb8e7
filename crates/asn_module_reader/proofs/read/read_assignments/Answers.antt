use Rattle.std.proofs.Common.{sym, ap, ◌∙◌, subst, map, [], ◌∷◌}
use Rattle.std.proofs.lemmas.Grind.{common_steps}
use Rattle.std.proofs.Common.{arith}
use Rattle.std.specs.Str.{chars}
use Rattle.asn_notation.specs.View.{assignment_view}
use Rattle.asn_module_reader.specs.TokenView.{token_view}
use Rattle.asn_module_reader.proofs.EntriesSeen.{map_join}
use Rattle.asn_module_reader.proofs.ModulesRead.{GoingOn, going_on_next, going_on_end, going_on_none}
use Rattle.asn_module_reader.proofs.Results.{taken}
use Rattle.asn_module_reader.proofs.read.read_assignments.Goals as goal

pub returns-in-End-clause-ok : goal.returns-in-End-clause-ok
returns-in-End-clause-ok c = going_on_end _ _ c.assignments.cursor.rest _ c.assignments.invariant (ap token_view (sym c.in-End.is) ∙ c.in_ok-take_token.ensures.found)

pub returns-in_err-read_assignment-in-Word-clause-none : goal.returns-in_err-read_assignment-in-Word-clause-none
returns-in_err-read_assignment-in-Word-clause-none c = λ e assignments p.
    let word = ap token_view (sym c.in-Word.is) ∙ c.in_ok-take_token.ensures.found in
    going_on_none _ _ c.assignments.cursor.rest c.take_token.new.cursor.rest _ _ c.assignments.invariant word (taken _ _ c.in-Word.is tt c.in_ok-take_token.ensures.moves) (c.read_assignment.ensures.none (grind (arith, common_steps))) assignments p

pub assignments-preserved : goal.assignments-preserved
assignments-preserved c =
    let word = ap token_view (sym c.in-Word.is) ∙ c.in_ok-take_token.ensures.found in
    let a = c.in_ok-read_assignment-in-Word.field-0 in
    subst (λ z. GoingOn 64 (chars c.args.input.now) c.read_assignment.new.cursor.rest z)
    (sym (ap (λ xs. map assignment_view xs) c.in_ok-push-in-Word.ensures.items ∙ map_join assignment_view c.assignments.assignments.items (a ∷ [])))
    (going_on_next _ _ c.assignments.cursor.rest c.take_token.new.cursor.rest _ _ _ (assignment_view a) c.assignments.invariant word (taken _ _ c.in-Word.is tt c.in_ok-take_token.ensures.moves) c.in_ok-read_assignment-in-Word.ensures.ok)
