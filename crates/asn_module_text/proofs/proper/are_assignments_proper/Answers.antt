use Rattle.std.proofs.Common.{refl, sym, ap, ◌∙◌, map, arith}
use Rattle.std.proofs.lemmas.List.{drop_all}
use Rattle.asn_notation.specs.Proper.{are_assignments_proper, is_proper_assignment}
use Rattle.asn_notation.specs.View.{assignment_view}
use Rattle.asn_module_text.proofs.Properness.{entry_fails, entry_passes}
use Rattle.asn_module_text.proofs.proper.are_assignments_proper.Goals as goal

pub loop-assignment-init : goal.loop-assignment-init
loop-assignment-init c = refl

pub returns-then-not-is_proper_assignment : goal.returns-then-not-is_proper_assignment
returns-then-not-is_proper_assignment c =
    sym (c.loop-assignment.invariant ∙ entry_fails (λ xs. are_assignments_proper 64 (map assignment_view xs)) (λ x. is_proper_assignment 64 (assignment_view x)) (λ x xs. refl) c.args.assignments.now c.loop-assignment.assignment-index c.assignment-item.result c.loop-assignment-test.true c.assignment-item.is
    (sym c.is_proper_assignment.ensures ∙ c.if-not-is_proper_assignment.true))

pub loop-assignment-preserved : goal.loop-assignment-preserved
loop-assignment-preserved c =
    c.loop-assignment.invariant ∙ entry_passes (λ xs. are_assignments_proper 64 (map assignment_view xs)) (λ x. is_proper_assignment 64 (assignment_view x)) (λ x xs. refl) c.args.assignments.now c.loop-assignment.assignment-index c.assignment-item.result c.loop-assignment-test.true c.assignment-item.is
    (sym c.is_proper_assignment.ensures ∙ c.if-not-is_proper_assignment.false)

pub returns : goal.returns
returns c = sym (c.loop-assignment.invariant ∙ ap (λ xs. are_assignments_proper 64 (map assignment_view xs)) (drop_all c.loop-assignment.assignment-index c.args.assignments.now (omega (arith, c.loop-assignment-test.false))))
