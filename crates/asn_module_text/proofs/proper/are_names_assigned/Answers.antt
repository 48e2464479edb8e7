use Rattle.std.proofs.Common.{is_none, refl, sym, ap, ◌∙◌, map, arith}
use Rattle.std.proofs.lemmas.List.{drop_all}
use Rattle.asn_model.specs.Shape.{is_item}
use Rattle.asn_notation.specs.Names.{assigned_names, first_failing, module_references, references}
use Rattle.asn_notation.specs.View.{assignment_view, notation_view}
use Rattle.asn_module_text.proofs.Properness.{none_join}
use Rattle.asn_module_text.proofs.Properness.{entry_fails, entry_passes}
use Rattle.asn_module_text.proofs.proper.are_names_assigned.Goals as goal

pub loop-assignment-init : goal.loop-assignment-init
loop-assignment-init c = refl

pub returns-then-not-are_references_assigned : goal.returns-then-not-are_references_assigned
returns-then-not-are_references_assigned c =
    sym (c.loop-assignment.invariant ∙ entry_fails (λ xs. is_none (first_failing (λ n. is_item (assigned_names (map assignment_view c.args.assignments.now)) n) (module_references (map assignment_view xs)))) (λ x. is_none (first_failing (λ n. is_item (assigned_names (map assignment_view c.args.assignments.now)) n) (references (notation_view x.notation)))) (λ x xs. none_join (λ n. is_item (assigned_names (map assignment_view c.args.assignments.now)) n) (references (notation_view x.notation)) (module_references (map assignment_view xs))) c.args.assignments.now c.loop-assignment.assignment-index c.assignment-item.result c.loop-assignment-test.true c.assignment-item.is
    (sym c.are_references_assigned.ensures ∙ c.if-not-are_references_assigned.true))

pub loop-assignment-preserved : goal.loop-assignment-preserved
loop-assignment-preserved c =
    c.loop-assignment.invariant ∙ entry_passes (λ xs. is_none (first_failing (λ n. is_item (assigned_names (map assignment_view c.args.assignments.now)) n) (module_references (map assignment_view xs)))) (λ x. is_none (first_failing (λ n. is_item (assigned_names (map assignment_view c.args.assignments.now)) n) (references (notation_view x.notation)))) (λ x xs. none_join (λ n. is_item (assigned_names (map assignment_view c.args.assignments.now)) n) (references (notation_view x.notation)) (module_references (map assignment_view xs))) c.args.assignments.now c.loop-assignment.assignment-index c.assignment-item.result c.loop-assignment-test.true c.assignment-item.is
    (sym c.are_references_assigned.ensures ∙ c.if-not-are_references_assigned.false)

pub returns : goal.returns
returns c = sym (c.loop-assignment.invariant ∙ ap (λ xs. is_none (first_failing (λ n. is_item (assigned_names (map assignment_view c.args.assignments.now)) n) (module_references (map assignment_view xs)))) (drop_all c.loop-assignment.assignment-index c.args.assignments.now (omega (arith, c.loop-assignment-test.false))))
