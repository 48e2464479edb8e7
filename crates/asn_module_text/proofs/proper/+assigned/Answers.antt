use Rattle.std.specs.Global.{Vec}
use Rattle.asn_notation.specs.declared.notation.Assignment as code
use Rattle.asn_notation.specs.declared.notation.Component.{Component}
use Rattle.std.proofs.Common.{List, Bool, Option, is_none, refl, sym, ap, ◌∙◌, map, arith}
use Rattle.std.proofs.lemmas.List.{drop_all}
use Rattle.asn_model.specs.Shape.{is_item}
use Rattle.asn_notation.specs.Names.{assigned_names, element_references, first_failing, references}
use Rattle.asn_notation.specs.Notation.{elements_of, marker}
use Rattle.asn_notation.specs.View.{assignment_view, component_view, marked, notation_view}
use Rattle.asn_notation.specs.declared.notation.Components.{out-Components}
use Rattle.asn_module_text.proofs.Printing.{elements_seen}
use Rattle.asn_module_text.proofs.Properness.{passes, fails, entry_fails, entry_passes, none_join, components_assigned}
use Rattle.asn_module_text.proofs.proper.+assigned.Goals as goal

pub are_all_assigned-loop-component-init : goal.are_all_assigned-loop-component-init
are_all_assigned-loop-component-init t c = refl

pub are_all_assigned-returns-then-not-are_references_assigned : goal.are_all_assigned-returns-then-not-are_references_assigned
are_all_assigned-returns-then-not-are_references_assigned t c =
    sym (c.loop-component.invariant ∙ entry_fails (λ xs. is_none (first_failing (λ n. is_item (assigned_names (map assignment_view c.args.assignments.now)) n) (element_references (elements_seen xs)))) (λ x. is_none (first_failing (λ n. is_item (assigned_names (map assignment_view c.args.assignments.now)) n) (references (notation_view x.notation)))) (λ x xs. none_join (λ n. is_item (assigned_names (map assignment_view c.args.assignments.now)) n) (references (notation_view x.notation)) (element_references (elements_seen xs))) c.args.components.now c.loop-component.component-index c.component-item.result c.loop-component-test.true c.component-item.is
    (sym c.are_references_assigned.ensures ∙ c.if-not-are_references_assigned.true))

pub are_all_assigned-loop-component-preserved : goal.are_all_assigned-loop-component-preserved
are_all_assigned-loop-component-preserved t c =
    c.loop-component.invariant ∙ entry_passes (λ xs. is_none (first_failing (λ n. is_item (assigned_names (map assignment_view c.args.assignments.now)) n) (element_references (elements_seen xs)))) (λ x. is_none (first_failing (λ n. is_item (assigned_names (map assignment_view c.args.assignments.now)) n) (references (notation_view x.notation)))) (λ x xs. none_join (λ n. is_item (assigned_names (map assignment_view c.args.assignments.now)) n) (references (notation_view x.notation)) (element_references (elements_seen xs))) c.args.components.now c.loop-component.component-index c.component-item.result c.loop-component-test.true c.component-item.is
    (sym c.are_references_assigned.ensures ∙ c.if-not-are_references_assigned.false)

pub are_all_assigned-returns : goal.are_all_assigned-returns
are_all_assigned-returns t c = sym (c.loop-component.invariant ∙ ap (λ xs. is_none (first_failing (λ n. is_item (assigned_names (map assignment_view c.args.assignments.now)) n) (element_references (elements_seen xs)))) (drop_all c.loop-component.component-index c.args.components.now (omega (arith, c.loop-component-test.false))))

abbrev Test : List code.Assignment → List Component → Bool
Test assignments xs = is_none (first_failing (λ n. is_item (assigned_names (map assignment_view assignments)) n) (element_references (elements_seen xs)))

abbrev AddedTest : List code.Assignment → Option (Vec Component) → Bool
AddedTest assignments a = is_none (first_failing (λ n. is_item (assigned_names (map assignment_view assignments)) n) (element_references (elements_of (marked component_view marker a))))

pub are_components_assigned-returns-then-not-are_all_assigned : goal.are_components_assigned-returns-then-not-are_all_assigned
are_components_assigned-returns-then-not-are_all_assigned t c =
    let o = out-Components c.args.components.now in
    let all = c.args.assignments.now in
    sym (components_assigned (λ n. is_item (assigned_names (map assignment_view all)) n) c.args.components.now
    ∙ fails (Test all o.root.items) (AddedTest all o.added) (ap (Test all) (sym c.deref.ensures.value) ∙ sym c.are_all_assigned.ensures ∙ c.if-not-are_all_assigned.true))

pub are_components_assigned-returns-in-Some : goal.are_components_assigned-returns-in-Some
are_components_assigned-returns-in-Some t c =
    let o = out-Components c.args.components.now in
    let all = c.args.assignments.now in
    c.are_all_assigned-in-Some.ensures ∙ ap (Test all) c.deref-in-Some.ensures.value
    ∙ sym (components_assigned (λ n. is_item (assigned_names (map assignment_view all)) n) c.args.components.now
    ∙ passes (Test all o.root.items) (AddedTest all o.added) (ap (Test all) (sym c.deref.ensures.value) ∙ sym c.are_all_assigned.ensures ∙ c.if-not-are_all_assigned.false)
    ∙ ap (AddedTest all) c.in-Some.is)

pub are_components_assigned-returns-in-None : goal.are_components_assigned-returns-in-None
are_components_assigned-returns-in-None t c =
    let o = out-Components c.args.components.now in
    let all = c.args.assignments.now in
    sym (components_assigned (λ n. is_item (assigned_names (map assignment_view all)) n) c.args.components.now
    ∙ passes (Test all o.root.items) (AddedTest all o.added) (ap (Test all) (sym c.deref.ensures.value) ∙ sym c.are_all_assigned.ensures ∙ c.if-not-are_all_assigned.false)
    ∙ ap (AddedTest all) c.in-None.is)
