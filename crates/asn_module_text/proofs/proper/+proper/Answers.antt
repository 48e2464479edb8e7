use Rattle.std.proofs.Common.{ℕ, List, Bool, Option, refl, sym, ap, ◌∙◌, ◌+◌, add-one, arith}
use Rattle.std.specs.Global.{Vec}
use Rattle.asn_notation.specs.declared.notation.Component.{Component}
use Rattle.std.proofs.lemmas.List.{drop_all}
use Rattle.asn_model.specs.Shape.{SeqKind}
use Rattle.asn_notation.specs.Notation.{elements_of, marker}
use Rattle.asn_notation.specs.Proper.{are_elements_proper, is_element_proper, is_proper_notation}
use Rattle.asn_notation.specs.View.{component_view, marked, notation_view}
use Rattle.asn_notation.specs.declared.notation.Components.{out-Components}
use Rattle.asn_notation.proofs.Viewing.{sequence_viewed, set_viewed, choice_viewed, sequence_of_viewed, set_of_viewed}
use Rattle.asn_module_text.proofs.Printing.{elements_seen}
use Rattle.asn_module_text.proofs.Properness.{passes, fails, entry_fails, entry_passes, components_proper, members_arm, choice_arm, list_arm}
use Rattle.asn_module_text.proofs.proper.+proper.Goals as goal

pub are_all_proper-loop-component-init : goal.are_all_proper-loop-component-init
are_all_proper-loop-component-init t c = refl

pub are_all_proper-returns-then-not-is_component_proper : goal.are_all_proper-returns-then-not-is_component_proper
are_all_proper-returns-then-not-is_component_proper t c =
    sym (c.loop-component.invariant ∙ entry_fails (λ xs. are_elements_proper 64 c.args.level c.args.allowed (elements_seen xs)) (λ x. is_element_proper 64 c.args.level c.args.allowed (component_view x)) (λ x xs. refl) c.args.components.now c.loop-component.component-index c.component-item.result
    c.loop-component-test.true c.component-item.is (sym c.is_component_proper.ensures ∙ c.if-not-is_component_proper.true))

pub are_all_proper-loop-component-preserved : goal.are_all_proper-loop-component-preserved
are_all_proper-loop-component-preserved t c =
    c.loop-component.invariant ∙ entry_passes (λ xs. are_elements_proper 64 c.args.level c.args.allowed (elements_seen xs)) (λ x. is_element_proper 64 c.args.level c.args.allowed (component_view x)) (λ x xs. refl) c.args.components.now c.loop-component.component-index c.component-item.result
    c.loop-component-test.true c.component-item.is (sym c.is_component_proper.ensures ∙ c.if-not-is_component_proper.false)

pub are_all_proper-returns : goal.are_all_proper-returns
are_all_proper-returns t c =
    sym (c.loop-component.invariant ∙ ap (λ xs. are_elements_proper 64 c.args.level c.args.allowed (elements_seen xs)) (drop_all c.loop-component.component-index c.args.components.now (omega (arith, c.loop-component-test.false))))

abbrev Test : ℕ → Bool → List Component → Bool
Test level allowed xs = are_elements_proper 64 level allowed (elements_seen xs)

abbrev AddedTest : ℕ → Bool → Option (Vec Component) → Bool
AddedTest level allowed a = are_elements_proper 64 level allowed (elements_of (marked component_view marker a))

pub are_components_proper-returns-then-not-are_all_proper : goal.are_components_proper-returns-then-not-are_all_proper
are_components_proper-returns-then-not-are_all_proper t c =
    let o = out-Components c.args.components.now in
    sym (components_proper 64 c.args.level c.args.allowed c.args.components.now
    ∙ fails (Test c.args.level c.args.allowed o.root.items) (AddedTest c.args.level c.args.allowed o.added) (ap (Test c.args.level c.args.allowed) (sym c.deref.ensures.value) ∙ sym c.are_all_proper.ensures ∙ c.if-not-are_all_proper.true))

pub are_components_proper-returns-in-Some : goal.are_components_proper-returns-in-Some
are_components_proper-returns-in-Some t c =
    let o = out-Components c.args.components.now in
    c.are_all_proper-in-Some.ensures ∙ ap (Test c.args.level c.args.allowed) c.deref-in-Some.ensures.value
    ∙ sym (components_proper 64 c.args.level c.args.allowed c.args.components.now
    ∙ passes (Test c.args.level c.args.allowed o.root.items) (AddedTest c.args.level c.args.allowed o.added) (ap (Test c.args.level c.args.allowed) (sym c.deref.ensures.value) ∙ sym c.are_all_proper.ensures ∙ c.if-not-are_all_proper.false)
    ∙ ap (AddedTest c.args.level c.args.allowed) c.in-Some.is)

pub are_components_proper-returns-in-None : goal.are_components_proper-returns-in-None
are_components_proper-returns-in-None t c =
    let o = out-Components c.args.components.now in
    sym (components_proper 64 c.args.level c.args.allowed c.args.components.now
    ∙ passes (Test c.args.level c.args.allowed o.root.items) (AddedTest c.args.level c.args.allowed o.added) (ap (Test c.args.level c.args.allowed) (sym c.deref.ensures.value) ∙ sym c.are_all_proper.ensures ∙ c.if-not-are_all_proper.false)
    ∙ ap (AddedTest c.args.level c.args.allowed) c.in-None.is)

pub is_proper_notation-returns-in-Sequence : goal.is_proper_notation-returns-in-Sequence
is_proper_notation-returns-in-Sequence t c =
    members_arm 64 c.args.level (c.args.level + 1) SeqKind.sequence _ _ _ (omega arith) (add-one c.args.level) (ap notation_view c.in-Sequence.is ∙ sequence_viewed c.in-Sequence.components) c.are_components_proper.ensures

pub is_proper_notation-returns-in-Set : goal.is_proper_notation-returns-in-Set
is_proper_notation-returns-in-Set t c =
    members_arm 64 c.args.level (c.args.level + 1) SeqKind.set _ _ _ (omega arith) (add-one c.args.level) (ap notation_view c.in-Set.is ∙ set_viewed c.in-Set.components) c.are_components_proper-in-Set.ensures

pub is_proper_notation-returns-in-Choice : goal.is_proper_notation-returns-in-Choice
is_proper_notation-returns-in-Choice t c =
    choice_arm 64 c.args.level (c.args.level + 1) _ _ _ (omega arith) (add-one c.args.level) (ap notation_view c.in-Choice.is ∙ choice_viewed c.in-Choice.alternatives) c.are_components_proper-in-Choice.ensures

pub is_proper_notation-returns-in-SequenceOf : goal.is_proper_notation-returns-in-SequenceOf
is_proper_notation-returns-in-SequenceOf t c =
    list_arm 64 c.args.level (c.args.level + 1) SeqKind.sequence _ _ _ (omega arith) (add-one c.args.level) (ap notation_view c.in-SequenceOf.is ∙ sequence_of_viewed c.in-SequenceOf.element) (c.is_proper_notation.ensures ∙ ap (λ m. is_proper_notation 64 (c.args.level + 1) (notation_view m)) c.deref.ensures)

pub is_proper_notation-returns-in-SetOf : goal.is_proper_notation-returns-in-SetOf
is_proper_notation-returns-in-SetOf t c =
    list_arm 64 c.args.level (c.args.level + 1) SeqKind.set _ _ _ (omega arith) (add-one c.args.level) (ap notation_view c.in-SetOf.is ∙ set_of_viewed c.in-SetOf.element) (c.is_proper_notation-in-SetOf.ensures ∙ ap (λ m. is_proper_notation 64 (c.args.level + 1) (notation_view m)) c.deref-in-SetOf.ensures)
