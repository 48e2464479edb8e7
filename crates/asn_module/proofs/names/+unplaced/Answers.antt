use Rattle.std.proofs.Common.{sym, ap, ◌∙◌, map}
use Rattle.asn_expansion.specs.Places.{is_placed}
use Rattle.asn_notation.specs.Names.{element_references, first_failing}
use Rattle.asn_notation.specs.Notation.{elements_of}
use Rattle.asn_notation.specs.View.{component_view}
use Rattle.asn_module_text.proofs.References.{failing-root, failing-added, failing-none, failing-here, failing-behind}
use Rattle.asn_module.proofs.names.+unplaced.Goals as goal

pub first_unplaced_among-returns-in-Some : goal.first_unplaced_among-returns-in-Some
first_unplaced_among-returns-in-Some t c =
    sym (c.loop-component.invariant ∙ failing-here (λ n. is_placed c.args.places.now n) c.args.components.now c.loop-component.component-index c.component-item.result c.in-Some.name.now c.loop-component-test.true c.component-item.is (sym c.in-Some.ensures))

pub first_unplaced_among-loop-component-preserved : goal.first_unplaced_among-loop-component-preserved
first_unplaced_among-loop-component-preserved t c =
    c.loop-component.invariant ∙ failing-behind (λ n. is_placed c.args.places.now n) c.args.components.now c.loop-component.component-index c.component-item.result c.loop-component-test.true c.component-item.is (sym c.in_default.ensures)

pub first_unplaced_in-returns-in-Some : goal.first_unplaced_in-returns-in-Some
first_unplaced_in-returns-in-Some t c =
    sym (failing-root (λ n. is_placed c.args.places.now n) c.args.components.now c.in-Some.name.now
    (ap (λ l. first_failing (λ n. is_placed c.args.places.now n) (element_references (elements_of (map component_view l)))) (sym c.deref.ensures.value) ∙ sym c.in-Some.ensures))

pub first_unplaced_in-returns-in-Some-added : goal.first_unplaced_in-returns-in-Some-added
first_unplaced_in-returns-in-Some-added t c =
    c.first_unplaced_among-in-Some-added.ensures
    ∙ ap (λ l. first_failing (λ n. is_placed c.args.places.now n) (element_references (elements_of (map component_view l)))) c.deref-in-Some-added.ensures.value
    ∙ sym (failing-added (λ n. is_placed c.args.places.now n) c.args.components.now c.in-Some-added.added c.in-Some-added.is
    (ap (λ l. first_failing (λ n. is_placed c.args.places.now n) (element_references (elements_of (map component_view l)))) (sym c.deref.ensures.value) ∙ sym c.in_default.ensures))

pub first_unplaced_in-returns-in-None : goal.first_unplaced_in-returns-in-None
first_unplaced_in-returns-in-None t c =
    sym (failing-none (λ n. is_placed c.args.places.now n) c.args.components.now c.in-None.is
    (ap (λ l. first_failing (λ n. is_placed c.args.places.now n) (element_references (elements_of (map component_view l)))) (sym c.deref.ensures.value) ∙ sym c.in_default.ensures))
