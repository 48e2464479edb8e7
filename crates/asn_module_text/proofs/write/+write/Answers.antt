use Rattle.std.proofs.Common.{◌++◌, ◌==◌, length, true, false, refl, sym, ap, ◌∙◌, string_bytes, arith}
use Rattle.asn_notation.specs.Notation.{elements_of, marker}
use Rattle.asn_notation.specs.Printed.{closed, comma_text, element_run, marker_text, opened}
use Rattle.asn_notation.specs.View.{component_view, marked}
use Rattle.asn_module_text.proofs.Printing.{elements_seen, elements_step, elements_end, components_written}
use Rattle.asn_module_text.proofs.write.+write.Goals as goal

pub write_run-loop-component-init : goal.write_run-loop-component-init
write_run-loop-component-init t c = λ rest. refl

pub write_run-loop-component-preserved : goal.write_run-loop-component-preserved
write_run-loop-component-preserved t c =
    elements_step (string_bytes c.args.out.now) (string_bytes c.loop-component.out) (string_bytes c.write_comma.new.out) (string_bytes c.write_component.new.out) c.args.first c.loop-component.is_first c.args.components.now c.loop-component.component-index c.component-item.result
    c.loop-component-test.true c.component-item.is c.loop-component.invariant c.in_ok-write_comma.ensures c.in_ok-write_component.ensures

pub write_run-returns : goal.write_run-returns
write_run-returns t c =
    elements_end (string_bytes c.args.out.now) (string_bytes c.loop-component.out) c.args.first c.loop-component.is_first c.args.components.now c.loop-component.component-index (omega (arith, c.loop-component-test.false)) c.loop-component.invariant

pub write_components-returns-in_ok-write_closing-in-Some : goal.write_components-returns-in_ok-write_closing-in-Some
write_components-returns-in_ok-write_closing-in-Some t c = λ rest.
    let root = c.as_slice-root.result.now in
    let items = c.deref.result.now in
    let old = string_bytes c.args.out.now in
    c.in_ok-write_closing-in-Some.ensures rest ∙ c.in_ok-write_run-in-Some.ensures (closed rest) ∙ c.in_ok-write_marker-in-Some.ensures (element_run false (elements_seen items) (closed rest))
    ∙ c.in_ok-write_run.ensures (comma_text c.is_empty.result (marker_text (element_run false (elements_seen items) (closed rest))))
    ∙ c.in_ok-write_opening.ensures (element_run true (elements_seen root) (comma_text c.is_empty.result (marker_text (element_run false (elements_seen items) (closed rest)))))
    ∙ ap (λ xs. old ++ opened (element_run true (elements_seen root) (comma_text c.is_empty.result (marker_text (element_run false (elements_seen xs) (closed rest)))))) c.deref.ensures.value
    ∙ ap (λ a. old ++ opened (element_run true (elements_seen root) (element_run c.is_empty.result (elements_of (marked component_view marker a)) (closed rest)))) (sym c.in-Some.is)
    ∙ ap (λ t. old ++ opened t) (components_written c.args.components.now root c.is_empty.result (closed rest) c.as_slice-root.ensures.value c.is_empty.ensures)

pub write_components-returns-in_ok-write_closing-in-None : goal.write_components-returns-in_ok-write_closing-in-None
write_components-returns-in_ok-write_closing-in-None t c = λ rest.
    let root = c.as_slice-root.result.now in
    let old = string_bytes c.args.out.now in
    c.in_ok-write_closing-in-None.ensures rest ∙ c.in_ok-write_run.ensures (closed rest) ∙ c.in_ok-write_opening.ensures (element_run true (elements_seen root) (closed rest))
    ∙ ap (λ a. old ++ opened (element_run true (elements_seen root) (element_run (length root == 0) (elements_of (marked component_view marker a)) (closed rest)))) (sym c.in-None.is)
    ∙ ap (λ t. old ++ opened t) (components_written c.args.components.now root (length root == 0) (closed rest) c.as_slice-root.ensures.value refl)
