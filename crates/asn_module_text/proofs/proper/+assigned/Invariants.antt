use Rattle.std.proofs.Common.{◌≡◌, is_none, map, drop}
use Rattle.asn_model.specs.Shape.{is_item}
use Rattle.asn_notation.specs.Names.{assigned_names, element_references, first_failing}
use Rattle.asn_notation.specs.View.{assignment_view}
use Rattle.asn_module_text.proofs.Printing.{elements_seen}
use Rattle.asn_module_text.proofs.proper.+assigned.Given as goal

abbrev pub invariant-are_all_assigned-loop-component : goal.invariant-are_all_assigned-loop-component
invariant-are_all_assigned-loop-component l =
    is_none (first_failing (λ n. is_item (assigned_names (map assignment_view l.assignments)) n) (element_references (elements_seen l.components)))
    ≡ is_none (first_failing (λ n. is_item (assigned_names (map assignment_view l.assignments)) n) (element_references (elements_seen (drop l.component-index l.components))))
