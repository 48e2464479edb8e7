use Rattle.std.proofs.Common.{◌≡◌, is_none, map, drop}
use Rattle.asn_model.specs.Shape.{is_item}
use Rattle.asn_notation.specs.Names.{assigned_names, first_failing, module_references}
use Rattle.asn_notation.specs.View.{assignment_view}
use Rattle.asn_module_text.proofs.proper.are_names_assigned.Given as goal

abbrev pub invariant-loop-assignment : goal.invariant-loop-assignment
invariant-loop-assignment l =
    is_none (first_failing (λ n. is_item (assigned_names (map assignment_view l.assignments)) n) (module_references (map assignment_view l.assignments)))
    ≡ is_none (first_failing (λ n. is_item (assigned_names (map assignment_view l.assignments)) n) (module_references (map assignment_view (drop l.assignment-index l.assignments))))
