use Rattle.std.proofs.Common.{◌≡◌, map, drop}
use Rattle.asn_model.specs.Shape.{is_item}
use Rattle.asn_notation.specs.Names.{assigned_names}
use Rattle.asn_notation.specs.View.{assignment_view}
use Rattle.asn_module_text.proofs.proper.is_assigned.Given as goal

abbrev pub invariant-loop-assignment : goal.invariant-loop-assignment
invariant-loop-assignment l = is_item (assigned_names (map assignment_view l.assignments)) l.name ≡ is_item (assigned_names (map assignment_view (drop l.assignment-index l.assignments))) l.name
