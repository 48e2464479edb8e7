use Rattle.std.proofs.Common.{◌≡◌, map, drop}
use Rattle.asn_notation.specs.Proper.{are_assignments_proper}
use Rattle.asn_notation.specs.View.{assignment_view}
use Rattle.asn_module_text.proofs.proper.are_assignments_proper.Given as goal

abbrev pub invariant-loop-assignment : goal.invariant-loop-assignment
invariant-loop-assignment l = are_assignments_proper 64 (map assignment_view l.assignments) ≡ are_assignments_proper 64 (map assignment_view (drop l.assignment-index l.assignments))
