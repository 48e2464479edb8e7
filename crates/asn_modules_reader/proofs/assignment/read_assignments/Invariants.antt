use Rattle.std.proofs.Common.{◌≤◌, length, map}
use Rattle.asn_modules_grammar.specs.notation.Modules.{AssignmentsParse}
use Rattle.asn_modules_grammar.specs.notation.View.{assignment_view}
use Rattle.asn_modules_reader.proofs.parts.Runs.{Going}
use Rattle.asn_modules_reader.proofs.assignment.read_assignments.Given as goal

abbrev pub invariant-assignments : goal.invariant-assignments
invariant-assignments l = Going (AssignmentsParse 64) l.tokens l.rest (map assignment_view l.assignments.items) × (length l.rest ≤ length l.tokens)

abbrev pub decreases-assignments : goal.decreases-assignments
decreases-assignments l = length l.rest
