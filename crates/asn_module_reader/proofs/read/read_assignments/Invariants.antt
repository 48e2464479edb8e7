use Rattle.std.proofs.Common.{length, map}
use Rattle.std.specs.Str.{chars}
use Rattle.asn_notation.specs.View.{assignment_view}
use Rattle.asn_module_reader.proofs.ModulesRead.{GoingOn}
use Rattle.asn_module_reader.proofs.read.read_assignments.Given as goal

abbrev pub invariant-assignments : goal.invariant-assignments
invariant-assignments l = GoingOn 64 (chars l.fn.input) l.cursor.rest (map assignment_view l.assignments.items)

abbrev pub decreases-assignments : goal.decreases-assignments
decreases-assignments l = length l.cursor.rest
