use Rattle.std.proofs.Common.{string_bytes}
use Rattle.asn_module_text.proofs.Printing.{LinesLeft}
use Rattle.asn_module_text.proofs.print.write_assignments.Given as goal

abbrev pub invariant-loop-assignment : goal.invariant-loop-assignment
invariant-loop-assignment l = LinesLeft (string_bytes l.fn.out) (string_bytes l.out) l.assignments l.assignment-index
