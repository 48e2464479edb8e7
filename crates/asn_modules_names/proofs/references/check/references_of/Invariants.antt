use Rattle.std.proofs.Common.{◌≡◌, ◌++◌, drop}
use Rattle.asn_modules_names.proofs.references.Referring.{assignments_references}
use Rattle.asn_modules_names.proofs.references.check.references_of.Given as goal

abbrev pub invariant-loop-assignment : goal.invariant-loop-assignment
invariant-loop-assignment l = assignments_references l.sort l.assignments ≡ l.names.items ++ assignments_references l.sort (drop l.assignment-index l.assignments)
