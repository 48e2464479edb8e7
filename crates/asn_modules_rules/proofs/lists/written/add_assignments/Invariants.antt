use Rattle.std.proofs.Common.{◌≡◌, ◌++◌, map, drop}
use Rattle.asn_modules_rules.specs.lists.Written.{written_view}
use Rattle.asn_modules_rules.proofs.lists.Collecting.{written_by}
use Rattle.asn_modules_rules.proofs.lists.written.add_assignments.Given as goal
use Rattle.asn_modules_names.specs.Mentions.{source_view}

abbrev pub invariant-loop-assignment : goal.invariant-loop-assignment
invariant-loop-assignment l = map written_view l.fn.found.items ++ written_by (source_view l.source) l.assignments ≡ map written_view l.found.items ++ written_by (source_view l.source) (drop l.assignment-index l.assignments)
