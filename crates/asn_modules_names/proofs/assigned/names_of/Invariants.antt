use Rattle.std.proofs.Common.{◌≡◌, ◌++◌, map, drop}
use Rattle.asn_modules_names.specs.Mentions.{mention_view, source_view}
use Rattle.asn_modules_names.proofs.Naming.{assigned}
use Rattle.asn_modules_names.proofs.assigned.names_of.Given as goal

abbrev pub invariant-loop-assignment : goal.invariant-loop-assignment
invariant-loop-assignment l = assigned (source_view l.source) l.assignments ≡ map mention_view l.names.items ++ assigned (source_view l.source) (drop l.assignment-index l.assignments)
