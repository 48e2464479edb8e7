use Rattle.std.proofs.Common.{◌≡◌}
use Rattle.asn_modules_names.proofs.Repeating.{Knows, names_before, repeated_from}
use Rattle.asn_modules_names.proofs.distinct.check_distinct.Given as goal

abbrev pub invariant-loop-name : goal.invariant-loop-name
invariant-loop-name l = Knows l.seen (names_before l.names l.name-index) × (repeated_from l.names 0 ≡ repeated_from l.names l.name-index)
