use Rattle.asn_modules_names.proofs.Repeating.{Knows, names_before}
use Rattle.asn_modules_names.proofs.missing.set_of.Given as goal

abbrev pub invariant-loop-name : goal.invariant-loop-name
invariant-loop-name l = Knows l.set (names_before l.names l.name-index)
