use Rattle.std.proofs.Common.{◌≡◌, ◌++◌, drop}
use Rattle.asn_modules_names.specs.lookup.Entries.{numbered}
use Rattle.asn_modules_names.proofs.lookup.entries.numbered.Given as goal

abbrev pub invariant-loop-number : goal.invariant-loop-number
invariant-loop-number l = numbered 0 l.keys ≡ l.entries.items ++ numbered l.number (drop l.number l.keys)
