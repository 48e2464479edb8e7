use Rattle.std.proofs.Common.{◌≡◌, drop}
use Rattle.asn_modules_rules.specs.numbers.Faults.{first_negative}
use Rattle.asn_modules_rules.proofs.numbers.faults.first_negative.Given as goal

abbrev pub invariant-loop-entry : goal.invariant-loop-entry
invariant-loop-entry l = first_negative l.numbered ≡ first_negative (drop l.entry-index l.numbered)
