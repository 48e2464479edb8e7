use Rattle.std.proofs.Common.{◌≡◌, drop}
use Rattle.asn_modules_rules.specs.numbers.Faults.{first_below, first_falling}
use Rattle.asn_modules_rules.proofs.numbers.faults.first_falling.Given as goal

abbrev pub invariant-loop-entry : goal.invariant-loop-entry
invariant-loop-entry l = first_falling l.numbered ≡ first_below l.last (drop l.entry-index l.numbered)
