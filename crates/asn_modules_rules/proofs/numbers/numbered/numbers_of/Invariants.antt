use Rattle.std.proofs.Common.{◌≡◌, take}
use Rattle.asn_modules_rules.specs.numbers.Numbered.{numbers_of}
use Rattle.asn_modules_rules.proofs.numbers.numbered.numbers_of.Given as goal

abbrev pub invariant-loop-entry : goal.invariant-loop-entry
invariant-loop-entry l = l.numbers.items ≡ numbers_of (take l.entry-index l.numbered)
