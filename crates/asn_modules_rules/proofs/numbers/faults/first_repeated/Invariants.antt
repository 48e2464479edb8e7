use Rattle.std.proofs.Common.{◌≡◌, [], drop, take}
use Rattle.asn_modules_rules.specs.numbers.Faults.{first_repeated}
use Rattle.asn_modules_rules.specs.numbers.Numbered.{Holds, numbers_of}
use Rattle.asn_modules_rules.proofs.numbers.faults.first_repeated.Given as goal

abbrev pub invariant-loop-entry : goal.invariant-loop-entry
invariant-loop-entry l = Holds l.seen (numbers_of (take l.entry-index l.numbered)) × (first_repeated [] l.numbered ≡ first_repeated (numbers_of (take l.entry-index l.numbered)) (drop l.entry-index l.numbered))
