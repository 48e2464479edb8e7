use Rattle.std.proofs.Common.{◌≡◌, ◌++◌, drop}
use Rattle.asn_modules_rules.specs.numbers.Numbered.{numbered_bits}
use Rattle.asn_modules_rules.proofs.numbers.numbered.numbered_bits.Given as goal

abbrev pub invariant-loop-bit : goal.invariant-loop-bit
invariant-loop-bit l = numbered_bits l.text l.bits ≡ l.found.items ++ numbered_bits l.text (drop l.bit-index l.bits)
