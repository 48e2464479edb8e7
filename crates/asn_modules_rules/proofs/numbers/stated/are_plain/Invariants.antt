use Rattle.std.proofs.Common.{◌≡◌, drop}
use Rattle.asn_modules_rules.specs.numbers.Stated.{are_plain}
use Rattle.asn_modules_rules.proofs.numbers.stated.are_plain.Given as goal

abbrev pub invariant-loop-item : goal.invariant-loop-item
invariant-loop-item l = are_plain l.text l.items ≡ are_plain l.text (drop l.item-index l.items)
