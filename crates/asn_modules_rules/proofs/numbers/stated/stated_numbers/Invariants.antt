use Rattle.std.proofs.Common.{◌≡◌, ◌++◌, drop}
use Rattle.asn_modules_rules.specs.numbers.Numbered.{stated_numbers}
use Rattle.asn_modules_rules.proofs.numbers.stated.stated_numbers.Given as goal

abbrev pub invariant-loop-item : goal.invariant-loop-item
invariant-loop-item l = stated_numbers l.text l.items ≡ l.numbers.items ++ stated_numbers l.text (drop l.item-index l.items)
