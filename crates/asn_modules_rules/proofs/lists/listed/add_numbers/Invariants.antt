use Rattle.std.proofs.Common.{◌≡◌, ◌++◌, drop}
use Rattle.asn_modules_rules.specs.lists.Listed.{number_names}
use Rattle.asn_modules_rules.proofs.lists.listed.add_numbers.Given as goal

abbrev pub invariant-loop-number : goal.invariant-loop-number
invariant-loop-number l = l.fn.names.items ++ number_names l.numbers ≡ l.names.items ++ number_names (drop l.number-index l.numbers)
