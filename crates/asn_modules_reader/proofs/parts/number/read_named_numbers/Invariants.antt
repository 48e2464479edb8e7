use Rattle.std.proofs.Common.{◌≤◌, length}
use Rattle.asn_modules_grammar.specs.notation.Lists.{Listed}
use Rattle.asn_modules_grammar.specs.notation.Numbers.{named_number_at}
use Rattle.asn_modules_reader.proofs.parts.Runs.{Going}
use Rattle.asn_modules_reader.proofs.parts.number.read_named_numbers.Given as goal

abbrev pub invariant-numbers : goal.invariant-numbers
invariant-numbers l = Going (Listed named_number_at) l.initial.rest l.rest l.numbers.items × (length l.rest ≤ length l.initial.rest)

abbrev pub decreases-numbers : goal.decreases-numbers
decreases-numbers l = length l.rest
