use Rattle.std.proofs.Common.{◌≡◌, ◌++◌, length}
use Rattle.avn_grammar.specs.Chars.{all}
use Rattle.avn_grammar.specs.Octets.{packed}
use Rattle.avn_cursor.specs.HexDigits.{digit_values, binary_digits, is_bit_value}
use Rattle.avn_cursor.proofs.bit_pairs.octets_of_pairs.Given as goal

abbrev pub invariant-loop-rest : goal.invariant-loop-rest
invariant-loop-rest l =
    (all is_bit_value (digit_values l.pairs) ≡ all is_bit_value (digit_values l.rest))
    × (l.octets.items ++ packed (binary_digits (digit_values l.rest)) ≡ packed (binary_digits (digit_values l.pairs)))

abbrev pub decreases-loop-rest : goal.decreases-loop-rest
decreases-loop-rest l = length l.rest
