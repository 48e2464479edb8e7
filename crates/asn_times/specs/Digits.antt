-- The digits of a number, as the texts of times have them.
use Rattle.std.specs.Prelude.{ℕ, ◌+◌, ◌/◌, ◌%◌, List, [], ◌∷◌, ◌++◌}

-- A number below 100 in two digits, or one below 10,000 in four.
abbrev pub two_digits : ℕ → List ℕ
two_digits n = (48 + n / 10) ∷ (48 + n % 10) ∷ []

abbrev pub four_digits : ℕ → List ℕ
four_digits n = two_digits (n / 100) ++ two_digits (n % 100)
