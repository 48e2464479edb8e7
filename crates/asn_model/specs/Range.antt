-- Whole numbers of a range.
use Rattle.std.specs.Prelude.{ℤ, int_lt, Bool, not, ◌&&◌}

-- The first number is at most the second.
abbrev pub at_most : ℤ → ℤ → Bool
at_most a b = not (int_lt b a)

-- The number is from the least to the greatest.
abbrev pub is_between : ℤ → ℤ → ℤ → Bool
is_between least greatest n = at_most least n && at_most n greatest
