-- Hexadecimal digits up to an apostrophe.
use Rattle.std.specs.Prelude.{ℕ, ◌+◌, ◌/◌, ◌%◌, ◌≡◌, List, [], ◌∷◌, ◌++◌, Option, Some, None, Bool, ◌&&◌, nat_lt, map}
use Rattle.avn_grammar.specs.Chars.{take_while, skip_while, is_not_apostrophe, without_whitespace, all}
use Rattle.avn_grammar.specs.Octets.{is_hex, hex_value}

-- The values of the digits that octets are, two for each.
abbrev pub digit_values : List ℕ → List ℕ
digit_values [] = []
digit_values (o ∷ octets) = o / 16 ∷ o % 16 ∷ digit_values octets

-- The value of a digit without a second one.
abbrev pub odd_value : Option ℕ → List ℕ
odd_value None = []
odd_value (Some v) = v ∷ []

-- The binary digits of the values.
abbrev pub binary_digits : List ℕ → List ℕ
binary_digits vs = map (λ v. 48 + v) vs

-- The value is a binary digit's.
abbrev pub is_bit_value : ℕ → Bool
is_bit_value v = nat_lt v 2

-- The octet is two binary digits.
abbrev pub is_bit_pair : ℕ → Bool
is_bit_pair o = is_bit_value (o / 16) && is_bit_value (o % 16)

-- What stands up to an apostrophe, without white space.
abbrev pub inside : List ℕ → List ℕ
inside u = without_whitespace (take_while is_not_apostrophe u)

-- Going on from the text u to v adds the values of the digits between to the old ones.
pub record TakesDigits (old u new v : List ℕ) : Type 0 where
  pub past : skip_while is_not_apostrophe v ≡ skip_while is_not_apostrophe u
  pub valid : all is_hex (inside v) ≡ all is_hex (inside u)
  pub values : new ++ map hex_value (inside v) ≡ old ++ map hex_value (inside u)
