-- The text of the units of a BMPString.
use Rattle.std.specs.Prelude.{◌≡◌, ◌+◌, ◌++◌, ℕ, List, Bool, drop, encode_utf8_all}
use Rattle.std.specs.Int.{is_in_range}
use Rattle.std.specs.List.{position_or_len}
use Rattle.std.specs.Str.{all_scalars}

-- Each unit is a character: none is a surrogate.
abbrev pub has_text : List ℕ → Bool
has_text units = all_scalars units

-- The unit is half of a pair of UTF-16, and no character by itself.
abbrev pub is_surrogate : ℕ → Bool
is_surrogate unit = is_in_range 0xD800 0xDFFF unit

-- The number of units before the first surrogate, or of all units where there is none.
abbrev pub units_valid_len : List ℕ → ℕ
units_valid_len units = position_or_len is_surrogate units

-- The UTF-8 bytes of units that are characters.
abbrev pub text_of_units : List ℕ → List ℕ
text_of_units units = encode_utf8_all units

-- What is written is the text of the units before the place, which are characters.
pub record IsTextBefore (units : List ℕ) (place : ℕ) (written : List ℕ) : Type 0 where
  pub text : written ++ text_of_units (drop place units) ≡ text_of_units units
  pub characters : has_text (drop place units) ≡ has_text units
  pub valid : place + units_valid_len (drop place units) ≡ units_valid_len units
