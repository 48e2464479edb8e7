-- Whole numbers that are kept as their digits.
use Rattle.std.specs.Prelude.{ℕ, ◌^◌, ◌&&◌, nat_le, nat_lt, List, Bool}
use Rattle.std.specs.Fmt.{decimal}
use Rattle.std.specs.Str.{bytes_eq}
use Rattle.std.specs.Str.Parse.{digits_value}

-- The text is the decimal digits of this number, which is from 2^63 to 2^64-1.
abbrev pub is_decimal_of : ℕ → List ℕ → Bool
is_decimal_of n text = bytes_eq text (decimal n) && (nat_le (2 ^ 63) n && nat_lt n (2 ^ 64))

-- The text is the decimal digits of a number from 2^63 to 2^64-1, as the number is written: without a sign or a leading zero.
abbrev pub is_decimal : List ℕ → Bool
is_decimal text = is_decimal_of (digits_value 10 text) text
