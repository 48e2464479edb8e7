-- Runs of characters.
use Rattle.std.specs.Prelude.{ℕ, Bool, ◌&&◌, ◌||◌, nat_le}
use Rattle.avn_grammar.specs.Chars.{is_digit}
use Rattle.avn_grammar.specs.Octets.{is_bit, is_hex}
use Rattle.asn_lexer.specs.Blanks.{is_white}
use Rattle.asn_lexer.specs.declared.run.Run.{Run}
use Rattle.asn_lexer.specs.declared.run.Run.TheVariants as run

-- A binary digit, or white space of one byte (X.680, section 12.10).
abbrev pub is_bit_or_white : ℕ → Bool
is_bit_or_white c = is_bit c || is_white c

-- A hexadecimal digit, whose letters are capitals, or white space of one byte (X.680, section
-- 12.12).
abbrev pub is_hex_or_white : ℕ → Bool
is_hex_or_white c = is_digit c || (nat_le 65 c && nat_le c 70) || is_white c

-- The character belongs to the run.
abbrev pub passes : Run → ℕ → Bool
passes run.Whites = is_white
passes run.Digits = is_digit
passes run.HexDigits = is_hex
passes run.Bits = is_bit_or_white
passes run.Octets = is_hex_or_white
