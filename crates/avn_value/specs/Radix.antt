-- What stands between apostrophes.
use Rattle.std.specs.Prelude.{ℕ}
use Rattle.avn_value.specs.declared.quoted.Radix.{Radix}
use Rattle.avn_value.specs.declared.quoted.Radix.TheVariants as radix

-- The letter after the second apostrophe.
abbrev pub letter_of : Radix → ℕ
letter_of radix.Hexadecimal = 72
letter_of radix.Binary = 66
