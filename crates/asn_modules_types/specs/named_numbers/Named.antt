-- The numbers that words name in types.
use Rattle.std.specs.Prelude.{ℕ, List, [], ◌∷◌, if◌then◌else◌, Option, Some, None}
use Rattle.std.specs.List.{slice_get}
use Rattle.std.specs.Option.{option_and_then}
use Rattle.std.specs.Str.{bytes_eq}
use Rattle.asn_modules_errors.specs.Slices.{text_of}
use Rattle.asn_modules_grammar.specs.notation.Notation.{Notation, integer, notation}
use Rattle.asn_modules_grammar.specs.declared.notation.number.Constant.{Constant}
use Rattle.asn_modules_grammar.specs.declared.notation.number.NamedNumber.{NamedNumber}

-- A type and the text that it stands in.
pub record StatedType : Type 0 where
  pub text : List ℕ
  pub notation : Notation

-- The named numbers of an INTEGER, and none of another type.
abbrev pub numbers_in : Notation → List NamedNumber
numbers_in (notation tags (integer ns) sizes) = ns
numbers_in (notation tags base sizes) = []

-- What stands for the number that the word names first among these.
abbrev pub first_named : List ℕ → List NamedNumber → List ℕ → Option Constant
first_named text [] word = None
first_named text (n ∷ ns) word =
    if bytes_eq (text_of text n.name) word then Some n.number else first_named text ns word

-- What stands for the number that the word names first in the type of number n.
abbrev pub constant_named : List StatedType → ℕ → List ℕ → Option Constant
constant_named types n word =
    option_and_then (λ t. first_named t.text (numbers_in t.notation) word) (slice_get types n)
