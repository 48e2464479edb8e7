-- What the first word of a notation is.
use Rattle.std.specs.Prelude.{ℕ, List, Bool, true, false, ◌&&◌, nat_le, if◌then◌else◌, Option, Some, None}
use Rattle.avn_grammar.specs.Chars.{starts_with}
use Rattle.asn_model.specs.Shape.{Alphabet, SeqKind}
use Rattle.asn_notation.specs.Keywords.{keyword_named}
use Rattle.asn_notation.specs.Notation.{Notation, boolean, null, integer, octet_string, bit_string, object_identifier, text, bmp, reference}
use Rattle.asn_notation.specs.Tokens.{word_at}
use Rattle.asn_notation.specs.declared.keyword.Keyword.{Keyword}
use Rattle.asn_notation.specs.declared.keyword.Keyword.TheVariants as keyword

-- What the first word of a notation stands for.
pub data Start : Type 0 where
  -- The word is the whole notation.
  whole : Notation → Start
  -- With this word behind it, it is this notation.
  pair : Keyword → Notation → Start
  -- It is SEQUENCE or SET.
  members : SeqKind → Start
  choice : Start
  enumerated : Start
  -- No notation begins with it.
  nothing : Start

-- What a reserved word stands for.
abbrev pub start_of : Keyword → Start
start_of keyword.Boolean = whole boolean
start_of keyword.Null = whole null
start_of keyword.Integer = whole integer
start_of keyword.Octet = pair keyword.String octet_string
start_of keyword.Bit = pair keyword.String bit_string
start_of keyword.Object = pair keyword.Identifier object_identifier
start_of keyword.Utf8String = whole (text Alphabet.utf8)
start_of keyword.NumericString = whole (text Alphabet.numeric)
start_of keyword.PrintableString = whole (text Alphabet.printable)
start_of keyword.VisibleString = whole (text Alphabet.visible)
start_of keyword.Ia5String = whole (text Alphabet.ia5)
start_of keyword.UniversalString = whole (text Alphabet.universal)
start_of keyword.GeneralString = whole (text Alphabet.general)
start_of keyword.GraphicString = whole (text Alphabet.graphic)
start_of keyword.BmpString = whole bmp
start_of keyword.Sequence = members SeqKind.sequence
start_of keyword.Set = members SeqKind.set
start_of keyword.Choice = choice
start_of keyword.Enumerated = enumerated
start_of keyword.String = nothing
start_of keyword.Identifier = nothing
start_of keyword.Of = nothing
start_of keyword.Optional = nothing

-- A capital letter of ASCII.
abbrev pub is_capital : ℕ → Bool
is_capital c = nat_le 65 c && nat_le c 90

-- What a word that is no reserved one stands for: with a capital letter first it is the name of a type.
abbrev pub named_start : List ℕ → Start
named_start w = if starts_with is_capital w then whole (reference w) else nothing

-- What a word stands for, reserved or not.
abbrev pub start_beside : Option Keyword → List ℕ → Start
start_beside (Some k) w = start_of k
start_beside None w = named_start w

-- What a word stands for.
abbrev pub word_start : List ℕ → Start
word_start w = start_beside (keyword_named w) w

-- What the word that is there stands for.
abbrev pub start_of_word : Option (List ℕ) → Start
start_of_word None = nothing
start_of_word (Some w) = word_start w

-- What the first word of a text stands for.
abbrev pub start_at : List ℕ → Start
start_at u = start_of_word (word_at u)

-- The word isn't reserved.
abbrev pub is_free : Option Keyword → Bool
is_free None = true
is_free (Some k) = false

-- The name of a type: a word with a capital letter first that isn't reserved.
abbrev pub is_type_name : List ℕ → Bool
is_type_name w = starts_with is_capital w && is_free (keyword_named w)
