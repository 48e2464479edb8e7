-- The character string types (X.680, section 41): what their values are, and why a text is none of them.
use Rattle.std.specs.Prelude.{ℕ, List, ◌++◌, Bool, ◌&&◌, codes, decimal}
use Rattle.std.specs.Str.{chars, is_utf8}
use Rattle.avn_grammar.specs.Chars.{all}
use Rattle.avn_grammar.specs.WellFormed.{is_octet}
use Rattle.asn_core.specs.declared.tag.Class.TheVariants.{Universal}
use Rattle.asn_core.specs.declared.tag.Tag.{Tag}
use Rattle.asn_fault.specs.Failure.{Cause}
use Rattle.asn_strings.specs.Alphabets.{all_within, is_any, is_graphic, is_ia5, is_numeric, is_printable, is_visible}
use Rattle.asn_model.specs.Shape.{Alphabet}
use Rattle.asn_model.specs.declared.words.TheConstants.{OUTSIDE_ALPHABET}

-- The characters of a type's alphabet.
abbrev pub alphabet_of : Alphabet → ℕ → Bool
alphabet_of Alphabet.numeric = is_numeric
alphabet_of Alphabet.printable = is_printable
alphabet_of Alphabet.visible = is_visible
alphabet_of Alphabet.ia5 = is_ia5
alphabet_of Alphabet.utf8 = is_any
alphabet_of Alphabet.universal = is_any
alphabet_of Alphabet.general = is_any
alphabet_of Alphabet.graphic = is_graphic

-- The number of a type's universal tag (X.680, table 1).
abbrev pub alphabet_number : Alphabet → ℕ
alphabet_number Alphabet.numeric = 18
alphabet_number Alphabet.printable = 19
alphabet_number Alphabet.visible = 26
alphabet_number Alphabet.ia5 = 22
alphabet_number Alphabet.utf8 = 12
alphabet_number Alphabet.universal = 28
alphabet_number Alphabet.general = 27
alphabet_number Alphabet.graphic = 25

-- The number of BMPString's universal tag.
abbrev pub bmp_number : ℕ
bmp_number = 30

-- The universal tag of this number.
abbrev pub universal_tag : ℕ → Tag
universal_tag n = record { class = Universal; value = n }

-- The bytes are a value of the type: text within its alphabet, or, of the two types that are held as octets, octets within it.
abbrev pub is_string_of : Alphabet → List ℕ → Bool
is_string_of Alphabet.utf8 bytes = is_utf8 bytes
is_string_of Alphabet.universal bytes = is_utf8 bytes
is_string_of Alphabet.general bytes = all is_octet bytes
is_string_of Alphabet.graphic bytes = all is_octet bytes && all_within is_graphic bytes
is_string_of a bytes = is_utf8 bytes && all_within (alphabet_of a) (chars bytes)

-- The text has a character outside the alphabet of the type with this universal tag, and so many characters before it.
abbrev pub outside_alphabet : Tag → ℕ → Cause
outside_alphabet tag place = Cause.string_conversion_failed tag (OUTSIDE_ALPHABET.now ++ (codes " " ++ decimal place))
