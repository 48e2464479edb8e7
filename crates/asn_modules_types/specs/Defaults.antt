-- The values that DEFAULT states.
use Rattle.std.specs.Prelude.{ℕ, ℤ, ◌-◌, nat_eq, nat_le, List, length, Bool, true, false, not, ◌&&◌, codes, if◌then◌else◌, Option, Some, None}
use Rattle.std.specs.List.{list_all, slice_range}
use Rattle.std.specs.Option.{option_map}
use Rattle.std.specs.Str.{bytes_eq, is_utf8}
use Rattle.asn_lexer.specs.declared.token.Token.{Token}
use Rattle.asn_model.specs.Readable.{is_of_shape}
use Rattle.asn_model.specs.Shape.{Plain, Shape}
use Rattle.asn_modules_errors.specs.Slices.{text_of}
use Rattle.asn_modules_names.specs.Assigned.{first_found}
use Rattle.asn_modules_grammar.specs.declared.notation.value.Value.{Value}
use Rattle.asn_modules_grammar.specs.declared.notation.value.Value.TheVariants as value
use Rattle.asn_modules_types.specs.Numbers.{number_at}
use Rattle.asn_modules_types.specs.Scopes.{Scope, ascii_of, name_in}
use Rattle.asn_modules_types.specs.Strings.{joined}
use Rattle.asn_modules_types.specs.declared.limits.TheConstants.{DEFAULT_STRING_LIMIT}

abbrev pub boolean_named : List ℕ → Option Plain
boolean_named word =
    if bytes_eq word (codes "TRUE") then Some (Plain.boolean true)
    else if bytes_eq word (codes "FALSE") then Some (Plain.boolean false) else None

-- What a word is as a value of the shape: TRUE or FALSE, or an item.
abbrev pub word_plain : Shape → List ℕ → Option Plain
word_plain Shape.boolean word = boolean_named word
word_plain (Shape.enum items added) word = Some (Plain.item (ascii_of word))
word_plain s word = None

-- A character that is itself in a string: no quote, and no control character.
abbrev pub is_verbatim : ℕ → Bool
is_verbatim c = nat_le 32 c && not (nat_eq c 34)

-- The bytes, if they are UTF-8, and each is of a character that is itself.
abbrev pub verbatim : List ℕ → Option (List ℕ)
verbatim bytes = if list_all is_verbatim bytes && is_utf8 bytes then Some bytes else None

-- These bytes with their lines joined, if they are few.
abbrev pub if_short : List ℕ → Option (List ℕ)
if_short bytes =
    if nat_le (length bytes) DEFAULT_STRING_LIMIT then verbatim (joined false bytes) else None

-- The characters of a string between its quotes, with its lines joined. A long one, or one with a
-- quote in it, isn't understood.
abbrev pub string_in : List ℕ → Token → Option (List ℕ)
string_in text t = if_short (slice_range (text_of text t) 1 (length (text_of text t) - 1))

-- What these characters are as a value of the shape.
abbrev pub string_plain : Shape → Option (List ℕ) → Option Plain
string_plain (Shape.text a) string = option_map (λ s. Plain.text s) string
string_plain s string = None

-- What a value in its text is as one of the shape, which is no INTEGER.
abbrev pub plain_in : Shape → List ℕ → Value → Option Plain
plain_in shape text (value.Word t) = word_plain shape (name_in text t)
plain_in shape text (value.Cstring t) = string_plain shape (string_in text t)
plain_in shape text v = None

-- The value, if it is one of the shape.
abbrev pub suited : Shape → Option Plain → Option Plain
suited shape None = None
suited shape (Some p) = if is_of_shape shape p then Some p else None

-- What a word names, where words name these numbers, of which some aren't known.
abbrev pub number_said : (List ℕ → Option (Option ℤ)) → List ℕ → Value → Option (Option ℤ)
number_said numbers text (value.Word t) = numbers (name_in text t)
number_said numbers text v = None

abbrev pub number_or : Option (Option ℤ) → Option ℤ → Option ℤ
number_or None other = other
number_or (Some n) other = n

-- The number that a DEFAULT states: one of the named numbers of the component's type, which alone
-- governs the word of the DEFAULT, else the number that its value leads to.
abbrev pub number_default : Scope → (List ℕ → Option (Option ℤ)) → Value → Option ℤ
number_default s numbers v = number_or (number_said numbers s.text v) (number_at s v)

abbrev pub number_plain : Option ℤ → Option Plain
number_plain o = option_map (λ n. Plain.int n) o

abbrev pub is_numeric : Shape → Bool
is_numeric (Shape.int least greatest width) = true
is_numeric s = false

-- The value of the shape that a DEFAULT states: its number, or of the values that its value leads
-- to, the first that is one of the shape.
abbrev pub default_of : Scope → (List ℕ → Option (Option ℤ)) → Shape → Value → Option Plain
default_of s numbers shape v =
    if is_numeric shape then suited shape (number_plain (number_default s numbers v))
    else first_found (λ x. suited shape (plain_in shape x.0 x.1)) (s.values false v)
