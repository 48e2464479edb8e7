-- Numbers as they stand in modules, and words that name them.
use Rattle.std.specs.Prelude.{ℕ, ℤ, List, [], ◌∷◌, if◌then◌else◌, Option, None, true, Some}
use Rattle.std.specs.Option.{option_map}
use Rattle.std.specs.Str.{bytes_eq}
use Rattle.asn_lexer.specs.declared.token.Token.{Token}
use Rattle.asn_model.specs.Digits.{digits}
use Rattle.asn_modules_errors.specs.Slices.{text_of}
use Rattle.asn_modules_names.specs.Assigned.{first_found}
use Rattle.asn_modules_grammar.specs.declared.notation.number.Constant.{Constant}
use Rattle.asn_modules_grammar.specs.declared.notation.number.Constant.TheVariants as constant
use Rattle.asn_modules_grammar.specs.declared.notation.number.NamedNumber.{NamedNumber}
use Rattle.asn_modules_grammar.specs.declared.notation.number.SignedNumber.{SignedNumber}
use Rattle.asn_modules_grammar.specs.declared.notation.value.Value.{Value}
use Rattle.asn_modules_grammar.specs.declared.notation.value.Value.TheVariants as value
use Rattle.asn_modules_rules.specs.numbers.Stated.{signed, within_bits}
use Rattle.asn_modules_types.specs.Scopes.{Scope}

-- The number of decimal digits, if it has at most so many bits.
abbrev pub number_in : ℕ → List ℕ → Token → Option ℕ
number_in bits text t = within_bits bits (digits (text_of text t))

-- The number with its sign, if its digits have at most 127 bits.
abbrev pub signed_in : List ℕ → SignedNumber → Option ℤ
signed_in text n = option_map (signed n.negative) (number_in 127 text n.digits)

-- The number that a value in its text is, if it is one.
abbrev pub number_of_value : List ℕ → Value → Option ℤ
number_of_value text (value.Number n) = signed_in text n
number_of_value text v = None

-- The number that the value leads to: the first one that is a number.
abbrev pub number_at : Scope → Value → Option ℤ
number_at s v = first_found (λ x. number_of_value x.0 x.1) (s.values true v)

-- The number that a constant is: its own, or the one that the name of a value leads to.
abbrev pub constant_in : Scope → Constant → Option ℤ
constant_in s (constant.Number n) = signed_in s.text n
constant_in s (constant.Name t) = number_at s (value.Word t)

-- The first of the named numbers that the word names, if there is one, and its number is known.
abbrev pub named_number : Scope → List NamedNumber → List ℕ → Option (Option ℤ)
named_number s [] word = None
named_number s (n ∷ ns) word =
    if bytes_eq (text_of s.text n.name) word then Some (constant_in s n.number)
    else named_number s ns word
