-- The tokens of value notation at the front of a text (X.680, clause 12). A text is the list of its
-- bytes, in UTF-8.
use Rattle.std.specs.Prelude.{ℕ, List, [], ◌∷◌, Bool, true, false, ◌&&◌, ◌||◌, ◌==◌, ◌%◌, if◌then◌else◌, not, chars, unwrap_or, Option, Some, None}
use Rattle.std.specs.Char.{is_whitespace}
use Rattle.std.specs.List.{count_by, list_all}
use Rattle.std.specs.Option.{option_map}
use Rattle.avn_grammar.specs.Chars.{has_fraction, is_digit, is_letter, is_name, is_not_apostrophe, is_space, skip_while, starts_with, take_while}
use Rattle.avn_grammar.specs.Grammar.{past_number}
use Rattle.avn_grammar.specs.Octets.{is_bit, is_hex}
use Rattle.avn_places.specs.declared.tokens.Run.{Run}
use Rattle.avn_places.specs.declared.tokens.Run.TheVariants as run

-- The byte belongs to the run.
abbrev pub passes : Run → ℕ → Bool
passes run.Spaces = is_space
passes run.Name = is_name
passes run.Digits = is_digit

-- What follows this ASCII character, where the text begins with it.
abbrev pub past_sign : ℕ → List ℕ → Option (List ℕ)
past_sign c [] = None
past_sign c (d ∷ u) = if d == c then Some u else None

-- The text without the `-` that it may begin with.
abbrev pub unsigned : List ℕ → List ℕ
unsigned u = unwrap_or (past_sign 45 u) u

-- Whether the number at the front of the text is an integer, and what follows it.
abbrev pub number : List ℕ → Option (Bool × List ℕ)
number u =
    if starts_with is_digit (unsigned u)
    then Some (not (has_fraction (skip_while is_digit (unsigned u))), past_number (unsigned u))
    else None

-- What follows a string whose opening quote was read: it ends with the first quote that isn't one
-- of two.
abbrev pub past_string : List ℕ → Option (List ℕ)
past_string [] = None
past_string (c ∷ []) = if c == 34 then Some [] else None
past_string (c ∷ d ∷ u) =
    if c == 34 then (if d == 34 then past_string u else Some (d ∷ u)) else past_string (d ∷ u)

-- The characters are hexadecimal digits, and white space among them.
abbrev pub is_hex_or_white : ℕ → Bool
is_hex_or_white c = is_hex c || is_whitespace c

-- The characters, white space aside, are pairs of hexadecimal digits.
abbrev pub are_pairs : List ℕ → Bool
are_pairs cs = list_all is_hex_or_white cs && (count_by is_hex cs % 2 == 0)

-- The characters, white space aside, are binary digits.
abbrev pub are_bits : List ℕ → Bool
are_bits cs = list_all (λ c. is_bit c || is_whitespace c) cs

-- What stands before the first apostrophe, and what follows it.
abbrev pub past_apostrophe : List ℕ → Option (List ℕ × List ℕ)
past_apostrophe u =
    option_map (λ rest. (take_while is_not_apostrophe u, rest))
    (past_sign 39 (skip_while is_not_apostrophe u))

-- What follows the `H` or the `B` after digits between apostrophes, where they are such digits.
abbrev pub past_letter : List ℕ → Option (List ℕ) → Option (List ℕ) → Option (List ℕ)
past_letter digits (Some rest) _ = if are_pairs (chars digits) then Some rest else None
past_letter digits None (Some rest) = if are_bits (chars digits) then Some rest else None
past_letter digits None None = None

abbrev pub past_digits : Option (List ℕ × List ℕ) → Option (List ℕ)
past_digits None = None
past_digits (Some p) = past_letter p.0 (past_sign 72 p.1) (past_sign 66 p.1)

-- What follows octets or bits whose opening apostrophe was read.
abbrev pub past_octets : List ℕ → Option (List ℕ)
past_octets u = past_digits (past_apostrophe u)

-- A value that is no integer, of which this follows.
abbrev pub no_integer : Option (List ℕ) → Option (Bool × List ℕ)
no_integer o = option_map (λ rest. (false, rest)) o

-- Whether the number, the string, or the octets or bits at the front of the text are an integer,
-- and what follows them.
abbrev pub simple_value : List ℕ → Option (Bool × List ℕ)
simple_value [] = None
simple_value (c ∷ u) =
    if c == 34 then no_integer (past_string u) else if c == 39 then no_integer (past_octets u)
    else number (c ∷ u)

-- The text begins as a number does.
abbrev pub begins_number : List ℕ → Bool
begins_number u = starts_with (λ c. is_digit c || (c == 45)) u
