-- Words, numbers and strings (X.680, sections 12.2 to 12.14).
use Rattle.std.specs.Prelude.{ℕ, List, [], ◌∷◌, Bool, ◌&&◌, ◌||◌, ◌==◌, false, not, codes, drop, if◌then◌else◌, Option, Some, None}
use Rattle.avn_grammar.specs.Chars.{is_digit, is_letter, skip_while, starts_with}
use Rattle.avn_grammar.specs.Octets.{is_hex}
use Rattle.asn_lexer.specs.Blanks.{past_spaced}
use Rattle.asn_lexer.specs.Fronts.{begins}
use Rattle.asn_lexer.specs.Runs.{is_bit_or_white, is_hex_or_white}
use Rattle.asn_lexer.specs.declared.kind.Kind.{Kind}
use Rattle.asn_lexer.specs.declared.kind.Kind.TheVariants.{Number, RealNumber, Bstring, Hstring}

-- An ASCII letter or digit, or `_`.
abbrev pub is_word_char : ℕ → Bool
is_word_char c = is_letter c || is_digit c || (c == 95)

-- The word goes on with the first character: a letter, a digit, `_`, or a `-` that one of these
-- follows.
abbrev pub continues_word : List ℕ → Bool
continues_word [] = false
continues_word (c ∷ u) = is_word_char c || ((c == 45) && starts_with is_word_char u)

-- What follows the rest of a word.
abbrev pub past_word : List ℕ → List ℕ
past_word [] = []
past_word (c ∷ u) = if continues_word (c ∷ u) then past_word u else c ∷ u

-- The rest of a word.
abbrev pub word_front : List ℕ → List ℕ
word_front [] = []
word_front (c ∷ u) = if continues_word (c ∷ u) then c ∷ word_front u else []

-- The text begins with `0x` and a hexadecimal digit.
abbrev pub begins_hex : List ℕ → Bool
begins_hex u = begins (codes "0x") u && starts_with is_hex (drop 2 u)

-- The text begins with a point that isn't the first of two: those are a range.
abbrev pub begins_fraction : List ℕ → Bool
begins_fraction u = begins (codes ".") u && not (begins (codes "..") u)

-- What follows an optional sign.
abbrev pub past_sign : List ℕ → List ℕ
past_sign u = if starts_with (λ c. (c == 43) || (c == 45)) u then drop 1 u else u

-- The text begins with an exponent: `e` or `E`, an optional sign and a digit.
abbrev pub begins_exponent : List ℕ → Bool
begins_exponent u =
    starts_with (λ c. (c == 101) || (c == 69)) u && starts_with is_digit (past_sign (drop 1 u))

-- What follows an optional exponent.
abbrev pub past_exponent : List ℕ → List ℕ
past_exponent u = if begins_exponent u then skip_while is_digit (past_sign (drop 1 u)) else u

-- What a number is whose digits were read, and what follows it. With a point or an exponent after
-- the digits it is a real number (X.680, section 12.9), whose point needs no digits after it.
abbrev pub behind_digits : List ℕ → Kind × List ℕ
behind_digits u =
    if begins_fraction u then (RealNumber, past_exponent (skip_while is_digit (drop 1 u)))
    else if begins_exponent u then (RealNumber, past_exponent u)
    else (Number, u)

-- What a number is, and what follows it: digits with what goes on after them, or `0x` and
-- hexadecimal digits.
unfoldable pub number_at : List ℕ → Kind × List ℕ
number_at u =
    if begins_hex u then (Number, skip_while is_hex (drop 2 u))
    else behind_digits (skip_while is_digit u)

-- What follows a string whose opening quote was read: it ends with the first quote that isn't one
-- of two.
abbrev pub past_string : List ℕ → Option (List ℕ)
past_string [] = None
past_string (c ∷ []) = if begins (34 ∷ []) (c ∷ []) then Some [] else None
past_string (c ∷ d ∷ u) =
    if begins (34 ∷ 34 ∷ []) (c ∷ d ∷ u) then past_string u
    else if begins (34 ∷ []) (c ∷ d ∷ u) then Some (d ∷ u)
    else past_string (d ∷ u)

-- What the digits after an apostrophe are, and what follows them: `'B` ends bits, and `'H`
-- hexadecimal digits.
unfoldable pub quoted_at : List ℕ → Option (Kind × List ℕ)
quoted_at u =
    if begins (codes "'B") (past_spaced is_bit_or_white u)
    then Some (Bstring, drop 2 (past_spaced is_bit_or_white u))
    else if begins (codes "'H") (past_spaced is_hex_or_white u)
    then Some (Hstring, drop 2 (past_spaced is_hex_or_white u))
    else None
