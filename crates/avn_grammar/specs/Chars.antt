-- The characters of the notation. A text is the list of its characters.
use Rattle.avn_grammar.specs.declared.chars.CharClass.{CharClass}
use Rattle.avn_grammar.specs.declared.chars.CharClass.TheVariants.{AtEnd, Space, Letter, Digit, Minus, Quote, Apostrophe, OpenBrace, CloseBrace, Comma, Colon, Underscore, Other}
use Rattle.std.specs.Prelude.{ℕ, List, [], ◌∷◌, Bool, true, false, cond, ◌&&◌, ◌||◌, ◌==◌, nat_le, not, filter}
use Rattle.std.specs.Char.{is_whitespace}
use Rattle.std.specs.Str.{encode_utf8_all}

-- An ASCII digit.
abbrev pub is_digit : ℕ → Bool
is_digit c = nat_le 48 c && nat_le c 57

-- An ASCII letter.
abbrev pub is_letter : ℕ → Bool
is_letter c = (nat_le 65 c && nat_le c 90) || (nat_le 97 c && nat_le c 122)

-- White space between tokens: a space, a tab, a carriage return or a line feed.
abbrev pub is_space : ℕ → Bool
is_space c = (c == 32) || (c == 9) || (c == 13) || (c == 10)

-- A character that may stand in a name after its first: an ASCII letter or digit, `-` or `_`.
abbrev pub is_name : ℕ → Bool
is_name c = is_letter c || is_digit c || (c == 45) || (c == 95)

-- What a character is to the grammar.
unfoldable pub class_of_char : ℕ → CharClass
class_of_char c =
    cond (is_space c) Space (cond (is_letter c) Letter (cond (is_digit c) Digit (cond (c == 45) Minus (cond (c == 34) Quote (cond (c == 39) Apostrophe (cond (c == 123) OpenBrace
    (cond (c == 125) CloseBrace (cond (c == 44) Comma (cond (c == 58) Colon (cond (c == 95) Underscore Other))))))))))

-- What a text begins with.
abbrev pub class_of_next : List ℕ → CharClass
class_of_next [] = AtEnd
class_of_next (c ∷ cs) = class_of_char c

-- The text without its first character.
abbrev pub tail : List ℕ → List ℕ
tail [] = []
tail (c ∷ cs) = cs

-- The longest front of a text whose characters all pass.
abbrev pub take_while : (ℕ → Bool) → List ℕ → List ℕ
take_while p [] = []
take_while p (c ∷ cs) = cond (p c) (c ∷ take_while p cs) []

-- What follows the longest front of a text whose characters all pass.
abbrev pub skip_while : (ℕ → Bool) → List ℕ → List ℕ
skip_while p [] = []
skip_while p (c ∷ cs) = cond (p c) (skip_while p cs) (c ∷ cs)

-- The text without its leading white space.
abbrev pub skip : List ℕ → List ℕ
skip u = skip_while is_space u

-- The first character is there and passes.
abbrev pub starts_with : (ℕ → Bool) → List ℕ → Bool
starts_with p [] = false
starts_with p (c ∷ cs) = p c

-- All characters pass.
abbrev pub all : (ℕ → Bool) → List ℕ → Bool
all p [] = true
all p (c ∷ cs) = p c && all p cs

-- The text with each quote doubled.
abbrev pub quote_is_doubled : List ℕ → List ℕ
quote_is_doubled [] = []
quote_is_doubled (c ∷ cs) = cond (c == 34) (34 ∷ 34 ∷ quote_is_doubled cs) (c ∷ quote_is_doubled cs)

-- The text begins with a point and a digit.
abbrev pub has_fraction : List ℕ → Bool
has_fraction [] = false
has_fraction (c ∷ []) = false
has_fraction (c ∷ d ∷ cs) = (c == 46) && is_digit d

-- A character that may stand between apostrophes.
abbrev pub is_not_apostrophe : ℕ → Bool
is_not_apostrophe c = not (c == 39)

-- The text without its Unicode white space.
abbrev pub without_whitespace : List ℕ → List ℕ
without_whitespace cs = filter (λ c. not (is_whitespace c)) cs

-- The UTF-8 bytes of characters.
abbrev pub utf8_of : List ℕ → List ℕ
utf8_of cs = encode_utf8_all cs
