-- The tokens that are signs (X.680, sections 12.20 to 12.37).
use Rattle.std.specs.Prelude.{ℕ, List, [], ◌∷◌, ◌==◌, codes, drop, length, if◌then◌else◌, Option, Some, None}
use Rattle.std.specs.Option.{option_map, option_or}
use Rattle.asn_lexer.specs.Fronts.{begins}
use Rattle.asn_lexer.specs.declared.kind.Kind.{Kind}
use Rattle.asn_lexer.specs.declared.kind.Kind.TheVariants as kind

-- The signs of several characters and their kinds. Each stands before those that it begins with.
abbrev pub long_signs : List (List ℕ × Kind)
long_signs =
    (codes "::=", kind.Assignment) ∷ (codes "...", kind.Ellipsis) ∷ (codes "..", kind.Range)
    ∷ (codes "[[", kind.OpenVersion) ∷ (codes "]]", kind.CloseVersion) ∷ []

-- The signs of one character and their kinds: { } ( ) [ ] , ; : . | ^ < > @ ! & * / + = -
abbrev pub short_signs : List (ℕ × Kind)
short_signs =
    (123, kind.OpenBrace) ∷ (125, kind.CloseBrace) ∷ (40, kind.OpenParen) ∷ (41, kind.CloseParen)
    ∷ (91, kind.OpenBracket) ∷ (93, kind.CloseBracket) ∷ (44, kind.Comma) ∷ (59, kind.Semicolon)
    ∷ (58, kind.Colon) ∷ (46, kind.Point) ∷ (124, kind.Bar) ∷ (94, kind.Caret) ∷ (60, kind.Less)
    ∷ (62, kind.Greater) ∷ (64, kind.At) ∷ (33, kind.Exclamation) ∷ (38, kind.Ampersand)
    ∷ (42, kind.Asterisk) ∷ (47, kind.Slash) ∷ (43, kind.Plus) ∷ (61, kind.Equals)
    ∷ (45, kind.Minus) ∷ []

-- The kind of the first of these signs that the text begins with, and what follows it.
abbrev pub sign_among : List (List ℕ × Kind) → List ℕ → Option (Kind × List ℕ)
sign_among [] u = None
sign_among (s ∷ ss) u = if begins s.0 u then Some (s.1, drop (length s.0) u) else sign_among ss u

-- The kind of the sign among these that is the character.
abbrev pub kind_among : List (ℕ × Kind) → ℕ → Option Kind
kind_among [] c = None
kind_among (s ∷ ss) c = if c == s.0 then Some s.1 else kind_among ss c

-- The kind of the sign that is the character.
unfoldable pub sign_of_char : ℕ → Option Kind
sign_of_char c = kind_among short_signs c

-- The kind of the sign that is the first character, and what follows it.
abbrev pub short_sign_at : List ℕ → Option (Kind × List ℕ)
short_sign_at [] = None
short_sign_at (c ∷ u) = option_map (λ k. (k, u)) (sign_of_char c)

-- The kind of the longest sign that the text begins with, and what follows it.
unfoldable pub sign_at : List ℕ → Option (Kind × List ℕ)
sign_at u = option_or (sign_among long_signs u) (short_sign_at u)
