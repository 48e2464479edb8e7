-- White space and comments (X.680, sections 12.1.6 and 12.6).
use Rattle.std.specs.Prelude.{ℕ, zero, suc, List, [], ◌∷◌, Bool, ◌&&◌, ◌||◌, ◌==◌, nat_le, codes, drop, if◌then◌else◌, Option, Some, None}
use Rattle.avn_grammar.specs.Chars.{starts_with}
use Rattle.asn_lexer.specs.Fronts.{begins}

-- White space of one byte: a tab, a line feed, a vertical tab, a form feed, a carriage return or a
-- space.
abbrev pub is_white : ℕ → Bool
is_white c = (nat_le 9 c && nat_le c 13) || (c == 32)

-- A no-break space, which is white space too, in UTF-8.
abbrev pub no_break_space : List ℕ
no_break_space = 194 ∷ 160 ∷ []

-- The text begins with white space.
abbrev pub begins_white : List ℕ → Bool
begins_white u = starts_with is_white u || begins no_break_space u

-- What follows the longest front of a text that is no-break spaces and characters that pass.
abbrev pub past_spaced : (ℕ → Bool) → List ℕ → List ℕ
past_spaced p [] = []
past_spaced p (c ∷ []) = if p c then [] else c ∷ []
past_spaced p (c ∷ d ∷ u) =
    if begins no_break_space (c ∷ d ∷ u) then past_spaced p u
    else if p c then past_spaced p (d ∷ u)
    else c ∷ d ∷ u

-- The end of a line: a line feed, a vertical tab, a form feed or a carriage return.
abbrev pub ends_line : ℕ → Bool
ends_line c = nat_le 10 c && nat_le c 13

-- What follows a comment whose `--` was read: it ends with the next `--` or before the end of the
-- line.
abbrev pub past_line_comment : List ℕ → List ℕ
past_line_comment [] = []
past_line_comment (c ∷ u) =
    if begins (codes "--") (c ∷ u) then drop 1 u
    else if ends_line c then c ∷ u
    else past_line_comment u

-- What follows a comment whose `/*` was read, and `inner` more of them within it, each of which
-- ends with a `*/` of its own.
abbrev pub past_block_comment : ℕ → List ℕ → Option (List ℕ)
past_block_comment inner [] = None
past_block_comment inner (c ∷ []) = None
past_block_comment zero (c ∷ d ∷ u) =
    if begins (codes "*/") (c ∷ d ∷ u) then Some u
    else if begins (codes "/*") (c ∷ d ∷ u) then past_block_comment 1 u
    else past_block_comment zero (d ∷ u)
past_block_comment (suc inner) (c ∷ d ∷ u) =
    if begins (codes "*/") (c ∷ d ∷ u) then past_block_comment inner u
    else if begins (codes "/*") (c ∷ d ∷ u) then past_block_comment (suc (suc inner)) u
    else past_block_comment (suc inner) (d ∷ u)
