-- Strings over several lines.
use Rattle.std.specs.Prelude.{ℕ, List, [], ◌∷◌, Bool, true, false, ◌||◌, ◌==◌, if◌then◌else◌}
use Rattle.asn_lexer.specs.Blanks.{ends_line}

-- A spacing character that doesn't end a line: a tab or a space.
abbrev pub is_spacing : ℕ → Bool
is_spacing c = (c == 9) || (c == 32)

-- The end of a line follows, past spacing characters alone.
abbrev pub ends_soon : List ℕ → Bool
ends_soon [] = false
ends_soon (c ∷ u) = if ends_line c then true else if is_spacing c then ends_soon u else false

-- The characters without the ends of lines, and without the spacing characters before and after
-- each (X.680, section 12.14.1). `begun` states that a line ended before these, with spacing
-- characters alone between.
abbrev pub joined : Bool → List ℕ → List ℕ
joined begun [] = []
joined begun (c ∷ u) =
    if ends_line c then joined true u
    else if is_spacing c then (if begun || ends_soon u then joined begun u else c ∷ joined begun u)
    else c ∷ joined false u
