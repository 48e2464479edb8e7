-- The lines of a text.
use Rattle.std.specs.Prelude.{ℕ, List, [], ◌∷◌, Bool, ◌==◌}
use Rattle.std.specs.List.{slice_split}

-- The byte is a line feed.
abbrev pub is_feed : ℕ → Bool
is_feed b = b == 10

-- A part at the end, unless it is empty.
abbrev pub last_part : List ℕ → List (List ℕ)
last_part [] = []
last_part (b ∷ part) = (b ∷ part) ∷ []

-- The parts but for the last one where that is empty.
abbrev pub without_empty_end : List (List ℕ) → List (List ℕ)
without_empty_end [] = []
without_empty_end (part ∷ []) = last_part part
without_empty_end (part ∷ next ∷ parts) = part ∷ without_empty_end (next ∷ parts)

-- What stands between line feeds, and what stands after the last one unless that is empty. A carriage return before a line feed belongs to the line.
abbrev pub text_lines : List ℕ → List (List ℕ)
text_lines text = without_empty_end (slice_split is_feed text)
