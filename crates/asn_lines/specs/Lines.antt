-- The lines of bytes.
use Rattle.std.specs.Prelude.{ℕ, ◌≤◌, List, [], ◌∷◌, All, Bool, ◌==◌, length}
use Rattle.std.specs.List.{slice_split}
use Rattle.asn_lines.specs.declared.limits.TheConstants.{MOST_LINES}
use Rattle.asn_streams.specs.Input.{input_limit}

-- The byte is a line feed.
abbrev pub is_feed : ℕ → Bool
is_feed b = b == 10

-- A part at the end, unless it is empty.
abbrev pub last_part : List ℕ → List (List ℕ)
last_part [] = []
last_part (b ∷ part) = (b ∷ part) ∷ []

-- The parts but for the last one where that is empty.
abbrev pub without_empty_end : List (List ℕ) → List (List ℕ)
without_empty_end [] = []
without_empty_end (part ∷ []) = last_part part
without_empty_end (part ∷ next ∷ parts) = part ∷ without_empty_end (next ∷ parts)

-- What stands between line feeds, and what stands after the last one unless that is empty. A carriage return before a line feed belongs to the line.
abbrev pub text_lines : List ℕ → List (List ℕ)
text_lines bytes = without_empty_end (slice_split is_feed bytes)

-- The parts but for the last one.
abbrev pub without_end : List (List ℕ) → List (List ℕ)
without_end [] = []
without_end (part ∷ []) = []
without_end (part ∷ next ∷ parts) = part ∷ without_end (next ∷ parts)

-- The lines that a line feed ends.
abbrev pub whole_lines : List ℕ → List (List ℕ)
whole_lines bytes = without_end (slice_split is_feed bytes)

-- The line has no more bytes than the limit.
abbrev pub IsShort : List ℕ → Type 0
IsShort line = length line ≤ input_limit

-- No line has more bytes than the limit, and there are no more lines than the limit.
pub record IsWithinLimits (lines : List (List ℕ)) : Type 0 where
  pub short : All IsShort lines
  pub few : length lines ≤ MOST_LINES
