-- How the lines of differences are gathered while nodes are passed in order.
use Rattle.std.specs.Prelude.{ℕ, ◌+◌, ◌-◌, ◌^◌, min, nat_eq, List, [], ◌∷◌, ◌++◌, if◌then◌else◌, string_bytes}
use Rattle.asn_growth.specs.declared.reasons.Reason.{Reason}
use Rattle.asn_version_reports.specs.Reports.{difference_line}
use Rattle.asn_version_reports.specs.declared.differences.Lines as code

-- The place of the next node, the differences from there on, and the lines of the others.
pub record Lines : Type 0 where
  pub place : ℕ
  pub left : List (ℕ × Reason)
  pub text : List ℕ

abbrev pub lines_view : code.Lines → Lines
lines_view lines = record { place = lines.place; left = lines.left.now; text = string_bytes lines.text }

-- The place after this one, if there is a number for it.
abbrev pub next_place : ℕ → ℕ
next_place place = min (place + 1) (2 ^ 64 - 1)

-- The next node is passed without a line.
abbrev pub pass_by : Lines → Lines
pass_by lines = record { place = next_place lines.place; left = lines.left; text = lines.text }

-- The next node, at this path, is passed: where it is the first one of those that differ, with its line.
abbrev pub pass_with : Lines → List (ℕ × Reason) → List (List ℕ) → Lines
pass_with lines [] path = pass_by lines
pass_with lines (d ∷ left) path =
    if nat_eq d.0 lines.place then record { place = next_place lines.place; left = left; text = lines.text ++ difference_line path d.1 } else pass_by lines

abbrev pub pass : Lines → List (List ℕ) → Lines
pass lines path = pass_with lines lines.left path

-- Nodes at these paths are passed, one after another.
abbrev pub pass_all : Lines → List (List (List ℕ)) → Lines
pass_all lines [] = lines
pass_all lines (path ∷ paths) = pass_all (pass lines path) paths
