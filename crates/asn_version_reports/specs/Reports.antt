-- What is reported on the differences of two versions of a type.
use Rattle.std.specs.Prelude.{ℕ, List, [], ◌∷◌, ◌++◌, codes}
use Rattle.std.specs.List.{flat_map, slice_index_or}
use Rattle.asn_growth.specs.declared.reasons.Reason.{Reason}
use Rattle.asn_growth.specs.declared.reasons.Reason.TheVariants as reason
use Rattle.asn_version_reports.specs.Paths.{path_text}

-- A reason in words.
abbrev pub reason_words : Reason → List ℕ
reason_words reason.Kind = codes "the kinds differ"
reason_words reason.Numbers = codes "the sizes, bounds, alphabets or enclosing types differ"
reason_words reason.Names = codes "the names in the root differ"
reason_words reason.Tags = codes "the tags in the root differ"
reason_words reason.Presence = codes "what may be absent in the root differs, or its default"
reason_words reason.Extensible = codes "one of them alone has an extension marker"
reason_words reason.Additions = codes "the extension additions don't begin with the older ones"

-- The line of a difference at this path.
abbrev pub difference_line : List (List ℕ) → Reason → List ℕ
difference_line path reason = path_text path ++ (codes ": " ++ (reason_words reason ++ 10 ∷ []))

-- The line of a difference at a node, of which the path stands at its place among the paths.
abbrev pub placed_line : List (List (List ℕ)) → ℕ × Reason → List ℕ
placed_line paths (place, reason) = difference_line (slice_index_or paths place []) reason

-- The line that there is none, or a line for each difference, in order.
abbrev pub report_text : List (List (List ℕ)) → List (ℕ × Reason) → List ℕ
report_text paths [] = codes "grows" ++ 10 ∷ []
report_text paths (d ∷ ds) = flat_map (placed_line paths) (d ∷ ds)
