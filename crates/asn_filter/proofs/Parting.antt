-- The first line of a text, and those after it.
use Rattle.std.proofs.Common.{◌≡◌, ◌<◌, ◌==◌, ℕ, List, [], ◌∷◌, length, true, false, refl, ap, ◌∙◌, arith}
use Rattle.std.specs.Prelude.{All}
use Rattle.std.specs.List.{before_first, after_first, position_or_len, slice_split}
use Rattle.std.proofs.lemmas.Bool.{eqb-true, eqb-false}
use Rattle.std.proofs.lemmas.List.Elements.{All-from_get_or}
use Rattle.std.proofs.lemmas.List.Splits.{length-slice_split, slice_split_first, slice_split_none}
use Rattle.std.proofs.lemmas.List.Sums.{fails_before_first}
use Rattle.asn_filter.specs.Lines.{is_feed, last_part, text_lines, without_empty_end}

-- Nothing has no line.
pub no_line : (text : List ℕ) → (length text == 0) ≡ true → text_lines text ≡ []
no_line [] none = refl
no_line (b ∷ text) none = let e = eqb-true (length (b ∷ text)) 0 none in absurd (omega arith)

pub some_left : (text : List ℕ) → (length text == 0) ≡ false → 0 < length text
some_left [] some = absurd (eqb-false 0 0 some refl)
some_left (b ∷ text) some = omega arith

more_parts : (line : List ℕ) (parts : List (List ℕ)) → 0 < length parts → without_empty_end (line ∷ parts) ≡ line ∷ without_empty_end parts
more_parts line [] some = absurd (omega (arith, some))
more_parts line (next ∷ parts) some = refl

-- Where there is a line feed, the first line is what stands before the first one.
pub first_line : (text : List ℕ) → position_or_len is_feed text < length text → text_lines text ≡ before_first is_feed text ∷ text_lines (after_first is_feed text)
first_line text inside =
    let rest = after_first is_feed text in
    ap without_empty_end (slice_split_first is_feed text 0 inside) ∙ more_parts (before_first is_feed text) (slice_split is_feed rest) (omega (arith, length-slice_split is_feed rest))

one_part : (line : List ℕ) → 0 < length line → last_part line ≡ line ∷ []
one_part [] some = absurd (omega (arith, some))
one_part (b ∷ line) some = refl

-- Where there is none, the whole text is the only line, unless it is empty.
pub last_line : (text : List ℕ) → 0 < length text → position_or_len is_feed text ≡ length text → text_lines text ≡ text ∷ []
last_line text some whole =
    let plain : All (λ b. is_feed b ≡ false) text = All-from_get_or (λ b. is_feed b ≡ false) text 0 (λ i h. fails_before_first is_feed text i 0 (omega arith)) in
    ap without_empty_end (slice_split_none is_feed text plain) ∙ one_part text some
