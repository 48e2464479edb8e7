-- The first line of bytes, whatever follows them.
use Rattle.std.proofs.Common.{◌≡◌, ◌⊎◌, ◌<◌, ◌≤◌, ◌∷◌, ◌++◌, ℕ, Bool, List, [], length, true, false, inl, inr, refl, ap, ◌∙◌, arith, append_assoc, length-append}
use Rattle.std.specs.List.{onto_first, slice_split}
use Rattle.std.proofs.lemmas.List.Elements.{All-cons, All-head, All-nil, All-tail}
use Rattle.std.proofs.lemmas.List.Splits.{slice_split-cons_no, slice_split-cons_yes}
use Rattle.asn_lines.specs.Lines.{is_feed, text_lines, without_empty_end}
use Rattle.asn_lines.specs.Splits.{HasNoFeed, IsPastLimit}
use Rattle.asn_lines.specs.declared.limits.TheConstants.{MOST_LINES}
use Rattle.asn_streams.specs.Input.{input_limit}
use Rattle.asn_lines.proofs.Laws.{another, some_part}

-- The line and those after it.
pub record HasFirst (lines : List (List ℕ)) (P : List ℕ → Type 0) : Type 0 where
  pub line : List ℕ
  pub others : List (List ℕ)
  pub is : lines ≡ line ∷ others
  pub has : P line

-- Bytes without a line feed go to the first part.
extends_first : (line bytes part : List ℕ) (parts : List (List ℕ)) → HasNoFeed line → slice_split is_feed bytes ≡ part ∷ parts → slice_split is_feed (line ++ bytes) ≡ (line ++ part) ∷ parts
extends_first [] bytes part parts plain is = is
extends_first (b ∷ line) bytes part parts plain is =
    slice_split-cons_no is_feed b (line ++ bytes) (All-head (λ b. is_feed b ≡ false) b line plain)
    ∙ ap (onto_first b) (extends_first line bytes part parts (All-tail (λ b. is_feed b ≡ false) b line plain) is)

first_of_parts : (line : List ℕ) (parts : List (List ℕ)) → 0 < length line → HasFirst (without_empty_end (line ∷ parts)) (λ l. l ≡ line)
first_of_parts [] parts some = absurd (omega (arith, some))
first_of_parts (b ∷ line) [] some = record { line = b ∷ line; others = []; is = refl; has = refl }
first_of_parts (b ∷ line) (next ∷ parts) some = record { line = b ∷ line; others = without_empty_end (next ∷ parts); is = refl; has = refl }

-- Bytes that begin with bytes without a line feed have a first line of at least as many bytes.
first_at_least : (line bytes : List ℕ) → HasNoFeed line → 0 < length line → HasFirst (text_lines (line ++ bytes)) (λ l. length line ≤ length l)
first_at_least line bytes plain some = go (slice_split is_feed bytes) refl (some_part bytes)
  where
    go : (all : List (List ℕ)) → slice_split is_feed bytes ≡ all → 0 < length all → HasFirst (text_lines (line ++ bytes)) (λ l. length line ≤ length l)
    go [] is more = absurd (omega (arith, more))
    go (part ∷ parts) is more =
        let first = first_of_parts (line ++ part) parts (omega (arith, some, length-append line part)) in
        record {
          line = first.line;
          others = first.others;
          is = ap without_empty_end (extends_first line bytes part parts plain is) ∙ first.is;
          has = omega (arith, ap length first.has, length-append line part);
        }

some_first : (b : ℕ) (bytes : List ℕ) (feed : Bool) → is_feed b ≡ feed → HasFirst (text_lines (b ∷ bytes)) (λ l. 0 ≤ length l)
some_first b bytes true is = record {
  line = [];
  others = text_lines bytes;
  is = ap without_empty_end (slice_split-cons_yes is_feed b bytes is) ∙ (another [] (slice_split is_feed bytes) (some_part bytes)).0;
  has = omega arith;
}
some_first b bytes false is =
    let first = first_at_least (b ∷ []) bytes (All-cons (λ b. is_feed b ≡ false) b [] is (All-nil (λ b. is_feed b ≡ false))) (omega arith) in
    record { line = first.line; others = first.others; is = first.is; has = omega arith }

-- Behind so many lines, the first line is past the limits.
abbrev pub IsPast : ℕ → List ℕ → Type 0
IsPast lines line = (input_limit < length line) ⊎ (lines ≡ MOST_LINES)

pub past_first : {lines : ℕ} {rest : List ℕ} → IsPastLimit lines rest → (more : List ℕ) → HasFirst (text_lines (rest ++ more)) (IsPast lines)
past_first (IsPastLimit.long_line long rest plain above) more =
    let first = first_at_least long (rest ++ more) plain (omega (arith, above)) in
    record { line = first.line; others = first.others; is = ap text_lines (append_assoc long rest more) ∙ first.is; has = inl (omega (arith, above, first.has)) }
past_first (IsPastLimit.last_number b rest is) more =
    let first = some_first b (rest ++ more) (is_feed b) refl in
    record { line = first.line; others = first.others; is = first.is; has = inr is }
