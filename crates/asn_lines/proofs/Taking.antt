-- What of a piece is taken.
use Rattle.std.proofs.Common.{◌≡◌, ◌<◌, ◌+◌, ◌∷◌, ◌++◌, ℕ, List, [], length, false, refl, sym, ap, ◌∙◌, subst, arith, append_assoc, length-append}
use Rattle.std.proofs.lemmas.List.Elements.{All-append}
use Rattle.asn_lines.specs.Answers.{LineAnswers}
use Rattle.asn_lines.specs.Gathering.{Gathers, Keeps, Stops, TakesPiece}
use Rattle.asn_lines.specs.Lines.{IsShort, is_feed}
use Rattle.asn_lines.specs.Splits.{HasNoFeed, IsFirstLine, IsPastLimit, Splits}
use Rattle.asn_lines.specs.declared.gathered.Gathered.{Gathered}
use Rattle.asn_lines.specs.declared.limits.TheConstants.{MOST_LINES}
use Rattle.asn_streams.specs.Input.{input_limit}
use Rattle.asn_lines.proofs.Laws.{AnswersLines-append, Splits-first, Splits-trans, same_answers}
use Rattle.asn_lines.proofs.OneLine.{nothing_gathers}

-- Lines are answered, and then more.
pub Gathers-trans : {answers : LineAnswers} {old mid new : Gathered} {xs ys : List (List ℕ)} → Gathers answers old mid xs → Gathers answers mid new ys → Gathers answers old new (xs ++ ys)
Gathers-trans {answers} {old} {mid} {new} {xs} {ys} a b = record {
  answer_bytes = a.answer_bytes ++ b.answer_bytes;
  refusal_bytes = a.refusal_bytes ++ b.refusal_bytes;
  refusals = a.refusals + b.refusals;
  replies = AnswersLines-append a.replies (same_answers {n = (old.lines + 1) + length xs} (omega (arith, a.lines)) refl refl refl b.replies);
  output = b.output ∙ ap (λ t. t ++ b.answer_bytes) a.output ∙ append_assoc old.output.items a.answer_bytes b.answer_bytes;
  errors = b.errors ∙ ap (λ t. t ++ b.refusal_bytes) a.errors ∙ append_assoc old.errors.items a.refusal_bytes b.refusal_bytes;
  lines = omega (arith, a.lines, b.lines, length-append xs ys);
  refused = omega (arith, a.refused, b.refused);
  short = All-append IsShort xs ys a.short b.short;
}

-- What was gathered stays.
pub Gathers-kept : {answers : LineAnswers} {old mid new : Gathered} {xs : List (List ℕ)} → Gathers answers old mid xs → Keeps mid new → Gathers answers old new xs
Gathers-kept {answers} {old} {mid} {new} {xs} a k = record {
  answer_bytes = a.answer_bytes;
  refusal_bytes = a.refusal_bytes;
  refusals = a.refusals;
  replies = a.replies;
  output = k.output ∙ a.output;
  errors = k.errors ∙ a.errors;
  lines = k.lines ∙ a.lines;
  refused = k.refused ∙ a.refused;
  short = a.short;
}

kept_gathers : {answers : LineAnswers} {old mid new : Gathered} {xs : List (List ℕ)} → Keeps old mid → Gathers answers mid new xs → Gathers answers old new xs
kept_gathers {answers} {old} {mid} {new} {xs} k a = record {
  answer_bytes = a.answer_bytes;
  refusal_bytes = a.refusal_bytes;
  refusals = a.refusals;
  replies = same_answers (ap (λ n. n + 1) k.lines) refl refl refl a.replies;
  output = a.output ∙ ap (λ t. t ++ a.answer_bytes) k.output;
  errors = a.errors ∙ ap (λ t. t ++ a.refusal_bytes) k.errors;
  lines = a.lines ∙ ap (λ n. n + length xs) k.lines;
  refused = a.refused ∙ ap (λ n. n + a.refusals) k.refused;
  short = a.short;
}

-- A line that would have a number above the limit.
pub past_number : (lines : ℕ) (rest : List ℕ) → 0 < length rest → lines ≡ MOST_LINES → IsPastLimit lines rest
past_number lines [] some is = absurd (omega (arith, some))
past_number lines (b ∷ rest) some is = IsPastLimit.last_number b rest is

-- How far a piece is taken: some lines are answered, and the line that isn't whole goes on with this rest of the piece.
pub record Taking (answers : LineAnswers) (old now : Gathered) (piece rest : List ℕ) : Type 0 where
  pub whole : List (List ℕ)
  pub splits : Splits (old.line.items ++ piece) whole (now.line.items ++ rest)
  pub gathers : Gathers answers old now whole

pub begins : (answers : LineAnswers) (old : Gathered) (piece : List ℕ) → Taking answers old old piece piece
begins answers old piece = record { whole = []; splits = Splits.no_line (old.line.items ++ piece); gathers = nothing_gathers answers old }

module _ {answers : LineAnswers} {old now : Gathered} {piece rest : List ℕ} (t : Taking answers old now piece rest) where
  -- No more is taken.
  pub stops : (new : Gathered) (P : ℕ → List ℕ → Type 0) → Keeps now new → P new.lines (now.line.items ++ rest) → Stops answers old new piece P
  stops new P k has = record { whole = t.whole; rest = now.line.items ++ rest; splits = t.splits; gathers = Gathers-kept t.gathers k; has = has }

  -- The rest has no line feed, and goes to the line.
  pub ends : (new : Gathered) → Keeps now new → new.line.items ≡ now.line.items ++ rest → TakesPiece answers old new piece
  ends new k is = record { whole = t.whole; splits = subst (Splits (old.line.items ++ piece) t.whole) (sym is) t.splits; gathers = Gathers-kept t.gathers k }

  -- The line is past the limit.
  pub past_limit : (part after : List ℕ) → HasNoFeed part → rest ≡ part ++ after → (lines : ℕ) → input_limit < length now.line.items + length part → IsPastLimit lines (now.line.items ++ rest)
  past_limit part after plain is lines above =
      let long = now.line.items ++ part in
      subst (IsPastLimit lines) (append_assoc now.line.items part after ∙ ap (λ r. now.line.items ++ r) (sym is))
      (IsPastLimit.long_line long after (All-append (λ b. is_feed b ≡ false) now.line.items part now.plain plain) (omega (arith, above, length-append now.line.items part)))

  module _ (part after : List ℕ) (first : IsFirstLine rest part after) (mid : Gathered) (kept : Keeps now mid) (longer : mid.line.items ≡ now.line.items ++ part) where
    joined : now.line.items ++ rest ≡ mid.line.items ++ 10 ∷ after
    joined = ap (λ r. now.line.items ++ r) first.joined ∙ sym (append_assoc now.line.items part (10 ∷ after)) ∙ ap (λ l. l ++ 10 ∷ after) (sym longer)

    -- The line ends, and is answered.
    pub goes_on : (new : Gathered) → Gathers answers mid new (mid.line.items ∷ []) → new.line.items ≡ [] → Taking answers old new piece after
    goes_on new one empty = record {
      whole = t.whole ++ mid.line.items ∷ [];
      splits = Splits-trans t.splits (subst (λ all. Splits all (mid.line.items ∷ []) (new.line.items ++ after)) (sym joined)
          (subst (λ l. Splits (mid.line.items ++ 10 ∷ after) (mid.line.items ∷ []) (l ++ after)) (sym empty) (Splits-first mid.line.items after mid.plain)));
      gathers = Gathers-trans t.gathers (kept_gathers kept one);
    }

    -- The line ends, and isn't answered.
    pub stops_there : (new : Gathered) (P : ℕ → List ℕ → Type 0) → Keeps mid new → P new.lines (now.line.items ++ rest) → Stops answers old new piece P
    stops_there new P k has = record { whole = t.whole; rest = now.line.items ++ rest; splits = t.splits; gathers = Gathers-kept (Gathers-kept t.gathers kept) k; has = has }

    some_left : 0 < length (now.line.items ++ rest)
    some_left = omega (arith, ap length joined, length-append mid.line.items (10 ∷ after))

    pub past_numbers : (new : Gathered) → Keeps mid new → mid.lines ≡ MOST_LINES → IsPastLimit new.lines (now.line.items ++ rest)
    past_numbers new k is = past_number new.lines (now.line.items ++ rest) some_left (k.lines ∙ is)
