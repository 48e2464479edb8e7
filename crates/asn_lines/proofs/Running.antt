-- How far a run is.
use Rattle.std.proofs.Common.{zero, suc, true, false, ◌≡◌, ◌⊎◌, ◌<◌, ◌≤◌, ◌+◌, ◌-◌, ◌*◌, ◌∷◌, ◌++◌, ℕ, List, [], length, Option, Some, None, Result, Ok, Err, inl, inr, refl, sym, ap, ◌∙◌, subst, arith, append_assoc, append-nil, length-append, vec_len}
use Rattle.std.specs.Prelude.{⊤, OnErr, OnOk, is_err}
use Rattle.std.specs.Io.KnownBytes.{Appends, Consumes, IsAtEnd, Keeps, ReadConsumes}
use Rattle.std.proofs.lemmas.List.{get_or_at}
use Rattle.std.proofs.lemmas.List.Elements.{All-append, All-nil}
use Rattle.asn_lines.specs.Answers.{AnswersLines, LineAnswers}
use Rattle.asn_lines.specs.Gathering.{Gathers, Stops, TakesEnd, TakesPiece}
use Rattle.asn_lines.specs.Lines.{IsShort, IsWithinLimits, last_part, text_lines, whole_lines}
use Rattle.asn_lines.specs.Run.{Answered, AnsweredFront, CutShort, ReadSoFar, ReadToEnd, StoppedAt}
use Rattle.asn_lines.specs.Splits.{IsPastLimit, Splits}
use Rattle.asn_lines.specs.declared.gathered.Gathered.{Gathered}
use Rattle.asn_lines.specs.declared.gathered.Stop.{Stop}
use Rattle.asn_lines.specs.declared.limits.TheConstants.{MOST_LINES}
use Rattle.asn_streams.specs.Faults.{AppendsFront}
use Rattle.asn_streams.specs.Input.{input_limit}
use Rattle.asn_streams.specs.Transfer.{Transfer}
use Rattle.asn_lines.specs.Writing.{WritesAll, WritesBoth}
use Rattle.asn_streams.proofs.Known.{Appends-more, Appends-nothing, Consumes-more, Consumes-nothing}
use Rattle.std.proofs.KnownBytes.{Consumes-kept}
use Rattle.asn_lines.proofs.FirstLines.{IsPast, past_first}
use Rattle.asn_lines.proofs.Laws.{AnswersLines-append, AppendsFront-after, Splits-append, Splits-trans, same_answers, text_lines-Splits, text_lines-plain, whole_lines-Splits, whole_lines-plain}

-- What passed up to these bytes and faults.
abbrev pub up_to : Transfer → Option (List ℕ) → ℕ → Transfer
up_to t bytes faults = record t { bytes_after = bytes; faults_after = faults }

-- The lines that were read whole are answered, and no call failed.
pub record Underway (answers : LineAnswers) (source output errors : Transfer) (gathered : Gathered) : Type 0 where
  pub input : List ℕ
  pub taken : Consumes source.bytes_before source.bytes_after input
  pub whole : List (List ℕ)
  pub splits : Splits input whole gathered.line.items
  pub answered : Answered answers output errors (λ n. n ≡ gathered.refused) whole
  pub counted : gathered.lines ≡ length whole
  pub no_output : gathered.output.items ≡ []
  pub no_errors : gathered.errors.items ≡ []
  pub source_steady : source.faults_after ≡ source.faults_before
  pub output_steady : output.faults_after ≡ output.faults_before
  pub errors_steady : errors.faults_after ≡ errors.faults_before

-- Some of the lines of the piece are answered, the first ones, however the piece was taken.
pub record TakesSome (answers : LineAnswers) (old new : Gathered) (piece : List ℕ) : Type 0 where
  pub more : List (List ℕ)
  pub others : List (List ℕ)
  pub lines : text_lines (old.line.items ++ piece) ≡ more ++ others
  pub gathers : Gathers answers old new more

abbrev pub piece_taken : {answers : LineAnswers} {old new : Gathered} {piece : List ℕ} → TakesPiece answers old new piece → TakesSome answers old new piece
piece_taken {new = new} t = record { more = t.whole; others = text_lines new.line.items; lines = text_lines-Splits t.splits; gathers = t.gathers }

abbrev pub end_taken : {answers : LineAnswers} {old new : Gathered} → TakesEnd answers old new → TakesSome answers old new []
end_taken {old = old} t = record {
  more = last_part old.line.items;
  others = [];
  lines = ap text_lines (append-nil old.line.items) ∙ text_lines-plain old.line.items old.plain ∙ sym (append-nil (last_part old.line.items));
  gathers = t.gathers;
}

abbrev pub taken_early : {answers : LineAnswers} {old new : Gathered} {piece : List ℕ} {P : ℕ → List ℕ → Type 0} → Stops answers old new piece P → TakesSome answers old new piece
taken_early t = record { more = t.whole; others = text_lines t.rest; lines = text_lines-Splits t.splits; gathers = t.gathers }

pub some_taken : {answers : LineAnswers} {old new : Gathered} (piece : List ℕ) {T : Type 0} (result : Result T Stop) → OnOk result (0 < length piece → TakesPiece answers old new piece)
    → OnOk result (length piece ≡ 0 → TakesEnd answers old new) → OnErr result (Stops answers old new piece (λ _ _. ⊤)) → TakesSome answers old new piece
some_taken [] (Ok x) piece end early = end_taken (end refl)
some_taken (b ∷ bs) (Ok x) piece end early = piece_taken (piece (omega arith))
some_taken piece (Err e) more end early = taken_early early

-- What the number of refused lines has.
pub answered_with : {answers : LineAnswers} {output errors : Transfer} {P Q : ℕ → Type 0} {lines : List (List ℕ)} → Answered answers output errors P lines → ((n : ℕ) → P n → Q n) → Answered answers output errors Q lines
answered_with a f = record {
  answer_bytes = a.answer_bytes;
  refusal_bytes = a.refusal_bytes;
  refused = a.refused;
  replies = a.replies;
  to_output = a.to_output;
  to_errors = a.to_errors;
  has = f a.refused a.has;
  short = a.short;
}

-- No byte was read or written.
pub underway_first : (answers : LineAnswers) (source output errors : Option (List ℕ)) (f g h : ℕ) (gathered : Gathered) → gathered.line.items ≡ [] → gathered.lines ≡ 0 → gathered.refused ≡ 0 → gathered.output.items ≡ [] → gathered.errors.items ≡ []
    → Underway answers (record { bytes_before = source; bytes_after = source; faults_before = f; faults_after = f }) (record { bytes_before = output; bytes_after = output; faults_before = g; faults_after = g })
    (record { bytes_before = errors; bytes_after = errors; faults_before = h; faults_after = h }) gathered
underway_first answers source output errors f g h gathered line lines refused no_output no_errors = record {
  input = [];
  taken = Consumes-nothing source;
  whole = [];
  splits = subst (Splits [] []) (sym line) (Splits.no_line []);
  answered = record {
    answer_bytes = [];
    refusal_bytes = [];
    refused = 0;
    replies = AnswersLines.no_line 1;
    to_output = Appends-nothing output;
    to_errors = Appends-nothing errors;
    has = sym refused;
    short = All-nil IsShort;
  };
  counted = lines;
  no_output = no_output;
  no_errors = no_errors;
  source_steady = refl;
  output_steady = refl;
  errors_steady = refl;
}

-- The bytes that a source tells go on behind those that were read.
known_more : (a b : Option (List ℕ)) (bytes input : List ℕ) → a ≡ Some input → Consumes a b bytes → (more : List ℕ) × (input ≡ bytes ++ more)
known_more None b bytes input is taken = cc is
known_more (Some xs) None bytes input is taken = absurd taken
known_more (Some xs) (Some ys) bytes input is taken = let same : xs ≡ input = cc is in (ys, sym same ∙ taken)

-- A line in the midst of lines that are within the limits is, too.
not_past : (first : List (List ℕ)) (line : List ℕ) (others : List (List ℕ)) (lines : ℕ) → IsWithinLimits (first ++ line ∷ others) → lines ≡ length first → IsPast lines line → ⊥
not_past first line others lines within counted (inl above) =
    let at = within.short (length first) [] (omega (arith, length-append first (line ∷ others))) in
    let short : IsShort line = subst IsShort (get_or_at first line others [] (length first) refl) at in
    omega (arith, above, short)
not_past first line others lines within counted (inr full) =
    omega (arith, within.few, counted, full, length-append first (line ∷ others))

-- A run that is under way.
module _ {answers : LineAnswers} {source output errors : Transfer} {old : Gathered} (u : Underway answers source output errors old) where
  -- A read fails.
  pub unread : (left : Option (List ℕ)) (faults : ℕ) → Keeps source.bytes_after left → ReadSoFar (up_to source left faults) (λ input. Answered answers output errors (λ _. ⊤) (whole_lines input))
  unread left faults kept = record {
    input = u.input;
    taken = Consumes-kept source.bytes_before source.bytes_after left u.input u.taken kept;
    has = subst (Answered answers output errors (λ _. ⊤)) (sym (whole_lines-Splits u.splits ∙ ap (λ l. u.whole ++ l) (whole_lines-plain old.line.items old.plain) ∙ append-nil u.whole)) (answered_with u.answered (λ n e. tt));
  }

  -- A piece is read, and some of its lines are answered.
  module _ (left : Option (List ℕ)) (faults : ℕ) (piece : List ℕ) (read : Consumes source.bytes_after left piece) (mid : Gathered) (t : TakesSome answers old mid piece) where
    taken_more : Consumes source.bytes_before left (u.input ++ piece)
    taken_more = Consumes-more source.bytes_before source.bytes_after left u.input piece u.taken read

    all_lines : text_lines (u.input ++ piece) ≡ (u.whole ++ t.more) ++ t.others
    all_lines = text_lines-Splits (Splits-append u.splits piece) ∙ ap (λ l. u.whole ++ l) t.lines ∙ sym (append_assoc u.whole t.more t.others)

    replies : AnswersLines answers 1 (u.whole ++ t.more) (u.answered.answer_bytes ++ t.gathers.answer_bytes) (u.answered.refusal_bytes ++ t.gathers.refusal_bytes) (u.answered.refused + t.gathers.refusals)
    replies = AnswersLines-append u.answered.replies (same_answers {n = 1 + length u.whole} (omega (arith, u.counted)) refl refl refl t.gathers.replies)

    output_due : mid.output.items ≡ t.gathers.answer_bytes
    output_due = t.gathers.output ∙ ap (λ bytes. bytes ++ t.gathers.answer_bytes) u.no_output

    errors_due : mid.errors.items ≡ t.gathers.refusal_bytes
    errors_due = t.gathers.errors ∙ ap (λ bytes. bytes ++ t.gathers.refusal_bytes) u.no_errors

    module _ (out err : Option (List ℕ)) (f g : ℕ) where
      -- A write fails.
      pub cut_short : AppendsFront output.bytes_after out mid.output.items → AppendsFront errors.bytes_after err mid.errors.items
          → ReadSoFar (up_to source left faults) (λ input. CutShort answers (up_to output out f) (up_to errors err g) (text_lines input))
      cut_short p q = record {
        input = u.input ++ piece;
        taken = taken_more;
        has = record {
          first = u.whole ++ t.more;
          others = t.others;
          joined = all_lines;
          answer_bytes = u.answered.answer_bytes ++ t.gathers.answer_bytes;
          refusal_bytes = u.answered.refusal_bytes ++ t.gathers.refusal_bytes;
          refused = u.answered.refused + t.gathers.refusals;
          replies = replies;
          to_output = AppendsFront-after output.bytes_before output.bytes_after out u.answered.answer_bytes t.gathers.answer_bytes u.answered.to_output (subst (λ bytes. AppendsFront output.bytes_after out bytes) output_due p);
          to_errors = AppendsFront-after errors.bytes_before errors.bytes_after err u.answered.refusal_bytes t.gathers.refusal_bytes u.answered.to_errors (subst (λ bytes. AppendsFront errors.bytes_after err bytes) errors_due q);
        };
      }

      -- All is written.
      module _ (p : Appends output.bytes_after out mid.output.items) (q : Appends errors.bytes_after err mid.errors.items) where
        pub answered_more : Answered answers (up_to output out f) (up_to errors err g) (λ n. n ≡ mid.refused) (u.whole ++ t.more)
        answered_more = record {
          answer_bytes = u.answered.answer_bytes ++ t.gathers.answer_bytes;
          refusal_bytes = u.answered.refusal_bytes ++ t.gathers.refusal_bytes;
          refused = u.answered.refused + t.gathers.refusals;
          replies = replies;
          to_output = Appends-more output.bytes_before output.bytes_after out u.answered.answer_bytes t.gathers.answer_bytes u.answered.to_output (subst (λ bytes. Appends output.bytes_after out bytes) output_due p);
          to_errors = Appends-more errors.bytes_before errors.bytes_after err u.answered.refusal_bytes t.gathers.refusal_bytes u.answered.to_errors (subst (λ bytes. Appends errors.bytes_after err bytes) errors_due q);
          has = omega (arith, u.answered.has, t.gathers.refused);
          short = All-append IsShort u.whole t.more u.answered.short t.gathers.short;
        }

        pub answered_front : ReadSoFar (up_to source left faults) (λ input. AnsweredFront answers (up_to output out f) (up_to errors err g) (text_lines input))
        answered_front = record {
          input = u.input ++ piece;
          taken = taken_more;
          has = record { first = u.whole ++ t.more; others = t.others; joined = all_lines; answered = answered_with answered_more (λ n e. tt) };
        }

        pub answered_all : t.others ≡ [] → IsAtEnd left → (P : ℕ → Type 0) → P mid.refused → ReadToEnd (up_to source left faults) (λ input. Answered answers (up_to output out f) (up_to errors err g) P (text_lines input))
        answered_all none ended P has = record {
          so_far = record {
            input = u.input ++ piece;
            taken = taken_more;
            has = subst (Answered answers (up_to output out f) (up_to errors err g) P) (sym (all_lines ∙ ap (λ l. (u.whole ++ t.more) ++ l) none ∙ append-nil (u.whole ++ t.more))) (answered_with answered_more (λ n e. subst P (sym e) has));
          };
          ended = ended;
        }

  -- Nothing more is read, and the last line is answered.
  pub ended_all : (left : Option (List ℕ)) (faults : ℕ) (piece : List ℕ) → length piece ≡ 0 → Consumes source.bytes_after left piece → (mid : Gathered) → TakesEnd answers old mid
      → (out err : Option (List ℕ)) (f g : ℕ) → Appends output.bytes_after out mid.output.items → Appends errors.bytes_after err mid.errors.items → IsAtEnd left → (P : ℕ → Type 0) → P mid.refused
      → ReadToEnd (up_to source left faults) (λ input. Answered answers (up_to output out f) (up_to errors err g) P (text_lines input))
  ended_all left faults [] none read mid t out err f g p q ended P has = answered_all left faults [] read mid (end_taken t) out err f g p q refl ended P has
  ended_all left faults (b ∷ piece) none read mid t out err f g p q ended P has = absurd (omega (arith, none))

  -- A piece is read, and the lines before one that is past the limits are answered.
  module _ (left : Option (List ℕ)) (faults : ℕ) (piece : List ℕ) (read : Consumes source.bytes_after left piece) (mid : Gathered) (s : Stops answers old mid piece IsPastLimit) where
    counted_more : mid.lines ≡ length (u.whole ++ s.whole)
    counted_more = omega (arith, u.counted, s.gathers.lines, length-append u.whole s.whole)

    past_number : (number : ℕ) (line : List ℕ) → number ≡ mid.lines + 1 → IsPast mid.lines line → (input_limit < length line) ⊎ (MOST_LINES < number)
    past_number number line is (inl above) = inl above
    past_number number line is (inr full) = inr (omega (arith, is, full))

    pub stopped_at : (out err : Option (List ℕ)) (f g : ℕ) → Appends output.bytes_after out mid.output.items → Appends errors.bytes_after err mid.errors.items → (number : ℕ) → number ≡ mid.lines + 1
        → ReadSoFar (up_to source left faults) (λ input. StoppedAt answers (up_to output out f) (up_to errors err g) number (text_lines input))
    stopped_at out err f g p q number is =
        let t : TakesSome answers old mid piece = taken_early s in
        let first = past_first s.has [] in
        record {
          input = u.input ++ piece;
          taken = taken_more left faults piece read mid t;
          has = record {
            first = u.whole ++ s.whole;
            line = first.line;
            others = first.others;
            joined = all_lines left faults piece read mid t ∙ ap (λ l. (u.whole ++ s.whole) ++ l) (ap text_lines (sym (append-nil s.rest)) ∙ first.is);
            counted = omega (arith, is, counted_more);
            past_limit = past_number number first.line is first.has;
            answered = answered_with (answered_more left faults piece read mid t out err f g p q) (λ n e. tt);
          };
        }

    pub not_within : (input : List ℕ) → source.bytes_before ≡ Some input → IsWithinLimits (text_lines input) → ⊥
    not_within input told within =
        let known = known_more source.bytes_before left (u.input ++ piece) input told (Consumes-more source.bytes_before source.bytes_after left u.input piece u.taken read) in
        let first = past_first s.has known.0 in
        let lines = ap text_lines known.1 ∙ text_lines-Splits (Splits-append (Splits-trans (Splits-append u.splits piece) s.splits) known.0) ∙ ap (λ l. (u.whole ++ s.whole) ++ l) first.is in
        not_past (u.whole ++ s.whole) first.line first.others mid.lines (subst IsWithinLimits lines within) counted_more first.has

  -- A piece is read, its lines are answered, and what they come to is written.
  module _ (left : Option (List ℕ)) (faults : ℕ) (piece : List ℕ) (read : Consumes source.bytes_after left piece) (mid : Gathered) (t : TakesPiece answers old mid piece)
      (new : Gathered) (line : new.line.items ≡ mid.line.items) (lines : new.lines ≡ mid.lines) where
    pub underway_next : (out err : Option (List ℕ)) (f g : ℕ) → Appends output.bytes_after out mid.output.items → Appends errors.bytes_after err mid.errors.items
        → new.refused ≡ mid.refused → new.output.items ≡ [] → new.errors.items ≡ [] → faults ≡ source.faults_after → f ≡ output.faults_after → g ≡ errors.faults_after
        → Underway answers (up_to source left faults) (up_to output out f) (up_to errors err g) new
    underway_next out err f g p q refused no_output no_errors steady steady_f steady_g = record {
      input = u.input ++ piece;
      taken = Consumes-more source.bytes_before source.bytes_after left u.input piece u.taken read;
      whole = u.whole ++ t.whole;
      splits = subst (Splits (u.input ++ piece) (u.whole ++ t.whole)) (sym line) (Splits-trans (Splits-append u.splits piece) t.splits);
      answered = answered_with (answered_more left faults piece read mid (piece_taken t) out err f g p q) (λ n e. e ∙ sym refused);
      counted = omega (arith, lines, t.gathers.lines, u.counted, length-append u.whole t.whole);
      no_output = no_output;
      no_errors = no_errors;
      source_steady = steady ∙ u.source_steady;
      output_steady = steady_f ∙ u.output_steady;
      errors_steady = steady_g ∙ u.errors_steady;
    }

-- How many bytes may come at most.
abbrev pub room_left : ℕ → ℕ → ℕ
room_left lines bytes = (MOST_LINES - lines) * (input_limit + 1) + (input_limit - bytes)

less_room : (n m a b k : ℕ) → m ≡ n + k → m ≤ MOST_LINES → a ≤ input_limit → b ≤ input_limit → (k ≡ 0 → a < b) → room_left m b < room_left n a
less_room n m a b zero is few short_a short_b longer = let more = longer refl in omega arith
less_room n m a b (suc k) is few short_a short_b longer = omega (arith, is, few, short_a, short_b)

no_line_split : {bytes rest : List ℕ} → Splits bytes [] rest → bytes ≡ rest
no_line_split (Splits.no_line bytes) = refl

-- A piece that isn't empty leaves less room.
pub room_falls : {answers : LineAnswers} {old mid : Gathered} {piece : List ℕ} → TakesPiece answers old mid piece → 0 < length piece → (new : Gathered) → new.line.items ≡ mid.line.items → new.lines ≡ mid.lines
    → room_left new.lines (vec_len new.line) < room_left old.lines (vec_len old.line)
room_falls {old = old} {mid = mid} {piece = piece} t some new line lines = go t.whole t.splits t.gathers.lines
  where
    go : (whole : List (List ℕ)) → Splits (old.line.items ++ piece) whole mid.line.items → mid.lines ≡ old.lines + length whole → room_left new.lines (vec_len new.line) < room_left old.lines (vec_len old.line)
    go [] s e =
        let longer = ap length (no_line_split s ∙ sym line) in
        less_room old.lines new.lines (vec_len old.line) (vec_len new.line) 0 (omega (arith, lines, e)) new.few old.short new.short (λ _. omega (arith, longer, some, length-append old.line.items piece, old.line.ok.0, new.line.ok.0))
    go (first ∷ whole) s e =
        less_room old.lines new.lines (vec_len old.line) (vec_len new.line) (suc (length whole)) (omega (arith, lines, e)) new.few old.short new.short (λ none. absurd (omega (arith, none)))

-- A read that gives no count takes nothing.
pub kept_unread : {E : Type 0} (a b : Option (List ℕ)) (buffer : List ℕ) (r : Result ℕ E) → ReadConsumes a b r buffer → ((x : ℕ) → r ≡ Ok x → ⊥) → Keeps a b
kept_unread a b buffer (Ok x) h none = absurd (none x refl)
kept_unread a b buffer (Err e) h none = h

-- Of two writes, where one failed.
pub writes_cut : {T E : Type 0} (xs ys : List ℕ) (output errors : Transfer) (r : Result T E) → WritesBoth xs ys output errors r → is_err r ≡ true
    → AppendsFront output.bytes_before output.bytes_after xs × AppendsFront errors.bytes_before errors.bytes_after ys
writes_cut xs ys output errors (Ok x) h e = cc e
writes_cut xs ys output errors (Err d) h e = (h.1, h.2)

-- Of two writes, where none failed.
pub writes_whole : {T E : Type 0} (xs ys : List ℕ) (output errors : Transfer) (r : Result T E) → WritesBoth xs ys output errors r → is_err r ≡ false → WritesAll xs output × WritesAll ys errors
writes_whole xs ys output errors (Ok x) h e = h
writes_whole xs ys output errors (Err d) h e = cc e

-- What holds where no error comes.
pub at_ok : {T E P : Type 0} (r : Result T E) → is_err r ≡ false → OnOk r P → P
at_ok (Ok x) e h = h
at_ok (Err d) e h = cc e
