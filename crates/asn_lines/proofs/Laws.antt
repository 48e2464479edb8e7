-- Laws on lines and on what they come to.
use Rattle.std.proofs.Common.{◌≡◌, ◌<◌, ◌+◌, ◌∷◌, ◌++◌, ℕ, List, [], length, take, Option, string_bytes, refl, sym, ap, ◌∙◌, subst, arith, append_assoc}
use Rattle.std.specs.List.{slice_split}
use Rattle.std.specs.Io.KnownBytes.{Appends}
use Rattle.std.proofs.lemmas.List.Splits.{length-slice_split, slice_split_at, slice_split_none}
use Rattle.std.proofs.Math.Seq.{take-append-add, take-length}
use Rattle.asn_lines.specs.Answers.{AnswersLines, LineAnswers}
use Rattle.asn_lines.specs.Lines.{is_feed, last_part, text_lines, whole_lines, without_empty_end, without_end}
use Rattle.asn_lines.specs.Splits.{HasNoFeed, Splits}
use Rattle.asn_streams.specs.Faults.{AppendsFront}
use Rattle.asn_streams.proofs.Known.{Appends-more}

-- Splitting goes on with the rest.
pub Splits-trans : {bytes middle rest : List ℕ} {lines more : List (List ℕ)} → Splits bytes lines middle → Splits middle more rest → Splits bytes (lines ++ more) rest
Splits-trans (Splits.no_line bytes) t = t
Splits-trans {rest = rest} {more = more} (Splits.one_more line bytes lines middle plain s) t = Splits.one_more line bytes (lines ++ more) rest plain (Splits-trans s t)

-- What follows the bytes follows the rest.
pub Splits-append : {bytes rest : List ℕ} {lines : List (List ℕ)} → Splits bytes lines rest → (more : List ℕ) → Splits (bytes ++ more) lines (rest ++ more)
Splits-append (Splits.no_line bytes) more = Splits.no_line (bytes ++ more)
Splits-append (Splits.one_more line bytes lines rest plain s) more =
    subst (λ all. Splits all (line ∷ lines) (rest ++ more)) (sym (append_assoc line (10 ∷ bytes) more)) (Splits.one_more line (bytes ++ more) lines (rest ++ more) plain (Splits-append s more))

-- The first line of bytes, and the rest.
pub Splits-first : (line rest : List ℕ) → HasNoFeed line → Splits (line ++ 10 ∷ rest) (line ∷ []) rest
Splits-first line rest plain = Splits.one_more line rest [] rest plain (Splits.no_line rest)

parted : (line rest : List ℕ) → HasNoFeed line → slice_split is_feed (line ++ 10 ∷ rest) ≡ line ∷ slice_split is_feed rest
parted line rest plain = slice_split_at is_feed line 10 rest plain refl

pub another : (line : List ℕ) (parts : List (List ℕ)) → 0 < length parts → (without_empty_end (line ∷ parts) ≡ line ∷ without_empty_end parts) × (without_end (line ∷ parts) ≡ line ∷ without_end parts)
another line [] some = absurd (omega (arith, some))
another line (next ∷ parts) some = (refl, refl)

pub some_part : (bytes : List ℕ) → 0 < length (slice_split is_feed bytes)
some_part bytes = omega (arith, length-slice_split is_feed bytes)

-- The lines of bytes that begin with these lines.
pub text_lines-Splits : {bytes rest : List ℕ} {lines : List (List ℕ)} → Splits bytes lines rest → text_lines bytes ≡ lines ++ text_lines rest
text_lines-Splits (Splits.no_line bytes) = refl
text_lines-Splits (Splits.one_more line bytes lines rest plain s) =
    ap without_empty_end (parted line bytes plain) ∙ (another line (slice_split is_feed bytes) (some_part bytes)).0 ∙ ap (λ more. line ∷ more) (text_lines-Splits s)

pub whole_lines-Splits : {bytes rest : List ℕ} {lines : List (List ℕ)} → Splits bytes lines rest → whole_lines bytes ≡ lines ++ whole_lines rest
whole_lines-Splits (Splits.no_line bytes) = refl
whole_lines-Splits (Splits.one_more line bytes lines rest plain s) =
    ap without_end (parted line bytes plain) ∙ (another line (slice_split is_feed bytes) (some_part bytes)).1 ∙ ap (λ more. line ∷ more) (whole_lines-Splits s)

-- Bytes without a line feed are at most one line.
pub text_lines-plain : (rest : List ℕ) → HasNoFeed rest → text_lines rest ≡ last_part rest
text_lines-plain rest plain = ap without_empty_end (slice_split_none is_feed rest plain)

pub whole_lines-plain : (rest : List ℕ) → HasNoFeed rest → whole_lines rest ≡ []
whole_lines-plain rest plain = ap without_end (slice_split_none is_feed rest plain)

-- The same lines by equal numbers and bytes.
pub same_answers : {answers : LineAnswers} {m n : ℕ} {lines : List (List ℕ)} {o p e f : List ℕ} {q r : ℕ} → m ≡ n → o ≡ p → e ≡ f → q ≡ r → AnswersLines answers m lines o e q → AnswersLines answers n lines p f r
same_answers {answers} {m} {n} {lines} {o} {p} {e} {f} {q} {r} a b c d h =
    subst (λ k. AnswersLines answers k lines p f r) a (subst (λ t. AnswersLines answers m lines t f r) b (subst (λ t. AnswersLines answers m lines o t r) c (subst (λ k. AnswersLines answers m lines o e k) d h)))

-- What lines and those after them come to.
pub AnswersLines-append : {answers : LineAnswers} {number refused : ℕ} {lines : List (List ℕ)} {output errors : List ℕ} → AnswersLines answers number lines output errors refused
    → {more : List (List ℕ)} {output' errors' : List ℕ} {refused' : ℕ} → AnswersLines answers (number + length lines) more output' errors' refused'
    → AnswersLines answers number (lines ++ more) (output ++ output') (errors ++ errors') (refused + refused')
AnswersLines-append (AnswersLines.no_line number) h = same_answers (omega arith) refl refl (omega arith) h
AnswersLines-append (AnswersLines.answered number line text lines output errors refused is s) {more} {output'} {errors'} {refused'} h =
    let rest = AnswersLines-append s (same_answers {n = (number + 1) + length lines} (omega arith) refl refl refl h) in
    same_answers refl (sym (append_assoc (string_bytes text) output output')) refl refl (AnswersLines.answered number line text (lines ++ more) (output ++ output') (errors ++ errors') (refused + refused') is rest)
AnswersLines-append (AnswersLines.refused number line text lines output errors refused is s) {more} {output'} {errors'} {refused'} h =
    let rest = AnswersLines-append s (same_answers {n = (number + 1) + length lines} (omega arith) refl refl refl h) in
    same_answers refl refl (sym (append_assoc (string_bytes text) errors errors')) (omega arith) (AnswersLines.refused number line text (lines ++ more) (output ++ output') (errors ++ errors') (refused + refused') is rest)

-- Bytes that were written whole are a front part of themselves.
pub whole_front : (a b : Option (List ℕ)) (bytes : List ℕ) → Appends a b bytes → AppendsFront a b bytes
whole_front a b bytes h = (length bytes, subst (Appends a b) (sym (take-length bytes)) h)

-- Bytes were written whole, and then a front part of others.
pub AppendsFront-after : (a b c : Option (List ℕ)) (xs ys : List ℕ) → Appends a b xs → AppendsFront b c ys → AppendsFront a c (xs ++ ys)
AppendsFront-after a b c xs ys p q = (length xs + q.0, subst (Appends a c) (sym (take-append-add xs ys q.0)) (Appends-more a b c xs (take q.0 ys) p q.1))
