-- What a report says of what was kept.
use Rattle.std.proofs.Common.{◌≡◌, ◌<◌, ◌==◌, ◌++◌, ℕ, List, [], ◌∷◌, length, take, get_or, ◌+◌, Bool, true, false, Result, Ok, Err, string_bytes, refl, sym, ap, ap₂, ◌∙◌, subst, append-nil, arith}
use Rattle.std.specs.List.{flat_map}
use Rattle.std.specs.Prelude.{IfOk}
use Rattle.std.proofs.lemmas.Bool.{eqb-true, eqb-false}
use Rattle.std.proofs.lemmas.List.{flat_map_more, take_more}
use Rattle.asn_core.specs.declared.codec.Codec.{Codec}
use Rattle.asn_dynamic.specs.declared.conversion.ConvertError.{ConvertError}
use Rattle.asn_filter.specs.Kept.{Filtered, StatesDifference}
use Rattle.asn_filter.specs.Lines.{text_lines}
use Rattle.asn_filter.specs.declared.fault.FilterFault.{FilterFault}
use Rattle.asn_filter.specs.declared.fault.FilterFault.TheVariants.{NotGrown}
use Rattle.asn_filter.proofs.OneCut.{not_both}
use Rattle.asn_convert.specs.Reports.{AreKept, CanKeepAll, IsKeepingRefusal, IsReport, refusal_line}
use Rattle.asn_convert.specs.declared.report.Report.{Report}
use Rattle.asn_growth.specs.Differences.{differences_of, growth_of}
use Rattle.asn_growth.specs.Grows as growth
use Rattle.asn_growth.specs.declared.reasons.Growth.TheVariants.{Differs, Grows}
use Rattle.asn_growth.specs.declared.reasons.Reason.{Reason}
use Rattle.asn_growth.proofs.Growing.{grown-none}
use Rattle.asn_model.specs.Shape.{Shape}

none_left : {A : Type 0} (xs : List A) → (length xs == 0) ≡ true → xs ≡ []
none_left [] e = refl
none_left (x ∷ xs) e = let n = eqb-true (length (x ∷ xs)) 0 e in absurd (omega arith)

some_left : {A : Type 0} (xs : List A) → (length xs == 0) ≡ false → 0 < length xs
some_left [] e = absurd (eqb-false 0 0 e refl)
some_left (x ∷ xs) e = omega arith

-- What is kept and the lines behind it are the report.
reported : (from : Codec) (old new : Shape) (text kept due : List ℕ) (refused : List (ℕ × ConvertError)) (whole : Bool) → growth.Grows old new → Filtered from old new 1 (text_lines text) kept refused → due ≡ kept ++ flat_map refusal_line refused → whole ≡ (length refused == 0)
    → IsReport from old new text due whole
reported from old new text kept due refused true g f is w =
    let none = none_left refused (sym w) in
    let all = subst (Filtered from old new 1 (text_lines text) kept) none f in
    let same : due ≡ kept = is ∙ ap (λ r. kept ++ flat_map refusal_line r) none ∙ append-nil kept in
    record { grown = g; filtered = subst (λ t. Filtered from old new 1 (text_lines text) t []) (sym same) all }
reported from old new text kept due refused false g f is w = subst (IsKeepingRefusal from old new text) (sym is) (IsKeepingRefusal.some_refused kept refused g f (some_left refused (sym w)))

pub kept_reported : {E : Type 0} (from : Codec) (old new : Shape) (text kept : List ℕ) (refused : List (ℕ × ConvertError)) (r : Result Report E) → growth.Grows old new → Filtered from old new 1 (text_lines text) kept refused
    → IfOk r (λ x. string_bytes x.text ≡ kept ++ flat_map refusal_line refused) → IfOk r (λ x. x.is_whole ≡ (length refused == 0)) → IfOk r (λ x. IsReport from old new text (string_bytes x.text) x.is_whole)
kept_reported from old new text kept refused (Ok x) g f is w = reported from old new text kept (string_bytes x.text) refused x.is_whole g f is w
kept_reported from old new text kept refused (Err e) g f is w = tt

-- One more line stands behind those that are there.
pub lines_more : (before now line after : List ℕ) (refused : List (ℕ × ConvertError)) (i : ℕ) (item : ℕ × ConvertError) → now ≡ before ++ flat_map refusal_line (take i refused) → i < length refused → item ≡ get_or refused i item → line ≡ refusal_line item → after ≡ now ++ line
    → after ≡ before ++ flat_map refusal_line (take (i + 1) refused)
lines_more before now line after refused i item n inside is l a =
    let next : take (i + 1) refused ≡ take i refused ++ item ∷ [] = take_more refused i item inside ∙ ap (λ x. take i refused ++ x ∷ []) (sym is) in
    a ∙ ap₂ (λ x y. x ++ y) n l ∙ flat_map_more refusal_line before (take i refused) item ∙ ap (λ xs. before ++ flat_map refusal_line xs) (sym next)

-- Where each line can be kept, none is refused.
none_refused : {from : Codec} {old new : Shape} {number : ℕ} {lines : List (List ℕ)} {kept : List ℕ} {refused : List (ℕ × ConvertError)} → Filtered from old new number lines kept refused → AreKept from old new lines → refused ≡ []
none_refused (Filtered.no_line number) h = refl
none_refused (Filtered.line_kept number line output lines kept refused k f) h = none_refused f h.1
none_refused (Filtered.line_refused number line fault lines kept refused r f) h = absurd (not_both h.0.1 r)

pub all_kept : {E : Type 0} (from : Codec) (old new : Shape) (text kept : List ℕ) (refused : List (ℕ × ConvertError)) (r : Result Report E) → Filtered from old new 1 (text_lines text) kept refused → IfOk r (λ x. x.is_whole ≡ (length refused == 0))
    → CanKeepAll from old new text → IfOk r (λ x. x.is_whole ≡ true)
all_kept from old new text kept refused (Ok x) f w can = w ∙ ap (λ r. length r == 0) (none_refused f can.lines)
all_kept from old new text kept refused (Err e) f w can = tt

-- A later version has no difference.
pub not_grown : (old new : Shape) (place : ℕ) (reason : Reason) → growth.Grows old new → growth_of (differences_of old new 0) ≡ Differs place reason → ⊥
not_grown old new place reason g is =
    let e : Grows ≡ Differs place reason = sym (ap growth_of (grown-none 0 g)) ∙ is in cc e

-- The difference that is stated is the first one.
pub first_difference : {T : Type 0} (old new : Shape) (fault : FilterFault) (place : ℕ) (reason : Reason) → fault ≡ NotGrown place reason → StatesDifference {T = T} old new (Err fault) → growth_of (differences_of old new 0) ≡ Differs place reason
first_difference old new fault place reason is stated = (stated place reason).0 (ap Err is)
