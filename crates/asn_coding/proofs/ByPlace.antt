-- A CHOICE by the place of its alternative.
use Rattle.std.proofs.Common.{◌≡◌, refl, ap, sym, ◌∙◌, subst, arith, ℕ, zero, suc, ◌<◌, List, [], ◌∷◌, Option, Some, None, Result, Ok, Err, Bool, true, false, if◌then◌else◌, length, unwrap_or}
use Rattle.std.specs.List.{slice_get}
use Rattle.asn_core.specs.declared.tag.Tag.{Tag}
use Rattle.asn_fault.specs.declared.decode.DecodeError.{DecodeError}
use Rattle.asn_fault.specs.declared.encode.EncodeError.{EncodeError}
use Rattle.asn_model.specs.Notation.{Notation}
use Rattle.asn_model.specs.Shape.{Shape, Alternatives, AlternativeAdditions, all_alternatives, alternative_at, alternative_tagged, identifiers, place_named, tag_eq}
use Rattle.asn_model.specs.Tree.{Slot, same_identifier}
use Rattle.asn_model.specs.Value.{Value, Fits, FitsAlternative}
use Rattle.asn_coding.specs.Answer.{Answer}
use Rattle.asn_coding.specs.Opening.{IsChoice, Chosen, OpensChoice}
use Rattle.asn_coding.specs.Scopes.{AlternativeAnswer, PlaceAnswer, TagAnswer}
use Rattle.asn_coding.specs.Tables.{place_tagged, root_tags}
use Rattle.asn_coding.specs.Writing.{FailsToEncode, Frame, Maps, Written, as_choice, close}
use Rattle.asn_coding.proofs.Choices.{choice_answer, found, lost}

-- The slot that was put is that of the alternative at the place.
chosen_at : {n : Notation} {names : List (List ℕ)} {slot put : Slot} {k : ℕ} (alts : Alternatives) → names ≡ identifiers alts → IsChoice n names slot (Some k) put → Chosen n alts slot put (alternative_at alts k)
chosen_at {n} alts e (IsChoice.is_choice names t u name k is at) =
    let f = found alts name k (subst (λ l. place_named same_identifier l name ≡ Some k) e at) in
    subst (Chosen n alts (Some t) (Some u)) (sym f.by_place) (Chosen.is_chosen t u name f.a is f.by_name)
chosen_at alts e (IsChoice.choice_free names slot place put is) = Chosen.is_free slot put _ is

-- Where no place is named, there is no alternative.
chosen_none : {n : Notation} {names : List (List ℕ)} {slot put : Slot} (alts : Alternatives) → names ≡ identifiers alts → IsChoice n names slot None put → Chosen n alts slot put None
chosen_none alts e (IsChoice.is_unnamed names t u name is at) = Chosen.is_unknown t u name is (lost alts name (subst (λ l. place_named same_identifier l name ≡ None) e at))
chosen_none alts e (IsChoice.is_empty names t is) = Chosen.is_bare t is
chosen_none alts e (IsChoice.choice_free names slot place put is) = Chosen.is_free slot put _ is

none_past : (alts : Alternatives) → alternative_at alts (length (identifiers alts)) ≡ None
none_past Alternatives.no_alternatives = refl
none_past (Alternatives.alternative i t s alts) = none_past alts

-- What is answered of the alternative at the place that was found, or past the last where none was, is what the choice answers.
pub choice_by_place : {A : Type 0} (n : Notation) (alts : Alternatives) (added : AlternativeAdditions) (value : A → Value) (before mid after : List Slot) (names : List (List ℕ)) (place : Option ℕ) (past : ℕ) (r : Result A DecodeError)
    → names ≡ identifiers (all_alternatives alts added) → past ≡ length (identifiers (all_alternatives alts added)) → OpensChoice n names before (Ok place) mid → PlaceAnswer n (all_alternatives alts added) value (unwrap_or place past) mid r after
    → Answer n (Shape.choice alts added) value before r after
choice_by_place n alts added value before mid after names (Some k) past r e count (slot, put, rest, was, at, fewer, is) h =
    choice_answer n alts added value before mid rest after (chosen_at (all_alternatives alts added) e is) was at r h
choice_by_place n alts added value before mid after names None past r e count (slot, put, rest, was, at, fewer, is) h =
    let all = all_alternatives alts added in
    choice_answer n alts added value before mid rest after (chosen_none all e is) was at r (subst (λ o. AlternativeAnswer n o value mid r after) (ap (alternative_at all) count ∙ none_past all) h)

tagged_step : (b : Bool) (i : List ℕ) (t : Tag) (s : Shape) (alts : Alternatives) (k : ℕ) (o : Option (List ℕ × Shape)) → alternative_at alts k ≡ o
    → alternative_at (Alternatives.alternative i t s alts) (if b then 0 else suc k) ≡ (if b then Some (i, s) else o)
tagged_step true i t s alts k o e = refl
tagged_step false i t s alts k o e = e

-- The alternative of a tag stands at the tag's place.
pub tagged_place : (alts : Alternatives) (tag : Tag) → alternative_at alts (place_tagged (root_tags alts) tag) ≡ alternative_tagged alts tag
tagged_place Alternatives.no_alternatives tag = refl
tagged_place (Alternatives.alternative i t s alts) tag = tagged_step (tag_eq tag t) i t s alts _ _ (tagged_place alts tag)

-- What is answered at the place of a tag is what is answered of the tag.
pub answer_by_tag : {A : Type 0} (n : Notation) (alts : Alternatives) (value : A → Value) (before after : List Slot) (tag : Tag) (ts : List (Option Tag)) (place : ℕ) (r : Result A DecodeError)
    → place ≡ place_tagged ts tag → ts ≡ root_tags alts → PlaceAnswer n alts value place before r after → TagAnswer n alts value tag before r after
answer_by_tag n alts value before after tag ts place r is e h =
    let at : alternative_at alts place ≡ alternative_tagged alts tag = ap (alternative_at alts) (is ∙ ap (λ l. place_tagged l tag) e) ∙ tagged_place alts tag in
    subst (λ o. AlternativeAnswer n o value before r after) at h

-- The identifier at the place is the alternative's.
pub named_at : (alts : Alternatives) (k : ℕ) (a : List ℕ × Shape) → alternative_at alts k ≡ Some a → slice_get (identifiers alts) k ≡ Some a.0
named_at Alternatives.no_alternatives k a e = let d : ◌≡◌ {A = Option (List ℕ × Shape)} None (Some a) = e in cc d
named_at (Alternatives.alternative i t s alts) zero a e =
    let d : ◌≡◌ {A = Option (List ℕ × Shape)} (Some (i, s)) (Some a) = e in
    let p : ◌≡◌ {A = List ℕ × Shape} (i, s) a = cc d in
    ap (λ (r : List ℕ × Shape). Some r.0) p
named_at (Alternatives.alternative i t s alts) (suc k) a e = named_at alts k a e

-- The place of an alternative is one of the identifiers'.
pub place_listed : (alts : Alternatives) (k : ℕ) (a : List ℕ × Shape) → alternative_at alts k ≡ Some a → k < length (identifiers alts)
place_listed Alternatives.no_alternatives k a e = let d : ◌≡◌ {A = Option (List ℕ × Shape)} None (Some a) = e in cc d
place_listed (Alternatives.alternative i t s alts) zero a e = omega arith
place_listed (Alternatives.alternative i t s alts) (suc k) a e = omega (arith, place_listed alts k a e)

-- The identifier that stands at an alternative's place is the alternative's.
pub name_there : (alts : Alternatives) (k : ℕ) (a : List ℕ × Shape) (names : List (List ℕ)) (name : List ℕ) → names ≡ identifiers alts → alternative_at alts k ≡ Some a → slice_get names k ≡ Some name → name ≡ a.0
name_there alts k a names name e at is =
    let d : ◌≡◌ {A = Option (List ℕ)} (Some name) (Some a.0) = sym is ∙ ap (λ l. slice_get l k) e ∙ named_at alts k a at in cc d

-- A value of the shape of the alternative at a place fits.
fits_at : (alts : Alternatives) (k : ℕ) (name : List ℕ) (shape : Shape) (v : Value) → alternative_at alts k ≡ Some (name, shape) → Fits shape v → FitsAlternative alts name v
fits_at Alternatives.no_alternatives k name shape v e fit = let d : ◌≡◌ {A = Option (List ℕ × Shape)} None (Some (name, shape)) = e in cc d
fits_at (Alternatives.alternative i t s alts) zero name shape v e fit =
    let d : ◌≡◌ {A = Option (List ℕ × Shape)} (Some (i, s)) (Some (name, shape)) = e in
    let p : ◌≡◌ {A = List ℕ × Shape} (i, s) (name, shape) = cc d in
    subst (λ m. FitsAlternative (Alternatives.alternative i t s alts) m v) (ap (λ (r : List ℕ × Shape). r.0) p)
    (FitsAlternative.fits_here (subst (λ r. Fits r v) (sym (ap (λ (r : List ℕ × Shape). r.1) p)) fit))
fits_at (Alternatives.alternative i t s alts) (suc k) name shape v e fit = FitsAlternative.fits_later (fits_at alts k name shape v e fit)

-- A payload in a frame of its own, which is closed by its identifier, is the choice.
pub choice_written : {S : Type 0} {holds : S → List Frame → Type 0} {n : Notation} {name : List ℕ} {s : Shape} {v : Value} {old start mid new : S} (alts : Alternatives) (added : AlternativeAdditions) (k : ℕ)
    → alternative_at (all_alternatives alts added) k ≡ Some (name, s) → Maps holds (λ fs. [] ∷ fs) old start → Written holds n s v start mid → Maps holds (close (as_choice name)) mid new
    → Written holds n (Shape.choice alts added) (Value.choice name v) old new
choice_written {name = name} {s = s} {v = v} alts added k at opened w closed = record {
  added = λ fs h. closed ((Some v ∷ []) ∷ fs) (w.added ([] ∷ fs) (opened fs h));
  fit = Fits.fits_choice (fits_at (all_alternatives alts added) k name s v at w.fit);
  writable = w.writable;
}

-- The refusal of the payload is that of the choice.
pub fails_choice : {n : Notation} {i : List ℕ} {v : Value} {e : EncodeError} → FailsToEncode n v e → FailsToEncode n (Value.choice i v) e
fails_choice (FailsToEncode.no_memory o) = FailsToEncode.no_memory o
fails_choice (FailsToEncode.blocked b c) = FailsToEncode.blocked b c
fails_choice (FailsToEncode.write_free o) = FailsToEncode.write_free o
