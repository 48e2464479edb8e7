-- Alternatives of an identifier that have the payload.
use Rattle.std.proofs.Common.{◌≡◌, refl, sym, ap, ◌∙◌, subst, arith, ℕ, zero, suc, ◌+◌, ◌≤◌, List, length, Option, Some, None}
use Rattle.asn_core.specs.declared.tag.Tag.{Tag}
use Rattle.asn_dynamic_fits.proofs.Having.{alternative-back}
use Rattle.asn_model.specs.Shape.{AlternativeAdditions, Alternatives, Shape, all_alternatives, alternative_at, identifiers}
use Rattle.asn_model.specs.Value.{Fits, FitsAlternative, Value}

-- The alternatives from a place on.
abbrev pub from_place : ℕ → Alternatives → Alternatives
from_place zero alts = alts
from_place (suc k) Alternatives.no_alternatives = Alternatives.no_alternatives
from_place (suc k) (Alternatives.alternative i t s alts) = from_place k alts

same-some : {A : Type 0} {x y : A} → ◌≡◌ {A = Option A} (Some x) (Some y) → x ≡ y
same-some e = cc e

-- The alternative at a place has the payload.
pub chosen-fits : (alts : Alternatives) (k : ℕ) (i : List ℕ) (s : Shape) (v : Value) → alternative_at alts k ≡ Some (i, s) → Fits s v → FitsAlternative alts i v
chosen-fits Alternatives.no_alternatives k i s v e f = let d : ◌≡◌ {A = Option (List ℕ × Shape)} None (Some (i, s)) = e in cc d
chosen-fits (Alternatives.alternative j t r alts) zero i s v e f =
    let same : (j, r) ≡ (i, s) = same-some e in
    subst (λ n. FitsAlternative (Alternatives.alternative j t r alts) n v) (ap (λ (p : List ℕ × Shape). p.0) same)
    (FitsAlternative.fits_here (subst (λ x. Fits x v) (sym (ap (λ (p : List ℕ × Shape). p.1) same)) f))
chosen-fits (Alternatives.alternative j t r alts) (suc k) i s v e f = FitsAlternative.fits_later (chosen-fits alts k i s v e f)

passed : {i j : List ℕ} {t : Tag} {s : Shape} {alts : Alternatives} {v : Value} → FitsAlternative (Alternatives.alternative j t s alts) i v → ((j ≡ i) × Fits s v → ⊥) → FitsAlternative alts i v
passed (FitsAlternative.fits_here f) none = absurd (none (refl, f))
passed (FitsAlternative.fits_later f) none = f

later : (alts : Alternatives) (k : ℕ) (i j : List ℕ) (s : Shape) (v : Value) → alternative_at alts k ≡ Some (j, s) → ((j ≡ i) × Fits s v → ⊥) → FitsAlternative (from_place k alts) i v → FitsAlternative (from_place (suc k) alts) i v
later Alternatives.no_alternatives k i j s v e none f = let d : ◌≡◌ {A = Option (List ℕ × Shape)} None (Some (j, s)) = e in cc d
later (Alternatives.alternative n t r alts) zero i j s v e none f =
    let same : (n, r) ≡ (j, s) = same-some e in
    passed f (λ p. none (sym (ap (λ (q : List ℕ × Shape). q.0) same) ∙ p.0, subst (λ x. Fits x v) (ap (λ (q : List ℕ × Shape). q.1) same) p.1))
later (Alternatives.alternative n t r alts) (suc k) i j s v e none f = later alts k i j s v e none f

-- An alternative at a place that hasn't the payload is passed.
pub chosen-later : (alts : Alternatives) (k : ℕ) (i j : List ℕ) (s : Shape) (v : Value) → alternative_at alts k ≡ Some (j, s) → ((j ≡ i) × Fits s v → ⊥) → FitsAlternative (from_place k alts) i v → FitsAlternative (from_place (k + 1) alts) i v
chosen-later alts k i j s v e none f = let next : suc k ≡ k + 1 = omega arith in subst (λ m. FitsAlternative (from_place m alts) i v) next (later alts k i j s v e none f)

empty : {i : List ℕ} {v : Value} → FitsAlternative Alternatives.no_alternatives i v → ⊥
empty f = elim f [ ]

-- No alternative is left past all.
pub chosen-none : (alts : Alternatives) (k : ℕ) (i : List ℕ) (v : Value) → length (identifiers alts) ≤ k → FitsAlternative (from_place k alts) i v → ⊥
chosen-none Alternatives.no_alternatives zero i v h f = empty f
chosen-none Alternatives.no_alternatives (suc k) i v h f = empty f
chosen-none (Alternatives.alternative n t s alts) zero i v h f = absurd (omega (arith, h))
chosen-none (Alternatives.alternative n t s alts) (suc k) i v h f = chosen-none alts k i v (omega (arith, h)) f

-- A place that has no alternative is past all.
pub past-all : (alts : Alternatives) (k : ℕ) → alternative_at alts k ≡ None → length (identifiers alts) ≤ k
past-all Alternatives.no_alternatives k e = omega arith
past-all (Alternatives.alternative n t s alts) zero e = let d : ◌≡◌ {A = Option (List ℕ × Shape)} (Some (n, s)) None = e in cc d
past-all (Alternatives.alternative n t s alts) (suc k) e = let q = past-all alts k e in omega (arith, q)

-- The choice has the payload.
pub choice-fits : (alts : Alternatives) (added : AlternativeAdditions) (k : ℕ) (i : List ℕ) (s : Shape) (v : Value) → alternative_at (all_alternatives alts added) k ≡ Some (i, s) → Fits s v → Fits (Shape.choice alts added) (Value.choice i v)
choice-fits alts added k i s v e f = Fits.fits_choice (chosen-fits (all_alternatives alts added) k i s v e f)

pub choice-first : (alts : Alternatives) (added : AlternativeAdditions) (i : List ℕ) (v : Value) → Fits (Shape.choice alts added) (Value.choice i v) → FitsAlternative (from_place 0 (all_alternatives alts added)) i v
choice-first alts added i v f = alternative-back alts added i v f
