-- The rows of names.
use Rattle.std.proofs.Common.{◌≡◌, ◌∙◌, refl, ap, arith, ℕ, zero, suc, ◌+◌, ◌<◌, List, [], ◌∷◌, length, map, get_or, Option, Some, None}
use Rattle.asn_coding.specs.SetFields.{component_at}
use Rattle.asn_model.specs.Components.{Component, component_names}
use Rattle.asn_model.specs.Shape.{Alternatives, Shape, alternative_at, identifiers}
use Rattle.asn_names.specs.Rows.{NameRow, index_at, name_at, row_names}
use Rattle.asn_parts.specs.Names.{rows_at}

pub at-index : (names : List (List ℕ)) (places : List ℕ) → map (λ (r : NameRow). r.index) (rows_at names places) ≡ places
at-index names [] = refl
at-index names (k ∷ ks) = ap (λ l. k ∷ l) (at-index names ks)

at-count : (names : List (List ℕ)) (places : List ℕ) → length (rows_at names places) ≡ length places
at-count names [] = refl
at-count names (k ∷ ks) = ap suc (at-count names ks)

with-default : (places : List ℕ) (i d : ℕ) → i < length places → get_or places i d ≡ get_or places i 0
with-default [] i d h = absurd (omega (arith, h))
with-default (k ∷ ks) zero d h = refl
with-default (k ∷ ks) (suc i) d h = with-default ks i d (omega (arith, h))

-- The place of an entry is what stands there.
pub place-at : (names : List (List ℕ)) (places : List ℕ) (i k : ℕ) → i < length (rows_at names places) → k ≡ get_or places i k → k ≡ get_or places i 0
place-at names places i k h e = let count = at-count names places in e ∙ with-default places i k (omega (arith, h, count))

pub at-name : (names : List (List ℕ)) (places : List ℕ) (i : ℕ) → i < length (rows_at names places) → name_at (rows_at names places) i ≡ get_or names (get_or places i 0) []
at-name names [] i h = absurd (omega (arith, h))
at-name names (k ∷ ks) zero h = refl
at-name names (k ∷ ks) (suc i) h = at-name names ks i (omega (arith, h))

-- The name of a component at a place.
pub component-name : (cs : List Component) (k : ℕ) (c : Component) → component_at cs k ≡ Some c → get_or (component_names cs) k [] ≡ c.name
component-name [] k c e = let d : ◌≡◌ {A = Option Component} None (Some c) = e in cc d
component-name (d ∷ cs) zero c e = let s : ◌≡◌ {A = Option Component} (Some d) (Some c) = e in let is : d ≡ c = cc s in ap (λ (x : Component). x.name) is
component-name (d ∷ cs) (suc k) c e = component-name cs k c e

pub identifier-name : (alts : Alternatives) (k : ℕ) (a : List ℕ × Shape) → alternative_at alts k ≡ Some a → get_or (identifiers alts) k [] ≡ a.0
identifier-name Alternatives.no_alternatives k a e = let d : ◌≡◌ {A = Option (List ℕ × Shape)} None (Some a) = e in cc d
identifier-name (Alternatives.alternative i t s alts) zero a e = let d : ◌≡◌ {A = Option (List ℕ × Shape)} (Some (i, s)) (Some a) = e in let is : ◌≡◌ {A = List ℕ × Shape} (i, s) a = cc d in ap (λ (b : List ℕ × Shape). b.0) is
identifier-name (Alternatives.alternative i t s alts) (suc k) a e = identifier-name alts k a e

pub identifier-there : (alts : Alternatives) (k : ℕ) → k < length (identifiers alts) → alternative_at alts k ≡ None → ⊥
identifier-there Alternatives.no_alternatives k h e = omega (arith, h)
identifier-there (Alternatives.alternative i t s alts) zero h e = let d : ◌≡◌ {A = Option (List ℕ × Shape)} (Some (i, s)) None = e in cc d
identifier-there (Alternatives.alternative i t s alts) (suc k) h e = identifier-there alts k (omega (arith, h)) e
