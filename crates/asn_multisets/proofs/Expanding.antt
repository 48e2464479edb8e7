-- Entries with counts, expanded to the list of their elements.
use Rattle.std.proofs.Common.{◌≡◌, ℕ, zero, suc, ◌+◌, ◌≤◌, Bool, true, false, cond, List, [], ◌∷◌, ◌++◌, length, length-append, append-nil, Option, None, Some, is_some, ◌↔◌, refl, sym, ap, subst, ◌∙◌, true≢false, arith}
use Rattle.std.specs.Prelude.{replicate, slice_get}
use Rattle.std.proofs.Math.Seq.{take-suc}
use Rattle.std.proofs.Common.{take, get_or}
use Rattle.std.proofs.lemmas.Option.{get_or_from_slice_get, slice_get_within}
use Rattle.std.specs.Cmp.{IsEquivalence}
use Rattle.std.proofs.lemmas.Grind.{flat_map-append}
use Rattle.std.proofs.lemmas.List.{length-replicate}
use Rattle.std.specs.List.{IsDistinct, AllByRecursion}
use Rattle.std.specs.Option.{unwrap_or}
use Rattle.std.specs.Map.{keys_of, lookup}
use Rattle.asn_multisets.specs.Multisets.{multiplicity, IsSameMultiset}
use Rattle.asn_multisets.specs.Multiplicities.{multiplicity-append}
use Rattle.asn_multisets.specs.Entries.{expanded, AllPositive, Agree, with_count}

-- An entry adds its count to the length.
pub length-expanded : {X : Type 0} (entry : X × ℕ) (entries : List (X × ℕ)) → length (expanded (entry ∷ entries)) ≡ entry.1 + length (expanded entries)
length-expanded entry entries =
    let a = length-append (replicate entry.1 entry.0) (expanded entries) in
    let b = length-replicate entry.1 entry.0 in
    omega arith

-- An entry at the end adds its copies at the end.
pub expanded-push : {X : Type 0} (entries : List (X × ℕ)) (x : X) (n : ℕ) → expanded (entries ++ (x, n) ∷ []) ≡ expanded entries ++ replicate n x
expanded-push {X} entries x n =
    flat_map-append (λ (e : X × ℕ). replicate e.1 e.0) entries ((x, n) ∷ []) ∙ ap (λ l. expanded entries ++ l) (append-nil (replicate n x))

-- One more entry adds its copies.
pub expanded-step : {X : Type 0} (entries : List (X × ℕ)) (i : ℕ) (x : X) (n : ℕ) → slice_get entries i ≡ Some (x, n)
    → expanded (take (i + 1) entries) ≡ expanded (take i entries) ++ replicate n x
expanded-step {X} entries i x n e =
    let more = take-suc entries i (x, n) (slice_get_within entries i (x, n) e) in
    let found : get_or entries i (x, n) ≡ (x, n) = get_or_from_slice_get entries i (x, n) (x, n) e in
    let same : i + 1 ≡ suc i = omega arith in
    ap (λ k. expanded (take k entries)) same ∙ ap expanded more ∙ ap (λ y. expanded (take i entries ++ y ∷ [])) found ∙ expanded-push (take i entries) x n

module _ {X : Type 0} (eq : X → X → Bool) where
  pub multiplicity-replicate : (x y : X) (n : ℕ) → multiplicity eq x (replicate n y) ≡ cond (eq x y) n 0
  multiplicity-replicate x y n = by (eq x y) refl n
    where
      by : (b : Bool) → eq x y ≡ b → (n : ℕ) → multiplicity eq x (replicate n y) ≡ cond b n 0
      by true e zero = refl
      by true e (suc n) = let ih = by true e n in let a : cond {A = ℕ} (eq x y) 1 0 ≡ 1 = ap (λ b. cond b 1 0) e in omega arith
      by false e zero = refl
      by false e (suc n) = let ih = by false e n in let a : cond {A = ℕ} (eq x y) 1 0 ≡ 0 = ap (λ b. cond b 1 0) e in omega arith

  -- An entry adds its count to the multiplicity of an equal element.
  pub multiplicity-expanded : (x : X) (entry : X × ℕ) (entries : List (X × ℕ)) → multiplicity eq x (expanded (entry ∷ entries)) ≡ cond (eq x entry.0) entry.1 0 + multiplicity eq x (expanded entries)
  multiplicity-expanded x entry entries =
      multiplicity-append eq x (replicate entry.1 entry.0) (expanded entries) ∙ ap (λ n. n + multiplicity eq x (expanded entries)) (multiplicity-replicate x entry.0 entry.1)

  -- A stored count is at most the length.
  pub lookup-le : (x : X) (entries : List (X × ℕ)) → unwrap_or (lookup (eq x) entries) 0 ≤ length (expanded entries)
  lookup-le x [] = omega arith
  lookup-le x (e ∷ es) =
      let a = length-expanded e es in
      let ih = lookup-le x es in
      elim (eq x e.0) as (λ b. unwrap_or (cond b (Some e.1) (lookup (eq x) es)) 0 ≤ length (expanded (e ∷ es))) [ true ↦ omega arith | false ↦ omega arith ]

  -- The count of one more element k.
  module _ (k : X) where
    pub length-expanded-insert : (entries : List (X × ℕ)) (count : ℕ) → count ≡ unwrap_or (lookup (eq k) entries) 0 → length (expanded (with_count eq entries k (count + 1))) ≡ length (expanded entries) + 1
    length-expanded-insert [] c e = let a = length-expanded (k, c + 1) [] in omega arith
    length-expanded-insert (f ∷ es) c e =
        elim (eq k f.0) as (λ b. c ≡ unwrap_or (cond b (Some f.1) (lookup (eq k) es)) 0 → length (expanded (cond b ((f.0, c + 1) ∷ es) (f ∷ with_count eq es k (c + 1)))) ≡ length (expanded (f ∷ es)) + 1) [
          | true ↦ λ h. let a = length-expanded (f.0, c + 1) es in let b = length-expanded f es in omega arith
          | false ↦ λ h. let a = length-expanded f (with_count eq es k (c + 1)) in let b = length-expanded f es in let ih = length-expanded-insert es c h in omega arith
        ] e

    pub AllPositive-insert : (entries : List (X × ℕ)) (count : ℕ) → AllPositive entries → AllPositive (with_count eq entries k (count + 1))
    AllPositive-insert [] c p = (omega arith, tt)
    AllPositive-insert (f ∷ es) c p =
        elim (eq k f.0) as (λ b. AllPositive (cond b ((f.0, c + 1) ∷ es) (f ∷ with_count eq es k (c + 1)))) [
          | true ↦ (omega arith, p.1)
          | false ↦ (p.0, AllPositive-insert es c p.1)
        ]

    pub multiplicity-expanded-insert : IsEquivalence eq → (x : X) (entries : List (X × ℕ)) (count : ℕ) → count ≡ unwrap_or (lookup (eq k) entries) 0
        → multiplicity eq x (expanded (with_count eq entries k (count + 1))) ≡ cond (eq x k) 1 0 + multiplicity eq x (expanded entries)
    multiplicity-expanded-insert laws x [] c e = let a = multiplicity-expanded x (k, c + 1) [] in let z : c ≡ 0 = e in ap (λ n. multiplicity eq x (expanded ((k, n + 1) ∷ []))) z
    multiplicity-expanded-insert laws x (f ∷ es) c e =
        elim (eq k f.0) as (λ b. eq k f.0 ≡ b → c ≡ unwrap_or (cond b (Some f.1) (lookup (eq k) es)) 0 → multiplicity eq x (expanded (cond b ((f.0, c + 1) ∷ es) (f ∷ with_count eq es k (c + 1)))) ≡ cond (eq x k) 1 0 + multiplicity eq x (expanded (f ∷ es))) [
          | true ↦ λ t h.
              let a = multiplicity-expanded x (f.0, c + 1) es in
              let b = multiplicity-expanded x f es in
              let same : eq x k ≡ eq x f.0 = laws.symm x k ∙ laws.congr k f.0 x t ∙ laws.symm f.0 x in
              counted (eq x f.0) (eq x k) same f.1 c h _ _ _ a b
          | false ↦ λ t h.
              let a = multiplicity-expanded x f (with_count eq es k (c + 1)) in
              let b = multiplicity-expanded x f es in
              let ih = multiplicity-expanded-insert laws x es c h in
              omega arith
        ] refl e
      where
        counted : (b d : Bool) → d ≡ b → (n c : ℕ) → c ≡ n → (r s t : ℕ) → s ≡ cond b (c + 1) 0 + r → t ≡ cond b n 0 + r → s ≡ cond d 1 0 + t
        counted true true e n c h r s t a b = omega arith
        counted false false e n c h r s t a b = omega arith
        counted true false e n c h r s t a b = absurd (true≢false (sym e))
        counted false true e n c h r s t a b = absurd (true≢false e)

-- No entries are the empty multiset.
pub none_held : {X : Type 0} (eq : X → X → Bool) (entries : List (X × ℕ)) → entries ≡ [] → (0 ≡ length (expanded entries)) × IsDistinct eq (keys_of entries) × AllPositive entries
unfolding IsDistinct
none_held eq entries is = subst (λ es. (0 ≡ length (expanded es)) × IsDistinct eq (keys_of es) × AllPositive es) (sym is) (refl, tt, tt)

-- The entries after one more k.
module _ {X : Type 0} (eq : X → X → Bool) (laws : IsEquivalence eq) (k : X) (entries new : List (X × ℕ)) (count : ℕ) (found : count ≡ unwrap_or (lookup (eq k) entries) 0) (is : new ≡ with_count eq entries k (count + 1)) where
  pub inserted-length : length (expanded new) ≡ length (expanded entries) + 1
  inserted-length = ap (λ es. length (expanded es)) is ∙ length-expanded-insert eq k entries count found

  pub inserted-positive : AllPositive entries → AllPositive new
  inserted-positive p = subst AllPositive (sym is) (AllPositive-insert eq k entries count p)

  pub inserted-same : (xs : List X) → expanded entries ≡ xs → IsSameMultiset eq (k ∷ xs) (expanded new)
  inserted-same xs seen = record {
    each = λ x.
        ap (λ l. multiplicity eq x (k ∷ l)) (sym seen) ∙ sym (multiplicity-expanded-insert eq k laws x entries count found) ∙ ap (λ es. multiplicity eq x (expanded es)) (sym is);
  }

module _ {X : Type 0} (eq : X → X → Bool) (laws : IsEquivalence eq) where
  -- An element that is apart from every key isn't there.
  multiplicity-apart : (x e : X) → eq x e ≡ true → (entries : List (X × ℕ)) → AllByRecursion (λ y. eq e y ≡ false) (keys_of entries) → multiplicity eq x (expanded entries) ≡ 0
  multiplicity-apart x e t [] h = refl
  multiplicity-apart x e t (f ∷ es) h =
      let no : eq x f.0 ≡ false = laws.congr x e f.0 t ∙ h.0 in
      let a = multiplicity-expanded eq x f es in
      let b : cond {A = ℕ} (eq x f.0) f.1 0 ≡ 0 = ap (λ v. cond v f.1 0) no in
      let ih = multiplicity-apart x e t es h.1 in
      omega arith

  -- In distinct entries, the multiplicity is the stored count.
  pub multiplicity-lookup : (x : X) (entries : List (X × ℕ)) → IsDistinct eq (keys_of entries) → multiplicity eq x (expanded entries) ≡ unwrap_or (lookup (eq x) entries) 0
  unfolding IsDistinct
  multiplicity-lookup x [] d = refl
  multiplicity-lookup x (e ∷ es) d =
      elim (eq x e.0) as (λ b. eq x e.0 ≡ b → multiplicity eq x (expanded (e ∷ es)) ≡ unwrap_or (cond b (Some e.1) (lookup (eq x) es)) 0) [
        | true ↦ λ t. let a = multiplicity-expanded eq x e es in let b : cond {A = ℕ} (eq x e.0) e.1 0 ≡ e.1 = ap (λ v. cond v e.1 0) t in let z = multiplicity-apart x e.0 t es d.0 in omega arith
        | false ↦ λ t. let a = multiplicity-expanded eq x e es in let b : cond {A = ℕ} (eq x e.0) e.1 0 ≡ 0 = ap (λ v. cond v e.1 0) t in let ih = multiplicity-lookup x es d.1 in omega arith
      ] refl

pub same_along : {X : Type 0} (eq : X → X → Bool) (ws xs ys zs : List X) → ws ≡ xs → ys ≡ zs → IsSameMultiset eq ws ys → IsSameMultiset eq xs zs
same_along eq ws xs ys zs p q s = subst (λ l. IsSameMultiset eq l zs) p (subst (λ l. IsSameMultiset eq ws l) q s)

-- No count that is found is zero.
found_positive : {X : Type 0} (eq : X → X → Bool) (x : X) (entries : List (X × ℕ)) → AllPositive entries → lookup (eq x) entries ≡ Some 0 → ⊥
found_positive eq x [] p e = true≢false (ap is_some (sym e))
found_positive eq x (f ∷ es) p e =
    elim (eq x f.0) as (λ b. cond b (Some f.1) (lookup (eq x) es) ≡ Some 0 → ⊥) [
      | true ↦ λ h. let z : f.1 ≡ 0 = ap (λ o. unwrap_or o 0) h in let q = p.0 in omega arith
      | false ↦ λ h. found_positive eq x es p.1 h
    ] e

same_option : (p q : Option ℕ) → (p ≡ Some 0 → ⊥) → (q ≡ Some 0 → ⊥) → unwrap_or p 0 ≡ unwrap_or q 0 → p ≡ q
same_option None None a b e = refl
same_option None (Some n) a b e = absurd (b (ap (λ k. Some k) (sym e)))
same_option (Some m) None a b e = absurd (a (ap (λ k. Some k) e))
same_option (Some m) (Some n) a b e = ap (λ k. Some k) e

-- Distinct entries with positive counts agree exactly where their multisets are the same.
module _ {X : Type 0} (eq : X → X → Bool) (laws : IsEquivalence eq) where
  agree-same : (ms ns : List (X × ℕ)) → IsDistinct eq (keys_of ms) → IsDistinct eq (keys_of ns) → AllPositive ms → AllPositive ns
      → Agree eq ms ns ↔ IsSameMultiset eq (expanded ms) (expanded ns)
  agree-same ms ns dm dn pm pn = (
    (λ a. record { each = λ x. multiplicity-lookup eq laws x ms dm ∙ ap (λ o. unwrap_or o 0) (a x) ∙ sym (multiplicity-lookup eq laws x ns dn) }),
    (λ s x. same_option _ _ (found_positive eq x ms pm) (found_positive eq x ns pn) (sym (multiplicity-lookup eq laws x ms dm) ∙ s.each x ∙ multiplicity-lookup eq laws x ns dn)),
  )

  -- The same of the lists that contracts see.
  pub agree-views : (ms ns : List (X × ℕ)) (xs ys : List X) → expanded ms ≡ xs → expanded ns ≡ ys → IsDistinct eq (keys_of ms) → IsDistinct eq (keys_of ns) → AllPositive ms → AllPositive ns
      → {R : Type 0} → R ↔ Agree eq ms ns → R ↔ IsSameMultiset eq xs ys
  agree-views ms ns xs ys p q dm dn pm pn r =
      let d = agree-same ms ns dm dn pm pn in
      (λ t. same_along eq _ _ _ _ p q (d.0 (r.0 t)), λ s. r.1 (d.1 (same_along eq _ _ _ _ (sym p) (sym q) s)))
