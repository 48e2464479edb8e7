-- Multisets of elements that are equal exactly where their values are have one value.
use Rattle.std.proofs.Common.{◌≡◌, ◌↔◌, refl, sym, ap, ◌∙◌, ℕ, ◌+◌, ◌≤◌, Bool, true, false, cond, if◌then◌else◌, List, [], ◌∷◌, map, arith}
use Rattle.std.specs.Cmp.{IsEquivalence}
use Rattle.asn_multisets.specs.Multisets.{IsSameMultiset, multiplicity}
use Rattle.asn_model.specs.Sorting.{insert_in_order, sort}
use Rattle.asn_model.specs.Value.{Value, bag_of, elements, value_cmp, values}
use Rattle.asn_model.proofs.Sorting.{insert-insert}
use Rattle.asn_model.proofs.ValueOrder.{value_cmp_total, value_cmp-IsAntisymmetric}

module _ {D : Type 0} (eq : D → D → Bool) (laws : IsEquivalence eq) (value : D → Value) (same : (a b : D) → (eq a b ≡ true) ↔ (value a ≡ value b)) where
  -- The list without the first element that is equal to x.
  abbrev without : D → List D → List D
  without x [] = []
  without x (y ∷ ys) = if eq x y then ys else y ∷ without x ys

  abbrev sorted : List D → List Value
  sorted ds = sort value_cmp (map value ds)

  itself : (x : D) (xs : List D) → multiplicity eq x (x ∷ xs) ≡ 1 + multiplicity eq x xs
  itself x xs = ap (λ b. cond b 1 0 + multiplicity eq x xs) (laws.refl x)

  multiplicity-without : (x z : D) (ys : List D) → 1 ≤ multiplicity eq x ys → multiplicity eq z ys ≡ cond (eq z x) 1 0 + multiplicity eq z (without x ys)
  multiplicity-without x z [] there = absurd (omega (arith, there))
  multiplicity-without x z (y ∷ ys) there = by (eq x y) refl (multiplicity-without x z ys)
    where
      by : (b : Bool) → eq x y ≡ b → (1 ≤ multiplicity eq x ys → multiplicity eq z ys ≡ cond (eq z x) 1 0 + multiplicity eq z (without x ys))
          → cond (eq z y) 1 0 + multiplicity eq z ys ≡ cond (eq z x) 1 0 + multiplicity eq z (if b then ys else y ∷ without x ys)
      by true e rest = ap (λ c. cond c 1 0 + multiplicity eq z ys) (laws.symm z y ∙ sym (laws.congr x y z e) ∙ laws.symm x z)
      by false e rest =
          let no : cond {A = ℕ} (eq x y) 1 0 ≡ 0 = ap (λ b. cond b 1 0) e in
          let h = rest (omega (arith, there, no)) in
          omega (arith, h)

  sorted-without : (x : D) (ys : List D) → 1 ≤ multiplicity eq x ys → sorted ys ≡ insert_in_order value_cmp (value x) (sorted (without x ys))
  sorted-without x [] there = absurd (omega (arith, there))
  sorted-without x (y ∷ ys) there = by (eq x y) refl (sorted-without x ys)
    where
      by : (b : Bool) → eq x y ≡ b → (1 ≤ multiplicity eq x ys → sorted ys ≡ insert_in_order value_cmp (value x) (sorted (without x ys)))
          → insert_in_order value_cmp (value y) (sorted ys) ≡ insert_in_order value_cmp (value x) (sorted (if b then ys else y ∷ without x ys))
      by true e rest = ap (λ v. insert_in_order value_cmp v (sorted ys)) (sym ((same x y).0 e))
      by false e rest =
          let no : cond {A = ℕ} (eq x y) 1 0 ≡ 0 = ap (λ b. cond b 1 0) e in
          ap (insert_in_order value_cmp (value y)) (rest (omega (arith, there, no)))
          ∙ insert-insert value_cmp value_cmp_total value_cmp-IsAntisymmetric (value y) (value x) (sorted (without x ys))

  none-in : (ys : List D) → ((z : D) → 0 ≡ multiplicity eq z ys) → [] ≡ ys
  none-in [] none = refl
  none-in (y ∷ ys) none = let one = itself y ys in let no = none y in absurd (omega (arith, one, no))

  one_order : (xs ys : List D) → IsSameMultiset eq xs ys → sorted xs ≡ sorted ys
  one_order [] ys s = ap sorted (none-in ys s.each)
  one_order (x ∷ xs) ys s =
      let one = itself x xs in
      let all = s.each x in
      let there : 1 ≤ multiplicity eq x ys = omega (arith, one, all) in
      let rest : IsSameMultiset eq xs (without x ys) = record { each = λ z. let a = s.each z in let b = multiplicity-without x z ys there in omega (arith, a, b) } in
      ap (insert_in_order value_cmp (value x)) (one_order xs (without x ys) rest) ∙ sym (sorted-without x ys there)

  elements-of : (ds : List D) → elements (values value ds) ≡ map value ds
  elements-of [] = refl
  elements-of (d ∷ ds) = ap (λ l. value d ∷ l) (elements-of ds)

  pub bag-same : (xs ys : List D) → IsSameMultiset eq xs ys → bag_of (values value xs) ≡ bag_of (values value ys)
  bag-same xs ys s =
      ap (λ l. Value.bag (values (λ v. v) (sort value_cmp l))) (elements-of xs)
      ∙ ap (λ l. Value.bag (values (λ v. v) l)) (one_order xs ys s)
      ∙ ap (λ l. Value.bag (values (λ v. v) (sort value_cmp l))) (sym (elements-of ys))
