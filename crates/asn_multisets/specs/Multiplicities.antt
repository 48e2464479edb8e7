-- How often an element is in a list, and lists that are the same multiset.
use Rattle.std.proofs.Common.{◌≡◌, ℕ, ◌+◌, ◌⊎◌, inl, inr, Bool, true, false, cond, ◌&&◌, ◌==◌, List, [], ◌∷◌, ◌++◌, refl, sym, ap, ◌∙◌, arith}
use Rattle.std.proofs.lemmas.Bool.Decides.{nat_tests}
use Rattle.std.specs.List.{list_all}
use Rattle.std.specs.Cmp.{IsEquivalence, both_ways, first_so, second_so}
use Rattle.asn_multisets.specs.Multisets.{multiplicity, IsSameMultiset, same_multiset}

module _ {X : Type 0} (eq : X → X → Bool) where
  pub multiplicity-append : (x : X) (xs ys : List X) → multiplicity eq x (xs ++ ys) ≡ multiplicity eq x xs + multiplicity eq x ys
  multiplicity-append x [] ys = omega arith
  multiplicity-append x (z ∷ zs) ys = let ih = multiplicity-append x zs ys in omega arith

  pub same_refl : (xs : List X) → IsSameMultiset eq xs xs
  same_refl xs = record { each = λ x. refl }

  pub same_sym : (xs ys : List X) → IsSameMultiset eq xs ys → IsSameMultiset eq ys xs
  same_sym xs ys s = record { each = λ x. sym (s.each x) }

  pub same_trans : (xs ys zs : List X) → IsSameMultiset eq xs ys → IsSameMultiset eq ys zs → IsSameMultiset eq xs zs
  same_trans xs ys zs s t = record { each = λ x. s.each x ∙ t.each x }

  pub same_cons : (y : X) (xs ys : List X) → IsSameMultiset eq xs ys → IsSameMultiset eq (y ∷ xs) (y ∷ ys)
  same_cons y xs ys s = record { each = λ x. ap (λ n. cond (eq x y) 1 0 + n) (s.each x) }

  -- An element put last is one put first.
  pub same_push : (y : X) (xs ys zs : List X) → IsSameMultiset eq xs ys → IsSameMultiset eq (y ∷ ys) zs → IsSameMultiset eq (xs ++ y ∷ []) zs
  same_push y xs ys zs s t = record {
    each = λ x. let a = multiplicity-append x xs (y ∷ []) in let b = s.each x in let c = t.each x in omega arith;
  }

  -- An equal element is there as often.
  pub multiplicity-congr : IsEquivalence eq → (x z : X) → eq x z ≡ true → (ys : List X) → multiplicity eq x ys ≡ multiplicity eq z ys
  multiplicity-congr laws x z e [] = refl
  multiplicity-congr laws x z e (y ∷ ys) = λ i. cond (laws.congr x z y e i) 1 0 + multiplicity-congr laws x z e ys i

all_pass : {X : Type 0} (t : X → Bool) → ((x : X) → t x ≡ true) → (xs : List X) → list_all t xs ≡ true
all_pass t f [] = refl
all_pass t f (x ∷ xs) = λ i. f x i && all_pass t f xs i

same_number : (m n : ℕ) → (m == n) ≡ true → m ≡ n
same_number m n e = grind (arith, nat_tests)

number_same : (m n : ℕ) → m ≡ n → (m == n) ≡ true
number_same m n e = grind (arith, nat_tests)

-- The test of the elements of both lists decides.
module _ {X : Type 0} (eq : X → X → Bool) (laws : IsEquivalence eq) where
  none_or_passing : (t : X → Bool) (x : X) (xs : List X) → list_all t xs ≡ true → (multiplicity eq x xs ≡ 0) ⊎ ((k : X) × (eq x k ≡ true) × (t k ≡ true))
  none_or_passing t x [] h = inl refl
  none_or_passing t x (y ∷ ys) h =
      elim (eq x y) as (λ b. eq x y ≡ b → (multiplicity eq x (y ∷ ys) ≡ 0) ⊎ ((k : X) × (eq x k ≡ true) × (t k ≡ true))) [
        | true ↦ λ e. inr (y, e, first_so (t y) _ h)
        | false ↦ λ e. elim (none_or_passing t x ys (second_so (t y) _ h)) [
          | inl n ↦ let no : cond {A = ℕ} (eq x y) 1 0 ≡ 0 = ap (λ b. cond b 1 0) e in inl (omega arith)
          | inr p ↦ inr p
        ]
      ] refl

  agreed : (xs ys : List X) (x k : X) → eq x k ≡ true → (multiplicity eq k xs == multiplicity eq k ys) ≡ true → multiplicity eq x xs ≡ multiplicity eq x ys
  agreed xs ys x k e t = multiplicity-congr eq laws x k e xs ∙ same_number _ _ t ∙ sym (multiplicity-congr eq laws x k e ys)

  pub same-from_test : (xs ys : List X) → same_multiset eq xs ys ≡ true → IsSameMultiset eq xs ys
  same-from_test xs ys h =
      let t : X → Bool = λ x. multiplicity eq x xs == multiplicity eq x ys in
      record {
        each = λ x. elim (none_or_passing t x xs (first_so _ _ h)) [
          | inr p ↦ agreed xs ys x p.0 p.1 p.2
          | inl n ↦ elim (none_or_passing t x ys (second_so _ _ h)) [ inr p ↦ agreed xs ys x p.0 p.1 p.2 | inl m ↦ n ∙ sym m ]
        ];
      }

  pub test-from_same : (xs ys : List X) → IsSameMultiset eq xs ys → same_multiset eq xs ys ≡ true
  test-from_same xs ys s =
      let t : X → Bool = λ x. multiplicity eq x xs == multiplicity eq x ys in
      let each : (x : X) → t x ≡ true = λ x. number_same _ _ (s.each x) in
      λ i. all_pass t each xs i && all_pass t each ys i

  pub same_multiset-symm : (xs ys : List X) → same_multiset eq xs ys ≡ same_multiset eq ys xs
  same_multiset-symm xs ys = both_ways _ _ (λ h. test-from_same ys xs (same_sym eq xs ys (same-from_test xs ys h))) (λ h. test-from_same xs ys (same_sym eq ys xs (same-from_test ys xs h)))

  pub same_multiset_trans : (xs ys zs : List X) → same_multiset eq xs ys ≡ true → same_multiset eq ys zs ≡ true → same_multiset eq xs zs ≡ true
  same_multiset_trans xs ys zs p q = test-from_same xs zs (same_trans eq xs ys zs (same-from_test xs ys p) (same-from_test ys zs q))

  -- The test is an equivalence.
  pub same_multiset_equiv : IsEquivalence (same_multiset eq)
  same_multiset_equiv = record {
    refl = λ xs. test-from_same xs xs (same_refl eq xs);
    symm = same_multiset-symm;
    congr = λ xs ys zs p. both_ways _ _ (λ q. same_multiset_trans ys xs zs (sym (same_multiset-symm xs ys) ∙ p) q) (λ q. same_multiset_trans xs ys zs p q);
  }
