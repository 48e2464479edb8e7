-- Where a name stands in a list of names.
use Rattle.std.proofs.Common.{◌≡◌, ℕ, zero, suc, ◌<◌, List, [], ◌∷◌, ap, arith, get_or, length, refl, Bool, true, false, Some, None, option_map}
use Rattle.asn_model.specs.Shape.{place_named}

module _ (same : List ℕ → List ℕ → Bool) (name : List ℕ) where
  -- None of the first names is this one.
  abbrev pub IsNoneOf : List (List ℕ) → ℕ → Type 0
  IsNoneOf names i = (k : ℕ) → k < i → same name (get_or names k []) ≡ false

  pub placed : (names : List (List ℕ)) (i : ℕ) → IsNoneOf names i → i < length names → same name (get_or names i []) ≡ true → Some i ≡ place_named same names name
  placed [] i before below is = absurd (omega (arith, below))
  placed (n ∷ names) zero before below is = rw is refl
  placed (n ∷ names) (suc i) before below is =
      rw (before 0 (omega arith)) (ap (option_map suc) (placed names i (λ k lt. before (suc k) (omega (arith, lt))) (omega (arith, below)) is))

  pub not-placed : (names : List (List ℕ)) → IsNoneOf names (length names) → None ≡ place_named same names name
  not-placed [] before = refl
  not-placed (n ∷ names) before = rw (before 0 (omega arith)) (ap (option_map suc) (not-placed names (λ k lt. before (suc k) (omega (arith, lt)))))
