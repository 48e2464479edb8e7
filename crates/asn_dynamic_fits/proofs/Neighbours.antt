-- Lists in which each element and the next pass a test.
use Rattle.std.proofs.Common.{◌≡◌, refl, ap, ◌∙◌, subst, arith, ℕ, zero, suc, ◌+◌, ◌<◌, List, [], ◌∷◌, map, get_or, length, Bool, true, false, ◌&&◌}
use Rattle.std.specs.List.{IsAllAdjacentAnswer}

-- Each element and the next pass the test.
abbrev pub adjacent : {X : Type 0} → (X → X → Bool) → List X → Bool
adjacent e [] = true
adjacent e (x ∷ []) = true
adjacent e (x ∷ y ∷ ys) = e x y && adjacent e (y ∷ ys)

and-no : (a b : Bool) → false ≡ b → false ≡ (a && b)
and-no true b h = h
and-no false b h = refl

module _ {X : Type 0} (e : X → X → Bool) where
  all-pass : (xs : List X) → ((k : ℕ) (d : X) → suc k < length xs → true ≡ e (get_or xs k d) (get_or xs (suc k) d)) → true ≡ adjacent e xs
  all-pass [] all = refl
  all-pass (x ∷ []) all = refl
  all-pass (x ∷ y ∷ ys) all =
      let rest : true ≡ adjacent e (y ∷ ys) = all-pass (y ∷ ys) (λ k d h. all (suc k) d (omega (arith, h))) in
      let here : true ≡ e x y = all zero x (omega arith) in
      rest ∙ ap (λ b. b && adjacent e (y ∷ ys)) here

  some-fail : (xs : List X) (k : ℕ) → suc k < length xs → ((d : X) → false ≡ e (get_or xs k d) (get_or xs (suc k) d)) → false ≡ adjacent e xs
  some-fail [] k h f = absurd (omega (arith, h))
  some-fail (x ∷ []) k h f = absurd (omega (arith, h))
  some-fail (x ∷ y ∷ ys) zero h f = let here : false ≡ e x y = f x in ap (λ b. b && adjacent e (y ∷ ys)) here
  some-fail (x ∷ y ∷ ys) (suc k) h f = and-no (e x y) (adjacent e (y ∷ ys)) (some-fail (y ∷ ys) k (omega (arith, h)) f)

  next : (k : ℕ) → k + 1 ≡ suc k
  next k = omega arith

  -- The answer of std's test.
  pub answer-is : (xs : List X) (r : Bool) → IsAllAdjacentAnswer (λ x y b. b ≡ e x y) xs r → r ≡ adjacent e xs
  answer-is xs true h = all-pass xs (λ k d below. subst (λ j. true ≡ e (get_or xs k d) (get_or xs j d)) (next k) (h k d (omega (arith, below))))
  answer-is xs false h = some-fail xs h.0 (let below = h.1 in omega (arith, below)) (λ d. subst (λ j. false ≡ e (get_or xs h.0 d) (get_or xs j d)) (next h.0) (h.2 d))

-- The test may see what f makes of the elements.
pub adjacent-map : {X Y : Type 0} (e : Y → Y → Bool) (f : X → Y) (xs : List X) → adjacent (λ x y. e (f x) (f y)) xs ≡ adjacent e (map f xs)
adjacent-map e f [] = refl
adjacent-map e f (x ∷ []) = refl
adjacent-map e f (x ∷ y ∷ ys) = ap (λ b. e (f x) (f y) && b) (adjacent-map e f (y ∷ ys))
