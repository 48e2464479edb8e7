-- The slots of fields that were decoded one at a time.
use Rattle.std.proofs.Common.{◌≡◌, sym, ap, ◌∙◌, ℕ, List, [], ◌∷◌, ◌++◌, Option, Some, None, arith, length, map, refl}
use Rattle.asn_model.specs.Shape.{Presence}
use Rattle.asn_model.specs.Value.{Value}
use Rattle.asn_coding.specs.SetFields.{kept_slot}

-- Whatever was read stays.
pub kept_optional : (o : Option Value) → o ≡ kept_slot Presence.optional o
kept_optional (Some v) = refl
kept_optional None = refl

-- Of two elements the last one is taken first.
pub both_taken : {X : Type 0} (f : X → ℕ) (xs front rest : List X) (x y : X) (m n : ℕ) → map f xs ≡ m ∷ n ∷ [] → xs ≡ front ++ x ∷ [] → front ≡ rest ++ y ∷ [] → xs ≡ y ∷ x ∷ []
both_taken f xs front [] x y m n count a b = a ∙ ap (λ l. l ++ x ∷ []) b
both_taken f xs front (r ∷ rest) x y m n count a b =
    let d : map f ((r ∷ (rest ++ y ∷ [])) ++ x ∷ []) ≡ m ∷ n ∷ [] = ap (map f) (sym (a ∙ ap (λ l. l ++ x ∷ []) b)) ∙ count in
    absurd (three f r rest x y m n d)
  where
    more : {X : Type 0} (f : X → ℕ) (s : X) (rest : List X) (x y : X) → length (map f ((rest ++ y ∷ []) ++ x ∷ [])) ≡ 0 → ⊥
    more f s [] x y e = omega (arith, e)
    more f s (t ∷ rest) x y e = omega (arith, e)

    three : {X : Type 0} (f : X → ℕ) (r : X) (rest : List X) (x y : X) (m n : ℕ) → map f ((r ∷ (rest ++ y ∷ [])) ++ x ∷ []) ≡ m ∷ n ∷ [] → ⊥
    three f r [] x y m n e = let d : f r ∷ f y ∷ f x ∷ [] ≡ m ∷ n ∷ [] = e in cc d
    three f r (s ∷ rest) x y m n e = let l = ap length e in more f s rest x y (omega (arith, l))
