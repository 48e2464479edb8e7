-- A list that another one begins with, part by part.
use Rattle.std.proofs.Common.{◌≡◌, refl, ap, sym, ◌∙◌, arith, ℕ, ◌+◌, ◌<◌, List, [], ◌∷◌, length, get_or, drop, Bool, true, false, not, ◌&&◌}
use Rattle.asn_growth.specs.Reasons.{begins}
use Rattle.asn_growth.proofs.Steps.{drop-step}

pub not-false : (b : Bool) → false ≡ not b → b ≡ true
not-false true e = refl
not-false false e = cc e

-- What is compared of each entry.
pub record Compared {A B : Type 0} (view : List A → List B) (seen : A → B) : Type 0 where
  pub none : view [] ≡ []
  pub more : (x : A) (xs : List A) → view (x ∷ xs) ≡ seen x ∷ view xs

module _ {A B : Type 0} (same : B → B → Bool) (view : List A → List B) (seen : A → B) (by : Compared view seen) where
  longer-list : (xs ys : List B) → length ys < length xs → begins same xs ys ≡ false
  longer-list [] ys h = absurd (omega (arith, h))
  longer-list (x ∷ xs) [] h = refl
  longer-list (x ∷ xs) (y ∷ ys) h = rest (same x y) (longer-list xs ys (omega (arith, h)))
    where
      rest : (b : Bool) {c : Bool} → c ≡ false → (b && c) ≡ false
      rest true e = e
      rest false e = refl

  as-many : (xs : List A) → length (view xs) ≡ length xs
  as-many [] = ap length by.none
  as-many (x ∷ xs) = ap length (by.more x xs) ∙ omega (arith, as-many xs)

  -- A longer list isn't the beginning of a shorter one.
  pub too-long : (old new : List A) → length new < length old → false ≡ begins same (view old) (view new)
  too-long old new h = sym (longer-list (view old) (view new) (omega (arith, h, as-many old, as-many new)))

  next : (old new : List A) (i : ℕ) (x y : A) → i < length old → i < length new → x ≡ get_or old i x → y ≡ get_or new i y
      → begins same (view (drop i old)) (view (drop i new)) ≡ (same (seen x) (seen y) && begins same (view (drop (i + 1) old)) (view (drop (i + 1) new)))
  next old new i x y h k e f =
      ap (λ l. begins same l (view (drop i new))) (ap view (drop-step old i x h ∙ ap (λ z. z ∷ drop (i + 1) old) (sym e)) ∙ by.more x (drop (i + 1) old))
      ∙ ap (λ l. begins same (seen x ∷ view (drop (i + 1) old)) l) (ap view (drop-step new i y k ∙ ap (λ z. z ∷ drop (i + 1) new) (sym f)) ∙ by.more y (drop (i + 1) new))

  -- An entry that is the same leaves the rest.
  pub same-entry : (old new : List A) (i : ℕ) (x y : A) (all : Bool) → i < length old → i < length new → x ≡ get_or old i x → y ≡ get_or new i y → same (seen x) (seen y) ≡ true
      → begins same (view (drop i old)) (view (drop i new)) ≡ all → begins same (view (drop (i + 1) old)) (view (drop (i + 1) new)) ≡ all
  same-entry old new i x y all h k e f t g = sym (ap (λ b. b && begins same (view (drop (i + 1) old)) (view (drop (i + 1) new))) t) ∙ sym (next old new i x y h k e f) ∙ g
