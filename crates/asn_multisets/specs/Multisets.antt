-- Lists as multisets: the same elements, each as often, in any order.
use Rattle.std.specs.Prelude.{◌≡◌, ℕ, ◌+◌, ◌&&◌, ◌==◌, Bool, if◌then◌else◌, List, [], ◌∷◌}
use Rattle.std.specs.List.{list_all}

-- How many elements of the list are equal to this one.
abbrev pub multiplicity : {X : Type 0} → (X → X → Bool) → X → List X → ℕ
multiplicity eq x [] = 0
multiplicity eq x (y ∷ ys) = (if eq x y then 1 else 0) + multiplicity eq x ys

-- Each element is in both lists as often.
pub record IsSameMultiset {X : Type 0} (eq : X → X → Bool) (xs ys : List X) : Type 0 where
  pub each : (x : X) → multiplicity eq x xs ≡ multiplicity eq x ys

-- The same as a test, of the elements of both lists.
abbrev pub same_multiset : {X : Type 0} → (X → X → Bool) → List X → List X → Bool
same_multiset eq xs ys = list_all (λ x. multiplicity eq x xs == multiplicity eq x ys) xs && list_all (λ x. multiplicity eq x xs == multiplicity eq x ys) ys
