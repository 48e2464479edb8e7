-- No place differs exactly where the newer one is a later version.
use Rattle.std.proofs.Common.{◌≡◌, refl, ap, arith, ℕ, List, [], ◌∷◌, length}
use Rattle.asn_growth.specs.Differences.{differences_of}
use Rattle.asn_growth.specs.Grows.{Grows}
use Rattle.asn_growth.proofs.Growing.{none-grows}
use Rattle.asn_model.specs.Shape.{Shape}

no_elements : {A : Type 0} (xs : List A) → length xs ≡ 0 → xs ≡ []
no_elements [] e = refl
no_elements (x ∷ xs) e = absurd (omega (arith, e))

pub none_differs : (older newer : Shape) → Grows older newer → length (differences_of older newer 0) ≡ 0
none_differs older newer g = ap length ((none-grows older newer 0).1 g)

pub is_later : (older newer : Shape) → length (differences_of older newer 0) ≡ 0 → Grows older newer
is_later older newer e = (none-grows older newer 0).0 (no_elements (differences_of older newer 0) e)
