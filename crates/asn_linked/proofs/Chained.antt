-- The numbers of the types whose loops are around.
use Rattle.std.proofs.Common.{◌≡◌, refl, ap, sym, ◌∙◌, arith, Bool, true, false, ℕ, zero, suc, ◌-◌, ◌<◌, List, [], ◌∷◌, nat_lt, if◌then◌else◌, Some, None}
use Rattle.std.specs.Prelude.{option_map}
use Rattle.std.proofs.lemmas.Bool.{eq-eqb, le-ltb, lt-ltb, ltb-false, ltb-true, ne_eqb}
use Rattle.asn_linked.specs.Places.{open_numbers}
use Rattle.asn_linked.specs.declared.place.Place.{Place}
use Rattle.asn_linked_types.specs.Expansion.{place_of}

-- No loop is around, or none is looked at.
pub open-none : (count number : ℕ) → place_of (open_numbers count []) number ≡ None
open-none zero number = refl
open-none (suc count) number = refl

pub open-zero : (count number : ℕ) (around : List Place) → count ≡ 0 → place_of (open_numbers count around) number ≡ None
open-zero zero number around e = refl
open-zero (suc count) number around e = absurd (omega (arith, e))

-- The innermost loop is of the type.
pub open-first : (count number : ℕ) (body : Place) (around : List Place) → 0 < count → body.number ≡ number → place_of (open_numbers count (body ∷ around)) number ≡ Some 0
open-first zero number body around h e = absurd (omega (arith, h))
open-first (suc count) number body around h e = ap (λ b. if b then Some 0 else option_map suc (place_of (open_numbers count around) number)) (eq-eqb body.number number e)

-- It is of another type.
pub open-next : (count number : ℕ) (body : Place) (around : List Place) → 0 < count → (body.number ≡ number → ⊥) → place_of (open_numbers count (body ∷ around)) number ≡ option_map suc (place_of (open_numbers (count - 1) around) number)
open-next zero number body around h e = absurd (omega (arith, h))
open-next (suc count) number body around h e =
    let less : count ≡ suc count - 1 = omega arith in
    ap (λ b. if b then Some 0 else option_map suc (place_of (open_numbers count around) number)) (ne_eqb body.number number e)
    ∙ ap (λ c. option_map suc (place_of (open_numbers c around) number)) less

-- One loop more is around.
pub fewer-next : (n count : ℕ) → 0 < count → nat_lt n (count - 1) ≡ nat_lt (suc n) count
fewer-next n count h = by (nat_lt n (count - 1)) refl
  where
    by : (b : Bool) → nat_lt n (count - 1) ≡ b → b ≡ nat_lt (suc n) count
    by true e = sym (lt-ltb (suc n) count (omega (arith, h, ltb-true n (count - 1) e)))
    by false e = sym (le-ltb (suc n) count (omega (arith, h, ltb-false n (count - 1) e)))
