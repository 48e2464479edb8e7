-- Lists are compared place by place.
use Rattle.std.proofs.Common.{◌≡◌, refl, sym, ◌∙◌, arith, ℕ, suc, ◌+◌, ◌≤◌, List, [], ◌∷◌, drop, length, Option, Some, None, Bool, true, false, not, inl, inr}
use Rattle.std.specs.Bool.{beq}
use Rattle.std.specs.Cmp.Lexicographic.{slice_cmp}
use Rattle.std.specs.List.{slice_get}
use Rattle.std.specs.declared.cmp.Ordering.{Ordering}
use Rattle.std.specs.declared.cmp.Ordering.TheVariants.{Less, Equal, Greater}
use Rattle.std.specs.Ordering.{bool_cmp, ordering_then}
use Rattle.std.proofs.lemmas.Option.{slice_get_cases, slice_get_within, get_or_from_slice_get}
use Rattle.std.proofs.Common.{drop-cons}
use Rattle.std.proofs.Math.ListN.{drop_of_length-le}

at_place : (a : List Bool) (k : ℕ) (x : Bool) → slice_get a k ≡ Some x → drop k a ≡ x ∷ drop (k + 1) a
at_place a k x is =
    let next : suc k ≡ k + 1 = omega arith in
    drop-cons a k x (slice_get_within a k x is) ∙ (λ i. get_or_from_slice_get a k x x is i ∷ drop (next i) a)

pub bits_step : (a b : List Bool) (k : ℕ) (x y : Bool) → slice_get a k ≡ Some x → slice_get b k ≡ Some y
    → slice_cmp bool_cmp (drop k a) (drop k b) ≡ ordering_then (bool_cmp x y) (slice_cmp bool_cmp (drop (k + 1) a) (drop (k + 1) b))
bits_step a b k x y p q = λ i. slice_cmp bool_cmp (at_place a k x p i) (at_place b k y q i)

pub bits_unequal : (x y : Bool) (o : Ordering) → not (beq x y) ≡ true → bool_cmp x y ≡ ordering_then (bool_cmp x y) o
bits_unequal true false o h = refl
bits_unequal false true o h = refl
bits_unequal true true o h = absurd (grind arith)
bits_unequal false false o h = absurd (grind arith)

pub bits_equal : (x y : Bool) (o : Ordering) → not (beq x y) ≡ false → ordering_then (bool_cmp x y) o ≡ o
bits_equal true true o h = refl
bits_equal false false o h = refl
bits_equal true false o h = absurd (grind arith)
bits_equal false true o h = absurd (grind arith)

ended : (b : List Bool) (k : ℕ) → slice_get b k ≡ None → drop k b ≡ []
ended b k is = elim (slice_get_cases b k).1 [
  | inl (x, h, some, e) ↦ let d : ◌≡◌ {A = Option Bool} None (Some x) = sym is ∙ some in cc d
  | inr (h, none) ↦ drop_of_length-le b h
]

-- One of the lists ends before the other, or both end together.
pub bits_longer : (a b : List Bool) (k : ℕ) (x : Bool) → slice_get a k ≡ Some x → slice_get b k ≡ None → Greater ≡ slice_cmp bool_cmp (drop k a) (drop k b)
bits_longer a b k x p q = λ i. slice_cmp bool_cmp (sym (at_place a k x p) i) (sym (ended b k q) i)

pub bits_shorter : (a b : List Bool) (k : ℕ) (y : Bool) → length a ≤ k → slice_get b k ≡ Some y → Less ≡ slice_cmp bool_cmp (drop k a) (drop k b)
bits_shorter a b k y h q = λ i. slice_cmp bool_cmp (sym (drop_of_length-le a h) i) (sym (at_place b k y q) i)

pub bits_together : (a b : List Bool) (k : ℕ) → length a ≤ k → slice_get b k ≡ None → Equal ≡ slice_cmp bool_cmp (drop k a) (drop k b)
bits_together a b k h q = λ i. slice_cmp bool_cmp (sym (drop_of_length-le a h) i) (sym (ended b k q) i)
