-- Elements that are each a value of a shape.
use Rattle.std.proofs.Common.{◌≡◌, sym, subst, arith, ℕ, zero, suc, ◌+◌, ◌<◌, ◌≤◌, List, [], ◌∷◌, take, get_or, length, Decides, false}
use Rattle.std.proofs.lemmas.List.{take_all, take_more}
use Rattle.asn_coding.proofs.Collecting.{fits-more}
use Rattle.asn_dynamic_fits.proofs.Having.{decides-never}
use Rattle.asn_model.specs.Shape.{Shape}
use Rattle.asn_model.specs.Value.{Fits, FitsEach, Value, values}

each-at : {T : Type 0} (s : Shape) (f : T → Value) (xs : List T) (k : ℕ) (d : T) → k < length xs → FitsEach s (values f xs) → Fits s (f (get_or xs k d))
each-at s f [] k d h all = absurd (omega (arith, h))
each-at s f (x ∷ xs) zero d h (FitsEach.fits_one fit all) = fit
each-at s f (x ∷ xs) (suc k) d h (FitsEach.fits_one fit all) = each-at s f xs k d (omega (arith, h)) all

module _ {T : Type 0} (s : Shape) (f : T → Value) where
  pub each-none : (xs : List T) → FitsEach s (values f (take 0 xs))
  each-none xs = FitsEach.fits_none

  -- One more is.
  pub each-more : (xs : List T) (k : ℕ) (x : T) → k < length xs → x ≡ get_or xs k x → Fits s (f x) → FitsEach s (values f (take k xs)) → FitsEach s (values f (take (k + 1) xs))
  each-more xs k x h e fit all = rw (take_more xs k x h, ← e) (fits-more s f (take k xs) x all fit)

  -- All are.
  pub each-all : (xs : List T) (k : ℕ) → length xs ≤ k → FitsEach s (values f (take k xs)) → FitsEach s (values f xs)
  each-all xs k h all = rw (take_all k xs h) at all

  -- One isn't.
  pub each-other : (xs : List T) (k : ℕ) (x : T) → k < length xs → x ≡ get_or xs k x → (Fits s (f x) → ⊥) → Decides false (FitsEach s (values f xs))
  each-other xs k x h at none = decides-never (λ all. none (subst (λ y. Fits s (f y)) (sym at) (each-at s f xs k x h all)))
