-- The bounds of the numbers that two bounds admit.
use Rattle.std.proofs.Common.{◌≡◌, ℤ, Bool, true, false, cond, ◌&&◌, not, Option, Some, None, IfSome, IfNone, refl, sym, ap, subst, ◌∙◌, arith}
use Rattle.std.specs.Prelude.{int_lt}
use Rattle.std.specs.Ordering.{int_eq}
use Rattle.std.proofs.lemmas.Bool.Decides.{Decides-int_eq}
use Rattle.std.proofs.lemmas.Int.{ints}
use Rattle.asn_core.specs.declared.constraint.Bounded.{Bounded}
use Rattle.asn_core.specs.declared.constraint.Bounded.TheVariants.{None as Every, Single, Range}
use Rattle.asn_core.specs.Bounds.{is_admitted, is_from, is_up_to, larger, smaller, range_if_any, intersection}

and-true : (b : Bool) → b ≡ (b && true)
and-true true = refl
and-true false = refl

and-comm : (a b : Bool) → (a && b) ≡ (b && a)
and-comm true b = and-true b
and-comm false true = refl
and-comm false false = refl

and-swap : (a b c d : Bool) → ((a && b) && (c && d)) ≡ ((a && c) && (b && d))
and-swap true true true d = refl
and-swap true true false d = refl
and-swap true false true d = refl
and-swap true false false d = refl
and-swap false b c d = refl

module _ {T : Type 0} (number : T → ℤ) where
  -- The bounds of an answer are those of the numbers that pass the test.
  abbrev pub IsBoundsOf : (ℤ → Bool) → Option (Bounded T) → Type 0
  IsBoundsOf test answer = IfSome answer (λ bounds. (n : ℤ) → is_admitted number bounds n ≡ test n)

  -- No number passes the test where there is no answer.
  abbrev pub IsNoneOf : (ℤ → Bool) → Option (Bounded T) → Type 0
  IsNoneOf test answer = IfNone answer ((n : ℤ) → test n ≡ false)

  bounds-along : (test test' : ℤ → Bool) → ((n : ℤ) → test n ≡ test' n) → (answer : Option (Bounded T)) → IsBoundsOf test answer → IsBoundsOf test' answer
  bounds-along test test' e None h = tt
  bounds-along test test' e (Some bounds) h = λ n. h n ∙ e n

  none-along : (test test' : ℤ → Bool) → ((n : ℤ) → test n ≡ test' n) → (answer : Option (Bounded T)) → IsNoneOf test answer → IsNoneOf test' answer
  none-along test test' e None h = λ n. sym (e n) ∙ h n
  none-along test test' e (Some bounds) h = tt

  from-larger : (s t : Option T) (n : ℤ) → is_from number (larger number s t) n ≡ (is_from number s n && is_from number t n)
  from-larger None t n = refl
  from-larger (Some a) None n = and-true _
  from-larger (Some a) (Some b) n =
      elim (int_lt (number a) (number b)) as (λ x. int_lt (number a) (number b) ≡ x → not (int_lt n (number (cond x b a))) ≡ (not (int_lt n (number a)) && not (int_lt n (number b)))) [
        | true ↦ λ e. grind (arith, ints)
        | false ↦ λ e. grind (arith, ints)
      ] refl

  up_to-smaller : (s t : Option T) (n : ℤ) → is_up_to number (smaller number s t) n ≡ (is_up_to number s n && is_up_to number t n)
  up_to-smaller None t n = refl
  up_to-smaller (Some a) None n = and-true _
  up_to-smaller (Some a) (Some b) n =
      elim (int_lt (number b) (number a)) as (λ x. int_lt (number b) (number a) ≡ x → not (int_lt (number (cond x b a)) n) ≡ (not (int_lt (number a) n) && not (int_lt (number b) n))) [
        | true ↦ λ e. grind (arith, ints)
        | false ↦ λ e. grind (arith, ints)
      ] refl

  -- A number between both starts and both ends is in both ranges.
  range-both : (s t e f : Option T) (n : ℤ) → is_admitted number (Range (larger number s t) (smaller number e f)) n ≡ (is_admitted number (Range s e) n && is_admitted number (Range t f) n)
  range-both s t e f n =
      ap (λ x. x && is_up_to number (smaller number e f) n) (from-larger s t n) ∙ ap (λ x. (is_from number s n && is_from number t n) && x) (up_to-smaller e f n)
      ∙ and-swap (is_from number s n) (is_from number t n) (is_up_to number e n) (is_up_to number f n)

  range-bounds : (s e : Option T) → IsBoundsOf (is_admitted number (Range s e)) (range_if_any number s e)
  range-bounds None e = λ n. refl
  range-bounds (Some a) None = λ n. refl
  range-bounds (Some a) (Some b) = elim (int_lt (number b) (number a)) as (λ x. IsBoundsOf (is_admitted number (Range (Some a) (Some b))) (cond x None (Some (Range (Some a) (Some b))))) [ true ↦ tt | false ↦ λ n. refl ]

  range-none : (s e : Option T) → IsNoneOf (is_admitted number (Range s e)) (range_if_any number s e)
  range-none None e = tt
  range-none (Some a) None = tt
  range-none (Some a) (Some b) =
      elim (int_lt (number b) (number a)) as (λ x. int_lt (number b) (number a) ≡ x → IsNoneOf (is_admitted number (Range (Some a) (Some b))) (cond x None (Some (Range (Some a) (Some b))))) [
        | true ↦ λ h n. grind (arith, ints)
        | false ↦ λ h. tt
      ] refl

  single-bounds : (m : T) (test : ℤ → Bool) → IsBoundsOf (λ n. int_eq (number m) n && test n) (cond (test (number m)) (Some (Single m)) None)
  single-bounds m test =
      elim (test (number m)) as (λ x. test (number m) ≡ x → IsBoundsOf (λ n. int_eq (number m) n && test n) (cond x (Some (Single m)) None)) [
        | true ↦ λ h n. elim (int_eq (number m) n) as (λ x. int_eq (number m) n ≡ x → x ≡ (x && test n)) [ true ↦ λ e. sym h ∙ ap test ((Decides-int_eq (number m) n).0 e) | false ↦ λ e. refl ] refl
        | false ↦ λ h. tt
      ] refl

  single-none : (m : T) (test : ℤ → Bool) → IsNoneOf (λ n. int_eq (number m) n && test n) (cond (test (number m)) (Some (Single m)) None)
  single-none m test =
      elim (test (number m)) as (λ x. test (number m) ≡ x → IsNoneOf (λ n. int_eq (number m) n && test n) (cond x (Some (Single m)) None)) [
        | true ↦ λ h. tt
        | false ↦ λ h n. elim (int_eq (number m) n) as (λ x. int_eq (number m) n ≡ x → (x && test n) ≡ false) [ true ↦ λ e. sym (ap test ((Decides-int_eq (number m) n).0 e)) ∙ h | false ↦ λ e. refl ] refl
      ] refl

  -- The numbers that both admit.
  abbrev pub in_both : Bounded T → Bounded T → ℤ → Bool
  in_both x y n = is_admitted number x n && is_admitted number y n

  intersection-bounds : (x y : Bounded T) → IsBoundsOf (in_both x y) (intersection number x y)
  intersection-bounds Every y = λ n. refl
  intersection-bounds (Single m) Every = λ n. and-true _
  intersection-bounds (Single m) (Single k) = single-bounds m (is_admitted number (Single k))
  intersection-bounds (Single m) (Range s e) = single-bounds m (is_admitted number (Range s e))
  intersection-bounds (Range s e) Every = λ n. and-true _
  intersection-bounds (Range s e) (Single k) =
      bounds-along (in_both (Single k) (Range s e)) (in_both (Range s e) (Single k)) (λ n. and-comm (is_admitted number (Single k) n) (is_admitted number (Range s e) n)) (intersection number (Range s e) (Single k)) (single-bounds k (is_admitted number (Range s e)))
  intersection-bounds (Range s e) (Range t f) =
      bounds-along (is_admitted number (Range (larger number s t) (smaller number e f))) (in_both (Range s e) (Range t f)) (range-both s t e f) (range_if_any number (larger number s t) (smaller number e f)) (range-bounds (larger number s t) (smaller number e f))

  intersection-none : (x y : Bounded T) → IsNoneOf (in_both x y) (intersection number x y)
  intersection-none Every y = tt
  intersection-none (Single m) Every = tt
  intersection-none (Single m) (Single k) = single-none m (is_admitted number (Single k))
  intersection-none (Single m) (Range s e) = single-none m (is_admitted number (Range s e))
  intersection-none (Range s e) Every = tt
  intersection-none (Range s e) (Single k) =
      none-along (in_both (Single k) (Range s e)) (in_both (Range s e) (Single k)) (λ n. and-comm (is_admitted number (Single k) n) (is_admitted number (Range s e) n)) (intersection number (Range s e) (Single k)) (single-none k (is_admitted number (Range s e)))
  intersection-none (Range s e) (Range t f) =
      none-along (is_admitted number (Range (larger number s t) (smaller number e f))) (in_both (Range s e) (Range t f)) (range-both s t e f) (range_if_any number (larger number s t) (smaller number e f)) (range-none (larger number s t) (smaller number e f))

  pub bounds-of : (x y : Bounded T) (answer : Option (Bounded T)) → answer ≡ intersection number x y → IsBoundsOf (in_both x y) answer
  bounds-of x y answer e = subst (IsBoundsOf (in_both x y)) (sym e) (intersection-bounds x y)

  pub none-of : (x y : Bounded T) (answer : Option (Bounded T)) → answer ≡ intersection number x y → IsNoneOf (in_both x y) answer
  none-of x y answer e = subst (IsNoneOf (in_both x y)) (sym e) (intersection-none x y)
