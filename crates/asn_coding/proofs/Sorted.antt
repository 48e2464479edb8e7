-- What holds of each of a sorted list holds of each of the list.
use Rattle.std.proofs.Common.{Bool, true, false, if◌then◌else◌, List, [], ◌∷◌, ◌++◌, map}
use Rattle.std.specs.declared.cmp.Ordering.{Ordering}
use Rattle.std.specs.List.{AllByRecursion}
use Rattle.std.specs.Ordering.{is_gt}
use Rattle.asn_model.specs.Sorting.{insert_in_order, sort}

module _ {X : Type 0} (cmp : X → X → Ordering) (P : X → Type 0) where
  each-inserted : (x : X) (ys : List X) → AllByRecursion P (insert_in_order cmp x ys) → P x × AllByRecursion P ys
  each-inserted x [] all = all
  each-inserted x (y ∷ ys) all = by (each-inserted x ys) (is_gt (cmp x y)) all
    where
      by : (AllByRecursion P (insert_in_order cmp x ys) → P x × AllByRecursion P ys) → (b : Bool) → AllByRecursion P (if b then y ∷ insert_in_order cmp x ys else x ∷ y ∷ ys) → P x × AllByRecursion P (y ∷ ys)
      by rest true (p, qs) = let r = rest qs in (r.0, (p, r.1))
      by rest false all = all

  pub each-sorted : (xs : List X) → AllByRecursion P (sort cmp xs) → AllByRecursion P xs
  each-sorted [] all = tt
  each-sorted (x ∷ xs) all = let r = each-inserted x (sort cmp xs) all in (r.0, each-sorted xs r.1)

module _ {X : Type 0} (P : X → Type 0) where
  pub each-append : (xs ys : List X) → AllByRecursion P xs → AllByRecursion P ys → AllByRecursion P (xs ++ ys)
  each-append [] ys a b = b
  each-append (x ∷ xs) ys (p, a) b = (p, each-append xs ys a b)

  pub each-first : (xs ys : List X) → AllByRecursion P (xs ++ ys) → AllByRecursion P xs
  each-first [] ys all = tt
  each-first (x ∷ xs) ys (p, all) = (p, each-first xs ys all)

  pub each-second : (xs ys : List X) → AllByRecursion P (xs ++ ys) → AllByRecursion P ys
  each-second [] ys all = all
  each-second (x ∷ xs) ys (p, all) = each-second xs ys all

  pub each-mapped : {Y : Type 0} (f : Y → X) (ys : List Y) → AllByRecursion (λ y. P (f y)) ys → AllByRecursion P (map f ys)
  each-mapped f [] all = tt
  each-mapped f (y ∷ ys) (p, all) = (p, each-mapped f ys all)

  pub each-of_map : {Y : Type 0} (f : Y → X) (ys : List Y) → AllByRecursion P (map f ys) → AllByRecursion (λ y. P (f y)) ys
  each-of_map f [] all = tt
  each-of_map f (y ∷ ys) (p, all) = (p, each-of_map f ys all)

pub each-turn : {X : Type 0} {P Q : X → Type 0} → ((x : X) → P x → Q x) → (xs : List X) → AllByRecursion P xs → AllByRecursion Q xs
each-turn f [] all = tt
each-turn f (x ∷ xs) (p, all) = (f x p, each-turn f xs all)
