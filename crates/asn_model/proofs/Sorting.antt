-- What sorting keeps, and that the order of a list before doesn't count where only equal elements tie.
use Rattle.std.proofs.Common.{◌≡◌, Bool, true, false, if◌then◌else◌, List, [], ◌∷◌, map, refl, sym, ap, ◌∙◌, true≢false}
use Rattle.std.specs.declared.cmp.Ordering.{Ordering}
use Rattle.std.specs.declared.cmp.Ordering.TheVariants.{Less, Equal, Greater}
use Rattle.std.specs.Ordering.{is_gt, on, ordering_reverse}
use Rattle.std.specs.Cmp.{IsTotalOrder}
use Rattle.std.specs.FinMap.{IsAntisymmetric}
use Rattle.std.specs.List.{AllByRecursion}
use Rattle.std.proofs.lemmas.Cmp.{upto}
use Rattle.asn_model.specs.Sorting.{insert_in_order, sort}

module _ {X : Type 0} (cmp : X → X → Ordering) (o : IsTotalOrder cmp) (same : IsAntisymmetric cmp) where
  -- What is greater than z is greater than what isn't.
  above : (x y z : X) → is_gt (cmp x z) ≡ true → is_gt (cmp y z) ≡ false → is_gt (cmp x y) ≡ true
  above x y z e f = by (is_gt (cmp x y)) refl
    where
      by : (b : Bool) → is_gt (cmp x y) ≡ b → is_gt (cmp x y) ≡ true
      by true h = h
      by false h = absurd (true≢false (sym e ∙ upto o x y z h f))

  -- Two elements stand in one order.
  two : (x y : X) (zs : List X) → (if is_gt (cmp x y) then y ∷ x ∷ zs else x ∷ y ∷ zs) ≡ (if is_gt (cmp y x) then x ∷ y ∷ zs else y ∷ x ∷ zs)
  two x y zs = by (cmp x y) (cmp y x) (o.antisymm y x) (same x y)
    where
      by : (r s : Ordering) → s ≡ ordering_reverse r → (r ≡ Equal → x ≡ y) → (if is_gt r then y ∷ x ∷ zs else x ∷ y ∷ zs) ≡ (if is_gt s then x ∷ y ∷ zs else y ∷ x ∷ zs)
      by Less s e tie = ap (λ r. if is_gt r then x ∷ y ∷ zs else y ∷ x ∷ zs) (sym e)
      by Equal s e tie = let is = tie refl in (λ i. is i ∷ sym is i ∷ zs) ∙ ap (λ r. if is_gt r then x ∷ y ∷ zs else y ∷ x ∷ zs) (sym e)
      by Greater s e tie = ap (λ r. if is_gt r then x ∷ y ∷ zs else y ∷ x ∷ zs) (sym e)

  pub insert-insert : (x y : X) (zs : List X) → insert_in_order cmp x (insert_in_order cmp y zs) ≡ insert_in_order cmp y (insert_in_order cmp x zs)
  insert-insert x y [] = two x y []
  insert-insert x y (z ∷ zs) = by (insert-insert x y zs) (is_gt (cmp x z)) (is_gt (cmp y z)) refl refl
    where
      by : insert_in_order cmp x (insert_in_order cmp y zs) ≡ insert_in_order cmp y (insert_in_order cmp x zs) → (a b : Bool) → is_gt (cmp x z) ≡ a → is_gt (cmp y z) ≡ b → insert_in_order cmp x (insert_in_order cmp y (z ∷ zs)) ≡ insert_in_order cmp y (insert_in_order cmp x (z ∷ zs))
      by rest true true e f = rw (e, f) (rw e (ap (λ l. z ∷ l) rest))
      by rest true false e f = rw (e, f, above x y z e f) (rw e refl)
      by rest false true e f = rw (e, f, above y x z f e) (rw e refl)
      by rest false false e f = rw (e, f) (rw e (two x y (z ∷ zs)))

  -- An element that was inserted by another order stands where it belongs.
  sort-insert : (other : X → X → Ordering) (x : X) (ys : List X) → sort cmp (insert_in_order other x ys) ≡ insert_in_order cmp x (sort cmp ys)
  sort-insert other x [] = refl
  sort-insert other x (y ∷ ys) = by (sort-insert other x ys) (is_gt (other x y))
    where
      by : sort cmp (insert_in_order other x ys) ≡ insert_in_order cmp x (sort cmp ys) → (b : Bool) → sort cmp (if b then y ∷ insert_in_order other x ys else x ∷ y ∷ ys) ≡ insert_in_order cmp x (insert_in_order cmp y (sort cmp ys))
      by rest true = ap (insert_in_order cmp y) rest ∙ insert-insert y x (sort cmp ys)
      by rest false = refl

  -- A list that was sorted by another order is sorted as the list itself.
  pub sort-sort : (other : X → X → Ordering) (xs : List X) → sort cmp (sort other xs) ≡ sort cmp xs
  sort-sort other [] = refl
  sort-sort other (x ∷ xs) = sort-insert other x (sort other xs) ∙ ap (insert_in_order cmp x) (sort-sort other xs)

-- What is sorted by what f gives may be mapped before or after.
module _ {X Y : Type 0} (cmp : Y → Y → Ordering) (f : X → Y) where
  insert-map : (x : X) (ys : List X) → insert_in_order cmp (f x) (map f ys) ≡ map f (insert_in_order (on f cmp) x ys)
  insert-map x [] = refl
  insert-map x (y ∷ ys) = by (insert-map x ys) (is_gt (cmp (f x) (f y)))
    where
      by : insert_in_order cmp (f x) (map f ys) ≡ map f (insert_in_order (on f cmp) x ys) → (b : Bool) → (if b then f y ∷ insert_in_order cmp (f x) (map f ys) else f x ∷ f y ∷ map f ys) ≡ map f (if b then y ∷ insert_in_order (on f cmp) x ys else x ∷ y ∷ ys)
      by rest true = ap (λ l. f y ∷ l) rest
      by rest false = refl

  pub sort-map : (xs : List X) → sort cmp (map f xs) ≡ map f (sort (on f cmp) xs)
  sort-map [] = refl
  sort-map (x ∷ xs) = ap (insert_in_order cmp (f x)) (sort-map xs) ∙ insert-map x (sort (on f cmp) xs)

-- What holds of each element holds of each of the sorted list.
module _ {X : Type 0} (cmp : X → X → Ordering) (P : X → Type 0) where
  each-insert : (x : X) (ys : List X) → P x → AllByRecursion P ys → AllByRecursion P (insert_in_order cmp x ys)
  each-insert x [] p h = (p, tt)
  each-insert x (y ∷ ys) p h = by (each-insert x ys p h.1) (is_gt (cmp x y))
    where
      by : AllByRecursion P (insert_in_order cmp x ys) → (b : Bool) → AllByRecursion P (if b then y ∷ insert_in_order cmp x ys else x ∷ y ∷ ys)
      by rest true = (h.0, rest)
      by rest false = (p, h)

  pub each-sort : (xs : List X) → AllByRecursion P xs → AllByRecursion P (sort cmp xs)
  each-sort [] h = tt
  each-sort (x ∷ xs) h = each-insert x (sort cmp xs) h.0 (each-sort xs h.1)

-- Orders that agree on the elements sort them alike.
module _ {X : Type 0} (cmp other : X → X → Ordering) (P : X → Type 0) (alike : (x y : X) → P x → P y → cmp x y ≡ other x y) where
  insert-alike : (x : X) (ys : List X) → P x → AllByRecursion P ys → insert_in_order cmp x ys ≡ insert_in_order other x ys
  insert-alike x [] p h = refl
  insert-alike x (y ∷ ys) p h = (λ i. if is_gt (alike x y p h.0 i) then y ∷ insert_in_order cmp x ys else x ∷ y ∷ ys) ∙ ap (λ l. if is_gt (other x y) then y ∷ l else x ∷ y ∷ ys) (insert-alike x ys p h.1)

  pub sort-alike : (xs : List X) → AllByRecursion P xs → sort cmp xs ≡ sort other xs
  sort-alike [] h = refl
  sort-alike (x ∷ xs) h = insert-alike x (sort cmp xs) h.0 (each-sort cmp P xs h.1) ∙ ap (insert_in_order other x) (sort-alike xs h.1)
