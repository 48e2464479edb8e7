-- A list in order, in which the elements that tie stand as they stood, is the sorted list.
use Rattle.std.proofs.Common.{◌≡◌, ℕ, zero, suc, ◌<◌, ◌≤◌, ◌⊎◌, inl, inr, Bool, true, false, cond, ◌&&◌, not, List, [], ◌∷◌, length, get_or, refl, sym, ap, ◌∙◌, true≢false, arith}
use Rattle.std.specs.declared.cmp.Ordering.{Ordering}
use Rattle.std.specs.declared.cmp.Ordering.TheVariants.{Less, Equal, Greater}
use Rattle.std.specs.Ordering.{is_lt, is_gt, ordering_reverse}
use Rattle.std.specs.Cmp.{IsTotalOrder}
use Rattle.std.specs.List.{filter}
use Rattle.std.specs.List.Sorted.{IsSorted, IsStable, ties}
use Rattle.std.proofs.lemmas.Cmp.{upto, tied_itself, alike_right}
use Rattle.std.proofs.lemmas.List.Sorted.{ranks_by, sorted_far}
use Rattle.asn_model.specs.Sorting.{insert_in_order, sort}

-- The element is not above any of these.
abbrev IsLeast : {X : Type 0} → (X → X → Ordering) → X → List X → Type 0
IsLeast cmp x [] = Unit {0}
IsLeast cmp x (y ∷ ys) = (is_gt (cmp x y) ≡ false) × IsLeast cmp x ys

-- No element is above one after it.
abbrev IsInOrder : {X : Type 0} → (X → X → Ordering) → List X → Type 0
IsInOrder cmp [] = Unit {0}
IsInOrder cmp (x ∷ xs) = IsLeast cmp x xs × IsInOrder cmp xs

not_above : (r s : Ordering) → r ≡ ordering_reverse s → is_lt s ≡ false → is_gt r ≡ false
not_above r Less e h = absurd (true≢false h)
not_above r Equal e h = ap is_gt e
not_above r Greater e h = ap is_gt e

turned : (r s : Ordering) → r ≡ ordering_reverse s → is_gt r ≡ true → is_gt s ≡ false
turned r Less e h = refl
turned r Equal e h = refl
turned r Greater e h = absurd (true≢false (sym h ∙ ap is_gt e))

below_or_tied : (r : Ordering) → is_gt r ≡ false → (r ≡ Less) ⊎ (r ≡ Equal)
below_or_tied Less h = inl refl
below_or_tied Equal h = inr refl
below_or_tied Greater h = absurd (true≢false h)

is_empty : {X : Type 0} → List X → Bool
is_empty [] = true
is_empty (x ∷ xs) = false

not_empty : {X : Type 0} (x : X) (xs : List X) → [] ≡ x ∷ xs → ⊥
unfolding is_empty
not_empty x xs e = true≢false (ap is_empty e)

heads : {X : Type 0} (x y : X) (xs ys : List X) → x ∷ xs ≡ y ∷ ys → x ≡ y
heads x y xs ys e = cc e

tails : {X : Type 0} (x y : X) (xs ys : List X) → x ∷ xs ≡ y ∷ ys → xs ≡ ys
tails x y xs ys e = cc e

module _ {X : Type 0} (cmp : X → X → Ordering) (o : IsTotalOrder cmp) where
  abbrev Tied : X → X → Bool
  Tied = ties (λ x y. is_lt (cmp x y))

  below_least : (x y : X) (ys : List X) → is_gt (cmp x y) ≡ false → IsLeast cmp y ys → IsLeast cmp x ys
  below_least x y [] l h = tt
  below_least x y (z ∷ zs) l h = (upto o x y z l h.0, below_least x y zs l h.1)

  least-insert : (y x : X) (xs : List X) → IsLeast cmp y xs → is_gt (cmp y x) ≡ false → IsLeast cmp y (insert_in_order cmp x xs)
  least-insert y x [] h l = (l, tt)
  least-insert y x (z ∷ zs) h l = elim (is_gt (cmp x z)) as (λ b. IsLeast cmp y (cond b (z ∷ insert_in_order cmp x zs) (x ∷ z ∷ zs))) [ true ↦ (h.0, least-insert y x zs h.1 l) | false ↦ (l, h) ]

  in_order-insert : (x : X) (xs : List X) → IsInOrder cmp xs → IsInOrder cmp (insert_in_order cmp x xs)
  in_order-insert x [] h = (tt, tt)
  in_order-insert x (z ∷ zs) h =
      elim (is_gt (cmp x z)) as (λ b. is_gt (cmp x z) ≡ b → IsInOrder cmp (cond b (z ∷ insert_in_order cmp x zs) (x ∷ z ∷ zs))) [
        | true ↦ λ e. (least-insert z x zs h.0 (turned _ _ (o.antisymm x z) e), in_order-insert x zs h.1)
        | false ↦ λ e. ((e, below_least x z zs e h.0), h)
      ] refl

  in_order-sort : (xs : List X) → IsInOrder cmp (sort cmp xs)
  in_order-sort [] = tt
  in_order-sort (x ∷ xs) = in_order-insert x (sort cmp xs) (in_order-sort xs)

  least_from : (x : X) (ys : List X) → ((j : ℕ) (d : X) → j < length ys → is_lt (cmp (get_or ys j d) x) ≡ false) → IsLeast cmp x ys
  least_from x [] h = tt
  least_from x (y ∷ ys) h = (not_above _ _ (o.antisymm x y) (h zero x (omega arith)), least_from x ys (λ j d l. h (suc j) d (omega arith)))

  in_order_from : (xs : List X) → ((i j : ℕ) (d : X) → i ≤ j → j < length xs → is_lt (cmp (get_or xs j d) (get_or xs i d)) ≡ false) → IsInOrder cmp xs
  in_order_from [] h = tt
  in_order_from (x ∷ xs) h = (least_from x xs (λ j d l. h zero (suc j) d (omega arith) (omega arith)), in_order_from xs (λ i j d a b. h (suc i) (suc j) d (omega arith) (omega arith)))

  in_order-sorted : (xs : List X) → IsSorted cmp xs → IsInOrder cmp xs
  in_order-sorted xs h = in_order_from xs (sorted_far (λ x y. is_lt (cmp x y)) (ranks_by o (λ x. x)) xs h)

  -- Two elements tie where neither is below the other.
  tied : (r s : Ordering) → s ≡ ordering_reverse r → (not (is_lt r) && not (is_lt s)) ≡ true → r ≡ Equal
  tied Less s e h = absurd (true≢false (sym h))
  tied Equal s e h = refl
  tied Greater s e h = absurd (true≢false (sym h ∙ ap (λ t. not (is_lt t)) e))

  tied_back : (r s : Ordering) → s ≡ ordering_reverse r → r ≡ Equal → (not (is_lt r) && not (is_lt s)) ≡ true
  tied_back r s e h = (λ i. not (is_lt (h i)) && not (is_lt s)) ∙ ap (λ t. not (is_lt t)) (e ∙ ap ordering_reverse h)

  equal_from : (x y : X) → Tied x y ≡ true → cmp x y ≡ Equal
  equal_from x y h = tied (cmp x y) (cmp y x) (o.antisymm y x) h

  tied_self : (x : X) → Tied x x ≡ true
  tied_self x = tied_back (cmp x x) (cmp x x) (o.antisymm x x) (tied_itself o x)

  -- What is above another does not tie with what that ties with.
  one_tie : (z x y : X) → is_gt (cmp x y) ≡ true → Tied z x ≡ true → Tied z y ≡ true → ⊥
  one_tie z x y above a b = true≢false (sym above ∙ ap is_gt (sym (o.congr z x y (equal_from z x a)) ∙ equal_from z y b))

  -- An inserted element stands before those that it ties with.
  ties-insert : (z x : X) (ys : List X) → filter (Tied z) (insert_in_order cmp x ys) ≡ filter (Tied z) (x ∷ ys)
  ties-insert z x [] = refl
  ties-insert z x (y ∷ ys) =
      elim (is_gt (cmp x y)) as (λ b. is_gt (cmp x y) ≡ b → filter (Tied z) (cond b (y ∷ insert_in_order cmp x ys) (x ∷ y ∷ ys)) ≡ filter (Tied z) (x ∷ y ∷ ys)) [
        | true ↦ λ e. by (ties-insert z x ys) e (Tied z x) (Tied z y) refl refl
        | false ↦ λ e. refl
      ] refl
    where
      by : filter (Tied z) (insert_in_order cmp x ys) ≡ filter (Tied z) (x ∷ ys) → is_gt (cmp x y) ≡ true → (a b : Bool) → Tied z x ≡ a → Tied z y ≡ b → filter (Tied z) (y ∷ insert_in_order cmp x ys) ≡ filter (Tied z) (x ∷ y ∷ ys)
      by rest above true true p q = absurd (one_tie z x y above p q)
      by rest above true false p q = rw (p, q) (rest ∙ ap (λ c. cond c (x ∷ filter (Tied z) ys) (filter (Tied z) ys)) p)
      by rest above false b p q = rw p (ap (λ l. cond (Tied z y) (y ∷ l) l) (rest ∙ ap (λ c. cond c (x ∷ filter (Tied z) ys) (filter (Tied z) ys)) p))

  ties-sort : (z : X) (xs : List X) → filter (Tied z) (sort cmp xs) ≡ filter (Tied z) xs
  ties-sort z [] = refl
  ties-sort z (x ∷ xs) = ties-insert z x (sort cmp xs) ∙ ap (λ l. cond (Tied z x) (x ∷ l) l) (ties-sort z xs)

  less_upto : (x y z : X) → cmp x y ≡ Less → is_gt (cmp y z) ≡ false → cmp x z ≡ Less
  less_upto x y z l h = elim (below_or_tied (cmp y z) h) [ inl less ↦ o.trans x y z l less | inr same ↦ sym (alike_right o y z x same) ∙ l ]

  not_tied : (x y : X) → cmp x y ≡ Less → Tied x y ≡ false
  not_tied x y l = ap (λ r. not (is_lt r) && not (is_lt (cmp y x))) l

  -- What is below the least ties with none.
  none_tied : (x y : X) (ys : List X) → cmp x y ≡ Less → IsLeast cmp y ys → filter (Tied x) ys ≡ []
  none_tied x y [] l h = refl
  none_tied x y (z ∷ zs) l h = ap (λ b. cond b (z ∷ filter (Tied x) zs) (filter (Tied x) zs)) (not_tied x z (less_upto x y z l h.0)) ∙ none_tied x y zs l h.1

  first_tied : (x : X) (xs : List X) → filter (Tied x) (x ∷ xs) ≡ x ∷ filter (Tied x) xs
  first_tied x xs = ap (λ b. cond b (x ∷ filter (Tied x) xs) (filter (Tied x) xs)) (tied_self x)

  missing : (x y : X) (xs ys : List X) → cmp x y ≡ Less → IsLeast cmp y ys → filter (Tied x) (x ∷ xs) ≡ filter (Tied x) (y ∷ ys) → ⊥
  missing x y xs ys l h e =
      let none : filter (Tied x) (y ∷ ys) ≡ [] = ap (λ b. cond b (y ∷ filter (Tied x) ys) (filter (Tied x) ys)) (not_tied x y l) ∙ none_tied x y ys l h in
      not_empty x (filter (Tied x) xs) (sym none ∙ sym e ∙ first_tied x xs)

  rest_tied : (z x : X) (xs ys : List X) (b : Bool) → cond b (x ∷ filter (Tied z) xs) (filter (Tied z) xs) ≡ cond b (x ∷ filter (Tied z) ys) (filter (Tied z) ys) → filter (Tied z) xs ≡ filter (Tied z) ys
  rest_tied z x xs ys true e = tails x x _ _ e
  rest_tied z x xs ys false e = e

  -- Lists in order, whose elements that tie are the same lists, are equal.
  one_order : (xs ys : List X) → IsInOrder cmp xs → IsInOrder cmp ys → ((z : X) → filter (Tied z) xs ≡ filter (Tied z) ys) → xs ≡ ys
  one_order [] [] p q s = refl
  one_order [] (y ∷ ys) p q s = absurd (not_empty y (filter (Tied y) ys) (s y ∙ first_tied y ys))
  one_order (x ∷ xs) [] p q s = absurd (not_empty x (filter (Tied x) xs) (sym (s x) ∙ first_tied x xs))
  one_order (x ∷ xs) (y ∷ ys) p q s =
      elim (cmp x y) as (λ r. cmp x y ≡ r → x ∷ xs ≡ y ∷ ys) [
        | Less ↦ λ l. absurd (missing x y xs ys l q.0 (s x))
        | Equal ↦ λ e.
            let here : Tied x y ≡ true = tied_back (cmp x y) (cmp y x) (o.antisymm y x) e in
            let is : x ≡ y = heads x y _ _ (sym (first_tied x xs) ∙ s x ∙ ap (λ b. cond b (y ∷ filter (Tied x) ys) (filter (Tied x) ys)) here) in
            let rest : (z : X) → filter (Tied z) xs ≡ filter (Tied z) ys = λ z. rest_tied z x xs ys (Tied z x) (s z ∙ ap (λ w. filter (Tied z) (w ∷ ys)) (sym is)) in
            λ i. is i ∷ one_order xs ys p.1 q.1 rest i
        | Greater ↦ λ l. absurd (missing y x ys xs (o.antisymm y x ∙ ap ordering_reverse l) p.0 (sym (s y)))
      ] refl

  -- What a stable sort gives is the sorted list.
  pub sorted-stable : (xs ys : List X) → IsSorted cmp ys → IsStable cmp xs ys → ys ≡ sort cmp xs
  sorted-stable xs ys up stable = one_order ys (sort cmp xs) (in_order-sorted ys up) (in_order-sort xs) (λ z. stable z ∙ sym (ties-sort z xs))
