-- The last of each run of ties in a sorted list, which is what is left where each element takes the place of one that it ties with.
use Rattle.std.proofs.Common.{◌≡◌, refl, sym, ap, ◌∙◌, Bool, true, false, if◌then◌else◌, List, [], ◌∷◌, ◌++◌, append_assoc}
use Rattle.std.specs.declared.cmp.Ordering.{Ordering}
use Rattle.std.specs.declared.cmp.Ordering.TheVariants.{Less, Equal, Greater}
use Rattle.std.specs.Cmp.{IsTotalOrder}
use Rattle.std.specs.Ordering.{is_gt, match_ordering, ordering_reverse}
use Rattle.std.proofs.lemmas.Cmp.{alike_right}
use Rattle.asn_model.specs.Sorting.{insert_in_order, sort}

module _ {X : Type 0} (cmp : X → X → Ordering) (o : IsTotalOrder cmp) where
  -- The list in order with the element, which takes the place of one that it ties with.
  abbrev pub put : X → List X → List X
  put e [] = e ∷ []
  put e (x ∷ xs) = match_ordering (cmp e x) (e ∷ x ∷ xs) (e ∷ xs) (x ∷ put e xs)

  -- These elements are put one after another.
  abbrev pub puts : List X → List X → List X
  puts found [] = found
  puts found (e ∷ es) = puts (put e found) es

  -- The list in order with the element, unless one there ties with it.
  abbrev under : X → List X → List X
  under e [] = e ∷ []
  under e (x ∷ xs) = match_ordering (cmp e x) (e ∷ x ∷ xs) (x ∷ xs) (x ∷ under e xs)

  turn : (x y : X) (r : Ordering) → cmp y x ≡ r → cmp x y ≡ ordering_reverse r
  turn x y r e = o.antisymm x y ∙ ap ordering_reverse e

  -- Where they are put at one place.
  two : (e f : X) (xs : List X) → match_ordering (cmp f e) (f ∷ e ∷ xs) (f ∷ xs) (e ∷ f ∷ xs) ≡ match_ordering (cmp e f) (e ∷ f ∷ xs) (f ∷ xs) (f ∷ e ∷ xs)
  two e f xs = by (cmp f e) (cmp e f) (o.antisymm e f)
    where
      by : (r s : Ordering) → s ≡ ordering_reverse r → match_ordering r (f ∷ e ∷ xs) (f ∷ xs) (e ∷ f ∷ xs) ≡ match_ordering s (e ∷ f ∷ xs) (f ∷ xs) (f ∷ e ∷ xs)
      by Less s q = ap (λ s. match_ordering s (e ∷ f ∷ xs) (f ∷ xs) (f ∷ e ∷ xs)) (sym q)
      by Equal s q = ap (λ s. match_ordering s (e ∷ f ∷ xs) (f ∷ xs) (f ∷ e ∷ xs)) (sym q)
      by Greater s q = ap (λ s. match_ordering s (e ∷ f ∷ xs) (f ∷ xs) (f ∷ e ∷ xs)) (sym q)

  -- An element that is put later may be put before one that gives way.
  put-under : (e f : X) (xs : List X) → put f (under e xs) ≡ under e (put f xs)
  put-under e f [] = two e f []
  put-under e f (x ∷ xs) = by (put-under e f xs) (cmp e x) (cmp f x) refl refl
    where
      by : put f (under e xs) ≡ under e (put f xs) → (r s : Ordering) → cmp e x ≡ r → cmp f x ≡ s
          → put f (match_ordering r (e ∷ x ∷ xs) (x ∷ xs) (x ∷ under e xs)) ≡ under e (match_ordering s (f ∷ x ∷ xs) (f ∷ xs) (x ∷ put f xs))
      by rest Less Less p q = rw (q, p) (two e f (x ∷ xs))
      by rest Less Equal p q =
          let ef : cmp e f ≡ Less = sym (alike_right o x f e (turn x f Equal q)) ∙ p in
          let fe : cmp f e ≡ Greater = turn f e Less ef in
          rw (fe, ef, q) refl
      by rest Less Greater p q =
          let ef : cmp e f ≡ Less = o.trans e x f p (turn x f Greater q) in
          let fe : cmp f e ≡ Greater = turn f e Less ef in
          rw (fe, q, p) refl
      by rest Equal Less p q =
          let ef : cmp e f ≡ Greater = o.congr e x f p ∙ turn x f Less q in
          rw (q, ef, p) refl
      by rest Equal Equal p q =
          let ef : cmp e f ≡ Equal = o.congr e x f p ∙ turn x f Equal q in
          rw (q, ef) refl
      by rest Equal Greater p q = rw (q, p) refl
      by rest Greater Less p q =
          let fe : cmp f e ≡ Less = o.trans f x e q (turn x e Greater p) in
          let ef : cmp e f ≡ Greater = turn e f Less fe in
          rw (q, ef, p) refl
      by rest Greater Equal p q =
          let fe : cmp f e ≡ Less = o.congr f x e q ∙ turn x e Greater p in
          let ef : cmp e f ≡ Greater = turn e f Less fe in
          rw (q, ef) refl
      by rest Greater Greater p q = rw (q, p) (ap (λ l. x ∷ l) rest)

  puts-under : (e : X) (found es : List X) → puts (under e found) es ≡ under e (puts found es)
  puts-under e found [] = refl
  puts-under e found (f ∷ es) = ap (λ l. puts l es) (put-under e f found) ∙ puts-under e (put f found) es

  -- The first of a row of ties and not its last gives way.
  abbrev tied : X → X → Bool
  tied x y = match_ordering (cmp x y) false true false

  -- The last of each row of ties.
  abbrev lasts : X → List X → List X
  lasts x [] = x ∷ []
  lasts x (y ∷ ys) = if tied x y then lasts y ys else x ∷ lasts y ys

  abbrev pub lasts_of : List X → List X
  lasts_of [] = []
  lasts_of (x ∷ xs) = lasts x xs

  -- It begins with one that ties with the first.
  record Begun (x : X) (all : List X) : Type 0 where
    pub first : X
    pub others : List X
    pub is : all ≡ first ∷ others
    pub tie : cmp x first ≡ Equal

  itself : (x : X) → cmp x x ≡ Equal
  itself x = by (cmp x x) (o.antisymm x x)
    where
      by : (r : Ordering) → r ≡ ordering_reverse r → r ≡ Equal
      by Less e = cc e
      by Equal e = refl
      by Greater e = cc e

  begun : (x : X) (ys : List X) → Begun x (lasts x ys)
  begun x [] = record { first = x; others = []; is = refl; tie = itself x }
  begun x (y ∷ ys) = by (cmp x y) refl (begun y ys)
    where
      by : (r : Ordering) → cmp x y ≡ r → Begun y (lasts y ys) → Begun x (if match_ordering r false true false then lasts y ys else x ∷ lasts y ys)
      by Less e b = record { first = x; others = lasts y ys; is = refl; tie = itself x }
      by Equal e b = record { first = b.first; others = b.others; is = b.is; tie = o.congr x y b.first e ∙ b.tie }
      by Greater e b = record { first = x; others = lasts y ys; is = refl; tie = itself x }

  under-first : (e x : X) (all : List X) (r : Ordering) → cmp e x ≡ r → (b : Begun x all) → under e all ≡ match_ordering r (e ∷ all) all (b.first ∷ under e b.others)
  under-first e x all r p b =
      let at : cmp e b.first ≡ r = sym (alike_right o x b.first e b.tie) ∙ p in
      ap (under e) b.is ∙ ap (λ s. match_ordering s (e ∷ b.first ∷ b.others) (b.first ∷ b.others) (b.first ∷ under e b.others)) at
      ∙ ap (λ l. match_ordering r (e ∷ l) l (b.first ∷ under e b.others)) (sym b.is)

  -- An element that is inserted before those that it ties with gives way.
  lasts-insert : (e : X) (ys : List X) → lasts_of (insert_in_order cmp e ys) ≡ under e (lasts_of ys)
  lasts-insert e [] = refl
  lasts-insert e (y ∷ ys) = by (lasts-insert e ys) (cmp e y) refl
    where
      after : (zs : List X) → cmp e y ≡ Greater → lasts_of (insert_in_order cmp e zs) ≡ under e (lasts_of zs) → lasts y (insert_in_order cmp e zs) ≡ under e (lasts y zs)
      after [] p rest = let q : cmp y e ≡ Less = turn y e Greater p in rw (q, p) refl
      after (z ∷ zs) p rest = at (cmp y z) refl (cmp e z) refl rest
        where
          at : (r : Ordering) → cmp y z ≡ r → (s : Ordering) → cmp e z ≡ s → lasts_of (if is_gt s then z ∷ insert_in_order cmp e zs else e ∷ z ∷ zs) ≡ under e (lasts z zs)
              → lasts y (if is_gt s then z ∷ insert_in_order cmp e zs else e ∷ z ∷ zs) ≡ under e (if match_ordering r false true false then lasts z zs else y ∷ lasts z zs)
          at Equal q Greater t h = rw q h
          at Equal q Less t h = let d : Less ≡ Greater = sym t ∙ sym (alike_right o y z e q) ∙ p in cc d
          at Equal q Equal t h = let d : Equal ≡ Greater = sym t ∙ sym (alike_right o y z e q) ∙ p in cc d
          at Less q Greater t h = rw (q, p) (ap (λ l. y ∷ l) h)
          at Less q Less t h = let ye : cmp y e ≡ Less = turn y e Greater p in rw (ye, p) (ap (λ l. y ∷ l) h)
          at Less q Equal t h = let ye : cmp y e ≡ Less = turn y e Greater p in rw (ye, p) (ap (λ l. y ∷ l) h)
          at Greater q Greater t h = rw (q, p) (ap (λ l. y ∷ l) h)
          at Greater q Less t h = let ye : cmp y e ≡ Less = turn y e Greater p in rw (ye, p) (ap (λ l. y ∷ l) h)
          at Greater q Equal t h = let ye : cmp y e ≡ Less = turn y e Greater p in rw (ye, p) (ap (λ l. y ∷ l) h)

      by : lasts_of (insert_in_order cmp e ys) ≡ under e (lasts_of ys) → (r : Ordering) → cmp e y ≡ r → lasts_of (if is_gt r then y ∷ insert_in_order cmp e ys else e ∷ y ∷ ys) ≡ under e (lasts y ys)
      by rest Less p = rw p (sym (under-first e y (lasts y ys) Less p (begun y ys)))
      by rest Equal p = rw p (sym (under-first e y (lasts y ys) Equal p (begun y ys)))
      by rest Greater p = after ys p rest

  -- The last of each row of ties of a sorted list are those that are left.
  pub lasts-sort : (es : List X) → lasts_of (sort cmp es) ≡ puts [] es
  lasts-sort [] = refl
  lasts-sort (e ∷ es) = lasts-insert e (sort cmp es) ∙ ap (under e) (lasts-sort es) ∙ sym (puts-under e [] es)

  -- The list with the element behind it, in the place of a last one that ties with it.
  abbrev pub with_last : List X → X → List X
  with_last [] e = e ∷ []
  with_last (x ∷ []) e = if tied x e then e ∷ [] else x ∷ e ∷ []
  with_last (x ∷ y ∷ ys) e = x ∷ with_last (y ∷ ys) e

  abbrev pub lasts_from : List X → List X → List X
  lasts_from found [] = found
  lasts_from found (e ∷ es) = lasts_from (with_last found e) es

  pub from-last : (found xs : List X) (e : X) → lasts_from found (xs ++ e ∷ []) ≡ with_last (lasts_from found xs) e
  from-last found [] e = refl
  from-last found (x ∷ xs) e = from-last (with_last found x) xs e

  pub with-behind : (found : List X) (x e : X) → with_last (found ++ x ∷ []) e ≡ found ++ (if tied x e then e ∷ [] else x ∷ e ∷ [])
  with-behind [] x e = refl
  with-behind (f ∷ []) x e = refl
  with-behind (f ∷ g ∷ gs) x e = ap (λ l. f ∷ l) (with-behind (g ∷ gs) x e)

  from-behind : (found : List X) (x : X) (es : List X) → lasts_from (found ++ x ∷ []) es ≡ found ++ lasts x es
  from-behind found x [] = refl
  from-behind found x (e ∷ es) = ap (λ l. lasts_from l es) (with-behind found x e) ∙ by (tied x e) (from-behind found e es) (from-behind (found ++ x ∷ []) e es)
    where
      by : (b : Bool) → lasts_from (found ++ e ∷ []) es ≡ found ++ lasts e es → lasts_from ((found ++ x ∷ []) ++ e ∷ []) es ≡ (found ++ x ∷ []) ++ lasts e es
          → lasts_from (found ++ (if b then e ∷ [] else x ∷ e ∷ [])) es ≡ found ++ (if b then lasts e es else x ∷ lasts e es)
      by true h k = h
      by false h k = ap (λ l. lasts_from l es) (sym (append_assoc found (x ∷ []) (e ∷ []))) ∙ k ∙ append_assoc found (x ∷ []) (lasts e es)

  -- The elements that are left where each is put behind those before it.
  pub lasts-from : (es : List X) → lasts_from [] es ≡ lasts_of es
  lasts-from [] = refl
  lasts-from (e ∷ es) = from-behind [] e es
