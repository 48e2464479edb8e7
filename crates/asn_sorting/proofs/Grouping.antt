-- Values that share a text, sorted by it.
use Rattle.std.proofs.Common.{arith, ◌≡◌, ℕ, zero, suc, ◌+◌, Bool, true, false, cond, List, [], ◌∷◌, ◌++◌, map, length, get_or, set, refl, sym, ap, ◌∙◌, not, append_assoc, append-nil}
use Rattle.std.specs.Ordering.{is_gt, nat_cmp}
use Rattle.std.specs.Cmp.Lexicographic.{slice_cmp}
use Rattle.std.proofs.lemmas.Cmp.{nat_list_cmp_total, tied_itself}
use Rattle.std.proofs.lemmas.List.{map_push, map-append}
use Rattle.asn_model.specs.Sorting.{insert_in_order, sort, by_text}
use Rattle.asn_sorting.specs.Entries.{text_of, value_of}
use Rattle.asn_sorting.specs.Groups.{group_text, group_values, with_text, entries_of}
use Rattle.asn_sorting.specs.declared.by_text.Group.{Group}

not-true : (b : Bool) → not b ≡ true → b ≡ false
not-true true e = let d : false ≡ true = e in cc d
not-true false e = refl

module _ {V : Type 0} where
  pub entries-append : (gs hs : List (Group V)) → entries_of (gs ++ hs) ≡ entries_of gs ++ entries_of hs
  entries-append [] hs = refl
  entries-append (g ∷ gs) hs = ap (λ l. with_text (group_text g) (group_values g) ++ l) (entries-append gs hs) ∙ sym (append_assoc (with_text (group_text g) (group_values g)) (entries_of gs) (entries_of hs))

  -- A value that is added to the last group comes after the others.
  pub entries-last : (gs : List (Group V)) (n : ℕ) (g d : Group V) (v : V) → n + 1 ≡ length gs → group_text g ≡ group_text (get_or gs n d) → group_values g ≡ group_values (get_or gs n d) ++ v ∷ [] → entries_of (set gs n g) ≡ entries_of gs ++ (group_text g, v) ∷ []
  entries-last [] n g d v e t w = absurd (omega (arith, e))
  entries-last (f ∷ []) zero g d v e t w =
      append-nil (with_text (group_text g) (group_values g)) ∙ ap (with_text (group_text g)) w ∙ map_push (λ u. (group_text g, u)) (group_values f) v
      ∙ ap (λ x. with_text x (group_values f) ++ (group_text g, v) ∷ []) t ∙ ap (λ l. l ++ (group_text g, v) ∷ []) (sym (append-nil (with_text (group_text f) (group_values f))))
  entries-last (f ∷ f2 ∷ gs) zero g d v e t w = absurd (omega (arith, e))
  entries-last (f ∷ gs) (suc n) g d v e t w =
      ap (λ l. with_text (group_text f) (group_values f) ++ l) (entries-last gs n g d v (omega (arith, e)) t w) ∙ sym (append_assoc (with_text (group_text f) (group_values f)) (entries_of gs) ((group_text g, v) ∷ []))

  abbrev insert : List ℕ × V → List (List ℕ × V) → List (List ℕ × V)
  insert x l = insert_in_order (by_text text_of) x l

  -- All of a list put in order, the last first.
  abbrev insert_all : List (List ℕ × V) → List (List ℕ × V) → List (List ℕ × V)
  insert_all [] l = l
  insert_all (x ∷ xs) l = insert x (insert_all xs l)

  sort-append : (xs ys : List (List ℕ × V)) → sort (by_text text_of) (xs ++ ys) ≡ insert_all xs (sort (by_text text_of) ys)
  sort-append [] ys = refl
  sort-append (x ∷ xs) ys = ap (λ l. insert x l) (sort-append xs ys)

  -- An entry of a greater text goes past all of a smaller one.
  insert-past : (x : List ℕ × V) (t : List ℕ) (vs : List V) (l : List (List ℕ × V)) → is_gt (slice_cmp nat_cmp (text_of x) t) ≡ true → insert x (with_text t vs ++ l) ≡ with_text t vs ++ insert x l
  insert-past x t [] l e = refl
  insert-past x t (v ∷ vs) l e =
      ap (λ b. cond b ((t, v) ∷ insert x (with_text t vs ++ l)) (x ∷ (t, v) ∷ with_text t vs ++ l)) e ∙ ap (λ m. (t, v) ∷ m) (insert-past x t vs l e)

  all-past : (u t : List ℕ) (us vs : List V) (l : List (List ℕ × V)) → is_gt (slice_cmp nat_cmp u t) ≡ true → insert_all (with_text u us) (with_text t vs ++ l) ≡ with_text t vs ++ insert_all (with_text u us) l
  all-past u t [] vs l e = refl
  all-past u t (w ∷ us) vs l e = ap (λ m. insert (u, w) m) (all-past u t us vs l e) ∙ insert-past (u, w) t vs (insert_all (with_text u us) l) e

  -- An entry of this text stays before these.
  abbrev stays_before : List ℕ → List (List ℕ × V) → Bool
  stays_before t [] = true
  stays_before t (y ∷ ys) = not (is_gt (slice_cmp nat_cmp t (text_of y)))

  insert-before : (x : List ℕ × V) (l : List (List ℕ × V)) → stays_before (text_of x) l ≡ true → insert x l ≡ x ∷ l
  insert-before x [] e = refl
  insert-before x (y ∷ ys) e = ap (λ b. cond b (y ∷ insert x ys) (x ∷ y ∷ ys)) (not-true _ e)

  before-own : (t : List ℕ) (vs : List V) (l : List (List ℕ × V)) → stays_before t l ≡ true → stays_before t (with_text t vs ++ l) ≡ true
  before-own t [] l e = e
  before-own t (v ∷ vs) l e = ap (λ r. not (is_gt r)) (tied_itself nat_list_cmp_total t)

  all-before : (t : List ℕ) (vs : List V) (l : List (List ℕ × V)) → stays_before t l ≡ true → insert_all (with_text t vs) l ≡ with_text t vs ++ l
  all-before t [] l e = refl
  all-before t (v ∷ vs) l e = ap (λ m. insert (t, v) m) (all-before t vs l e) ∙ insert-before (t, v) (with_text t vs ++ l) (before-own t vs l e)

  -- A group goes where its entries go.
  group-inserted : (g : Group V) (gs : List (Group V)) → insert_all (with_text (group_text g) (group_values g)) (entries_of gs) ≡ entries_of (insert_in_order (by_text group_text) g gs)
  group-inserted g [] = all-before (group_text g) (group_values g) [] refl
  group-inserted g (h ∷ hs) =
      let own = with_text (group_text g) (group_values g) in
      let others = entries_of (h ∷ hs) in
      elim (is_gt (slice_cmp nat_cmp (group_text g) (group_text h))) as (λ b. is_gt (slice_cmp nat_cmp (group_text g) (group_text h)) ≡ b → insert_all own others ≡ entries_of (cond b (h ∷ insert_in_order (by_text group_text) g hs) (g ∷ h ∷ hs))) [
        | true ↦ λ e. all-past (group_text g) (group_text h) (group_values g) (group_values h) (entries_of hs) e ∙ ap (λ l. with_text (group_text h) (group_values h) ++ l) (group-inserted g hs)
        | false ↦ λ e. all-before (group_text g) (group_values g) others (ap not e)
      ] refl

  -- Entries of groups that are sorted are the sorted entries.
  pub entries-sorted : (gs : List (Group V)) → sort (by_text text_of) (entries_of gs) ≡ entries_of (sort (by_text group_text) gs)
  entries-sorted [] = refl
  entries-sorted (g ∷ gs) =
      let own = with_text (group_text g) (group_values g) in
      sort-append own (entries_of gs) ∙ ap (insert_all own) (entries-sorted gs) ∙ group-inserted g (sort (by_text group_text) gs)

  values-back : (t : List ℕ) (vs : List V) → map value_of (with_text t vs) ≡ vs
  values-back t [] = refl
  values-back t (v ∷ vs) = ap (λ l. v ∷ l) (values-back t vs)

  -- The values of a group, moved after others.
  pub group-moved : (done : List V) (g : Group V) (gs : List (Group V)) → ((done ++ g.first ∷ []) ++ g.others.items) ++ map value_of (entries_of gs) ≡ done ++ map value_of (entries_of (g ∷ gs))
  group-moved done g gs =
      ap (λ l. l ++ map value_of (entries_of gs)) (append_assoc done (g.first ∷ []) g.others.items) ∙ append_assoc done (group_values g) (map value_of (entries_of gs))
      ∙ ap (λ l. done ++ (l ++ map value_of (entries_of gs))) (sym (values-back (group_text g) (group_values g))) ∙ ap (λ l. done ++ l) (sym (map-append value_of (with_text (group_text g) (group_values g)) (entries_of gs)))
