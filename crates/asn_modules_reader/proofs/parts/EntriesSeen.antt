-- What the entries of a list are, with their extension markers.
use Rattle.std.proofs.Common.{◌≡◌, ◌≤◌, ◌<◌, ◌+◌, ℕ, List, [], ◌∷◌, ◌++◌, map, Bool, true, false, cond, nat_le, Option, Some, None, refl, sym, ap, subst, ◌∙◌, append_assoc, append-nil, is_some, arith}
use Rattle.std.proofs.lemmas.Bool.{leb-true, leb-false, le-leb, lt-leb}
use Rattle.std.proofs.lemmas.List.Sums.{sum_by-append, sum_by-cons, sum_by_push}
use Rattle.std.specs.Global.{Vec}
use Rattle.std.specs.List.{count_by, sum_by}
use Rattle.asn_modules_reader.specs.parts.EntryLists.{is_marker, markers_by, behind_first, behind_second, entries_of}
use Rattle.asn_modules_reader.specs.declared.parts.entries.Entries.{Entries}

pub map_join : {A B : Type 0} (f : A → B) (xs ys : List A) → map f (xs ++ ys) ≡ map f xs ++ map f ys
map_join f [] ys = refl
map_join f (x ∷ xs) ys = ap (λ l. f x ∷ l) (map_join f xs ys)

-- How many of the entries are extension markers.
abbrev marks : {A : Type 0} → Option A → ℕ
marks x = cond (is_marker x) 1 0

zero_plus : (n : ℕ) → 0 + n ≡ n
zero_plus n = omega arith

none_marked : {A : Type 0} (xs : List A) → count_by is_marker (map (λ x. Some x) xs) ≡ 0
none_marked [] = refl
none_marked (x ∷ xs) = sum_by-cons marks (Some x) (map (λ y. Some y) xs) ∙ zero_plus (sum_by marks (map (λ y. Some y) xs)) ∙ none_marked xs

behind_counted : {A : Type 0} (xs : List A) (ys : List (Option A)) → count_by is_marker (map (λ x. Some x) xs ++ ys) ≡ count_by is_marker ys
behind_counted xs ys = sum_by-append marks (map (λ x. Some x) xs) ys ∙ ap (λ n. n + count_by is_marker ys) (none_marked xs) ∙ zero_plus (count_by is_marker ys)

one_counted : {A : Type 0} (ys : List (Option A)) → count_by is_marker (None ∷ ys) ≡ 1 + count_by is_marker ys
one_counted ys = sum_by-cons marks None ys

pub no_markers : {A : Type 0} (root : Vec A) (added tail : Option (Vec A)) → added ≡ None → count_by is_marker (map (λ x. Some x) root.items ++ behind_first added tail) ≡ 0
no_markers root added tail e = behind_counted root.items (behind_first added tail) ∙ ap (λ a. count_by is_marker (behind_first a tail)) e

pub one_marker : {A : Type 0} (root a : Vec A) (added tail : Option (Vec A)) → added ≡ Some a → tail ≡ None → count_by is_marker (map (λ x. Some x) root.items ++ behind_first added tail) ≡ 1
one_marker root a added tail e f =
    behind_counted root.items (behind_first added tail) ∙ ap (λ z. count_by is_marker (behind_first z tail)) e ∙ ap (λ z. count_by is_marker (behind_first (Some a) z)) f
    ∙ one_counted (map (λ x. Some x) a.items ++ []) ∙ ap (λ n. 1 + n) (behind_counted a.items [])

pub two_markers : {A : Type 0} (root a t : Vec A) (added tail : Option (Vec A)) → added ≡ Some a → tail ≡ Some t → count_by is_marker (map (λ x. Some x) root.items ++ behind_first added tail) ≡ 2
two_markers root a t added tail e f =
    behind_counted root.items (behind_first added tail) ∙ ap (λ z. count_by is_marker (behind_first z tail)) e ∙ ap (λ z. count_by is_marker (behind_first (Some a) z)) f
    ∙ one_counted (map (λ x. Some x) a.items ++ None ∷ map (λ x. Some x) t.items) ∙ ap (λ n. 1 + n) (behind_counted a.items (None ∷ map (λ x. Some x) t.items) ∙ one_counted (map (λ x. Some x) t.items) ∙ ap (λ n. 1 + n) (none_marked t.items))

-- By whether they were read.
pub counted : {A : Type 0} (root : Vec A) (added tail : Option (Vec A)) → count_by is_marker (map (λ x. Some x) root.items ++ behind_first added tail) ≡ markers_by (is_some added) (is_some tail)
counted root None tail = no_markers root None tail refl
counted root (Some a) None = one_marker root a (Some a) None refl refl
counted root (Some a) (Some t) = two_markers root a t (Some a) (Some t) refl refl

-- With one entry more.
pub one_more_counted : {A : Type 0} (xs : List (Option A)) (x : Option A) → count_by is_marker (xs ++ x ∷ []) ≡ count_by is_marker xs + marks x
one_more_counted xs x = sum_by_push marks xs x

pub room : {A : Type 0} (xs : List (Option A)) (x : Option A) (n m : ℕ) (b : Bool) → m ≡ count_by is_marker xs → b ≡ nat_le (m + marks x) n → b ≡ nat_le (count_by is_marker (xs ++ x ∷ [])) n
room xs x n m b e f = f ∙ ap (λ k. nat_le k n) (ap (λ k. k + marks x) e ∙ sym (one_more_counted xs x))

-- The entry after the others.
pub marked_first : {A : Type 0} (root v : Vec A) (added tail : Option (Vec A)) → added ≡ None → v.items ≡ []
    → map (λ x. Some x) root.items ++ behind_first (Some v) None ≡ (map (λ x. Some x) root.items ++ behind_first added tail) ++ None ∷ []
marked_first root v added tail e n =
    ap (λ l. map (λ x. Some x) root.items ++ None ∷ (map (λ x. Some x) l ++ [])) n
    ∙ sym (ap (λ a. (map (λ x. Some x) root.items ++ behind_first a tail) ++ None ∷ []) e ∙ append_assoc (map (λ x. Some x) root.items) [] (None ∷ []))

pub marked_second : {A : Type 0} (root v a : Vec A) (added tail : Option (Vec A)) → added ≡ Some a → tail ≡ None → v.items ≡ []
    → map (λ x. Some x) root.items ++ behind_first added (Some v) ≡ (map (λ x. Some x) root.items ++ behind_first added tail) ++ None ∷ []
marked_second root v a added tail e f n =
    let front = map (λ x. Some x) root.items in
    let more = map (λ x. Some x) a.items in
    ap (λ z. front ++ behind_first z (Some v)) e
    ∙ ap (λ l. front ++ None ∷ (more ++ None ∷ map (λ x. Some x) l)) n
    ∙ sym (ap (λ z. (front ++ behind_first z tail) ++ None ∷ []) e ∙ ap (λ z. (front ++ behind_first (Some a) z) ++ None ∷ []) f
    ∙ append_assoc front (None ∷ (more ++ [])) (None ∷ []) ∙ ap (λ l. front ++ None ∷ l) (append_assoc more [] (None ∷ [])))

pub pushed_root : {A : Type 0} (root more : Vec A) (x : A) (added tail : Option (Vec A)) → added ≡ None → more.items ≡ root.items ++ x ∷ []
    → map (λ y. Some y) more.items ++ behind_first added tail ≡ (map (λ y. Some y) root.items ++ behind_first added tail) ++ Some x ∷ []
pushed_root root more x added tail e m =
    let front = map (λ y. Some y) root.items in
    ap (λ a. map (λ y. Some y) more.items ++ behind_first a tail) e ∙ append-nil (map (λ y. Some y) more.items) ∙ ap (map (λ y. Some y)) m ∙ map_join (λ y. Some y) root.items (x ∷ [])
    ∙ sym (ap (λ a. (front ++ behind_first a tail) ++ Some x ∷ []) e ∙ append_assoc front [] (Some x ∷ []))

pub pushed_added : {A : Type 0} (root a more : Vec A) (x : A) (added tail : Option (Vec A)) → added ≡ Some a → tail ≡ None → more.items ≡ a.items ++ x ∷ []
    → map (λ y. Some y) root.items ++ behind_first (Some more) tail ≡ (map (λ y. Some y) root.items ++ behind_first added tail) ++ Some x ∷ []
pushed_added root a more x added tail e f m =
    let front = map (λ y. Some y) root.items in
    let old = map (λ y. Some y) a.items in
    ap (λ z. front ++ behind_first (Some more) z) f
    ∙ ap (λ l. front ++ None ∷ l) (append-nil (map (λ y. Some y) more.items) ∙ ap (map (λ y. Some y)) m ∙ map_join (λ y. Some y) a.items (x ∷ []))
    ∙ sym (ap (λ z. (front ++ behind_first z tail) ++ Some x ∷ []) e ∙ ap (λ z. (front ++ behind_first (Some a) z) ++ Some x ∷ []) f
    ∙ append_assoc front (None ∷ (old ++ [])) (Some x ∷ []) ∙ ap (λ l. front ++ None ∷ l) (append_assoc old [] (Some x ∷ [])))

pub pushed_tail : {A : Type 0} (root a t more : Vec A) (x : A) (added tail : Option (Vec A)) → added ≡ Some a → tail ≡ Some t → more.items ≡ t.items ++ x ∷ []
    → map (λ y. Some y) root.items ++ behind_first added (Some more) ≡ (map (λ y. Some y) root.items ++ behind_first added tail) ++ Some x ∷ []
pushed_tail root a t more x added tail e f m =
    let front = map (λ y. Some y) root.items in
    let old = map (λ y. Some y) a.items in
    let last = map (λ y. Some y) t.items in
    ap (λ z. front ++ behind_first z (Some more)) e
    ∙ ap (λ l. front ++ None ∷ (old ++ None ∷ l)) (ap (map (λ y. Some y)) m ∙ map_join (λ y. Some y) t.items (x ∷ []))
    ∙ sym (ap (λ z. (front ++ behind_first z tail) ++ Some x ∷ []) e ∙ ap (λ z. (front ++ behind_first (Some a) z) ++ Some x ∷ []) f
    ∙ append_assoc front (None ∷ (old ++ None ∷ last)) (Some x ∷ []) ∙ ap (λ l. front ++ None ∷ l) (append_assoc old (None ∷ last) (Some x ∷ [])))
