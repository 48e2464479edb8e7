-- The slots of a SET whose fields are read by their tags stand where the type lists the fields.
use Rattle.std.proofs.Common.{◌≡◌, refl, sym, ap, ◌∙◌, subst, arith, ℕ, zero, suc, ◌+◌, ◌<◌, ◌≤◌, List, [], ◌∷◌, ◌++◌, map, take, drop, get_or, set, length, Option, None, Bool, true, false, if◌then◌else◌, get_or-set_same, get_or-set_other}
use Rattle.std.proofs.lemmas.List.{length-append, map-append}
use Rattle.std.specs.declared.cmp.Ordering.{Ordering}
use Rattle.std.specs.List.{AllByRecursion}
use Rattle.std.specs.Ordering.{is_gt, on}
use Rattle.asn_coding.specs.ReadingSlots.{slots_read, tag_order, with_slots}
use Rattle.asn_coding.specs.SetFields.{additions_of, listed_components, placed, places_read}
use Rattle.asn_coding.specs.Writing.{Frame}
use Rattle.asn_coding.proofs.Sorted.{each-append, each-turn}
use Rattle.asn_model.specs.Components.{Component, Standing, components, tag_cmp}
use Rattle.asn_model.specs.Shape.{Fields, FieldAdditions, SeqKind, field_names}
use Rattle.asn_model.specs.Sorting.{insert_in_order, sort}
use Rattle.asn_model.specs.Value.{Value}
use Rattle.asn_model.proofs.Sorting.{each-sort, sort-map}
use Rattle.asn_parts.specs.Closed.{closed_fields, closed_added_fields}
use Rattle.asn_parts.specs.Listed.{Place, closed_component}
use Rattle.asn_parts.proofs.Fields.{Kept, additions-closed, components-closed}
use Rattle.asn_model.specs.Shape.{Shape}

-- Two places differ.
abbrev Differ : Place → Place → Type 0
Differ p q = p.0 ≡ q.0 → ⊥

-- No place stands twice.
abbrev AreApart : List Place → Type 0
AreApart [] = Unit {0}
AreApart (p ∷ ps) = AllByRecursion (Differ p) ps × AreApart ps

module _ (cmp : Place → Place → Ordering) where
  each-insert : (P : Place → Type 0) (x : Place) (ys : List Place) → P x → AllByRecursion P ys → AllByRecursion P (insert_in_order cmp x ys)
  each-insert P x [] p h = (p, tt)
  each-insert P x (y ∷ ys) p h = by (is_gt (cmp x y)) (each-insert P x ys p h.1)
    where
      by : (b : Bool) → AllByRecursion P (insert_in_order cmp x ys) → AllByRecursion P (if b then y ∷ insert_in_order cmp x ys else x ∷ y ∷ ys)
      by true rest = (h.0, rest)
      by false rest = (p, h)

  apart-insert : (x : Place) (ys : List Place) → AllByRecursion (Differ x) ys → AreApart ys → AreApart (insert_in_order cmp x ys)
  apart-insert x [] h a = (tt, tt)
  apart-insert x (y ∷ ys) h a = by (is_gt (cmp x y)) (apart-insert x ys h.1 a.1)
    where
      by : (b : Bool) → AreApart (insert_in_order cmp x ys) → AreApart (if b then y ∷ insert_in_order cmp x ys else x ∷ y ∷ ys)
      by true rest = (each-insert (Differ y) x ys (λ e. h.0 (sym e)) a.0, rest)
      by false rest = (h, a)

  apart-sort : (ps : List Place) → AreApart ps → AreApart (sort cmp ps)
  apart-sort [] a = tt
  apart-sort (p ∷ ps) a = apart-insert p (sort cmp ps) (each-sort cmp (Differ p) ps a.0) (apart-sort ps a.1)

beyond : (j k : ℕ) (cs : List Component) → j < k → AllByRecursion (λ (p : Place). j ≡ p.0 → ⊥) (placed k cs)
beyond j k [] h = tt
beyond j k (c ∷ cs) h = ((λ e. omega (arith, e, h)), beyond j (suc k) cs (omega (arith, h)))

apart-placed : (k : ℕ) (cs : List Component) → AreApart (placed k cs)
apart-placed k [] = tt
apart-placed k (c ∷ cs) = (beyond k (suc k) cs (omega arith), apart-placed (suc k) cs)

apart-append : (ps qs : List Place) → AreApart ps → AreApart qs → AllByRecursion (λ p. AllByRecursion (Differ p) qs) ps → AreApart (ps ++ qs)
apart-append [] qs a b h = b
apart-append (p ∷ ps) qs a b h = (each-append (Differ p) ps qs a.0 h.0, apart-append ps qs a.1 b h.1)

below-all : (k : ℕ) (cs : List Component) → AllByRecursion (λ (p : Place). p.0 < k + length cs) (placed k cs)
below-all k [] = tt
below-all k (c ∷ cs) = (omega arith, each-turn (λ p h. omega (arith, h)) (placed (suc k) cs) (below-all (suc k) cs))

names-length : (at : Standing) (fs : Fields) → length (field_names fs) ≡ length (components at fs)
names-length at Fields.no_fields = refl
names-length at (Fields.field n t p s fs) = ap suc (names-length at fs)

-- The places of a SET are apart.
pub places-apart : (fs : Fields) (added : FieldAdditions) → AreApart (places_read fs added)
places-apart fs added =
    let root = components Standing.root fs in
    let n = length (field_names fs) in
    let adds = placed n (additions_of added) in
    let by = on (λ (p : Place). p.1.tag) tag_cmp in
    let e = names-length Standing.root fs in
    apart-append (sort by (placed 0 root)) adds (apart-sort by (placed 0 root) (apart-placed 0 root)) (apart-placed n (additions_of added))
    (each-turn (λ p h. beyond p.0 n (additions_of added) (omega (arith, h, e))) (sort by (placed 0 root)) (each-sort by (λ p. p.0 < 0 + length root) (placed 0 root) (below-all 0 root)))

apart-from : (q : Place) (ps : List Place) (i : ℕ) (p : Place) → AllByRecursion (Differ q) ps → i < length ps → p ≡ get_or ps i p → q.0 ≡ p.0 → ⊥
apart-from q [] i p h lt at e = omega (arith, lt)
apart-from q (r ∷ rs) zero p h lt at e = h.0 (e ∙ ap (λ (x : Place). x.0) at)
apart-from q (r ∷ rs) (suc i) p h lt at e = apart-from q rs i p h.1 (omega (arith, lt)) at e

-- A place is none of those before it.
earlier : (ps : List Place) (i : ℕ) (p : Place) → AreApart ps → i < length ps → p ≡ get_or ps i p → AllByRecursion (λ k. k ≡ p.0 → ⊥) (map (λ (q : Place). q.0) (take i ps))
earlier [] zero p a lt at = tt
earlier [] (suc i) p a lt at = absurd (omega (arith, lt))
earlier (q ∷ qs) zero p a lt at = tt
earlier (q ∷ qs) (suc i) p a lt at = (apart-from q qs i p a.0 (omega (arith, lt)) at, earlier qs i p a.1 (omega (arith, lt)) at)

-- What is kept stands at its place.
abbrev pub StandsKept : Frame → Kept → Type 0
StandsKept ss q = get_or ss q.0 None ≡ q.1

still : (ss : Frame) (k : ℕ) (o : Option Value) (kept : List Kept) → AllByRecursion (λ j. j ≡ k → ⊥) (map (λ (q : Kept). q.0) kept) → AllByRecursion (StandsKept ss) kept → AllByRecursion (StandsKept (set ss k o)) kept
still ss k o [] apart all = tt
still ss k o (q ∷ qs) apart all = (get_or-set_other ss k q.0 o None apart.0 ∙ all.0, still ss k o qs apart.1 all.1)

-- One more is written at its place.
pub kept-more : (ps : List Place) (i : ℕ) (p : Place) (ss : Frame) (o : Option Value) (kept : List Kept) → AreApart ps → i < length ps → p ≡ get_or ps i p → map (λ (q : Kept). q.0) kept ≡ map (λ (q : Place). q.0) (take i ps) → p.0 < length ss
    → AllByRecursion (StandsKept ss) kept → AllByRecursion (StandsKept (set ss p.0 o)) (kept ++ (p.0, o) ∷ [])
kept-more ps i p ss o kept apart lt at numbers within all =
    each-append (StandsKept (set ss p.0 o)) kept ((p.0, o) ∷ [])
    (still ss p.0 o kept (subst (AllByRecursion (λ j. j ≡ p.0 → ⊥)) (sym numbers) (earlier ps i p apart lt at)) all)
    (get_or-set_same ss p.0 o None within, tt)

kept-slots : (ss : Frame) (kept : List Kept) → AllByRecursion (StandsKept ss) kept → map (λ (q : Kept). q.1) kept ≡ map (λ k. get_or ss k None) (map (λ (q : Kept). q.0) kept)
kept-slots ss [] all = refl
kept-slots ss (q ∷ qs) all = (λ i. sym all.0 i ∷ kept-slots ss qs all.1 i)

-- The slot at a place, with its component.
abbrev with_slot : Frame → Place → Component × Option Value
with_slot ss p = (p.1, get_or ss p.0 None)

get-behind : (done rest : Frame) (o : Option Value) → get_or (done ++ o ∷ rest) (length done) None ≡ o
get-behind [] rest o = refl
get-behind (d ∷ ds) rest o = get-behind ds rest o

with-slots : (cs : List Component) (done ss : Frame) → length cs ≤ length ss → with_slots cs ss ≡ map (with_slot (done ++ ss)) (placed (length done) cs)
with-slots [] done ss h = refl
with-slots (c ∷ cs) done [] h = absurd (omega (arith, h))
with-slots (c ∷ cs) done (s ∷ ss) h =
    let more : done ++ s ∷ ss ≡ (done ++ s ∷ []) ++ ss = sym (append-one done s ss) in
    let long : length (done ++ s ∷ []) ≡ suc (length done) = omega (arith, length-append done (s ∷ [])) in
    (λ i. (c, sym (get-behind done ss s) i) ∷ with-slots cs (done ++ s ∷ []) ss (omega (arith, h)) i)
    ∙ (λ i. (c, get_or (done ++ s ∷ ss) (length done) None) ∷ map (with_slot (sym more i)) (placed (long i) cs))
  where
    append-one : (xs : Frame) (y : Option Value) (ys : Frame) → (xs ++ y ∷ []) ++ ys ≡ xs ++ y ∷ ys
    append-one [] y ys = refl
    append-one (x ∷ xs) y ys = ap (λ l. x ∷ l) (append-one xs y ys)

rest-slots : (cs : List Component) (done ss : Frame) → length ss ≡ length cs → ss ≡ map (λ (p : Place). get_or (done ++ ss) p.0 None) (placed (length done) cs)
rest-slots [] done [] h = refl
rest-slots [] done (s ∷ ss) h = absurd (omega (arith, h))
rest-slots (c ∷ cs) done [] h = absurd (omega (arith, h))
rest-slots (c ∷ cs) done (s ∷ ss) h =
    let more : done ++ s ∷ ss ≡ (done ++ s ∷ []) ++ ss = sym (append-one done s ss) in
    let long : length (done ++ s ∷ []) ≡ suc (length done) = omega (arith, length-append done (s ∷ [])) in
    (λ i. sym (get-behind done ss s) i ∷ rest-slots cs (done ++ s ∷ []) ss (omega (arith, h)) i)
    ∙ (λ i. get_or (done ++ s ∷ ss) (length done) None ∷ map (λ (p : Place). get_or (sym more i) p.0 None) (placed (long i) cs))
  where
    append-one : (xs : Frame) (y : Option Value) (ys : Frame) → (xs ++ y ∷ []) ++ ys ≡ xs ++ y ∷ ys
    append-one [] y ys = refl
    append-one (x ∷ xs) y ys = ap (λ l. x ∷ l) (append-one xs y ys)

slots-mapped : (ss : Frame) (ps : List Place) → map (λ (q : Component × Option Value). q.1) (map (with_slot ss) ps) ≡ map (λ (p : Place). get_or ss p.0 None) ps
slots-mapped ss [] = refl
slots-mapped ss (p ∷ ps) = ap (λ l. get_or ss p.0 None ∷ l) (slots-mapped ss ps)

numbers-mapped : (ss : Frame) (ps : List Place) → map (λ k. get_or ss k None) (map (λ (p : Place). p.0) ps) ≡ map (λ (p : Place). get_or ss p.0 None) ps
numbers-mapped ss [] = refl
numbers-mapped ss (p ∷ ps) = ap (λ l. get_or ss p.0 None ∷ l) (numbers-mapped ss ps)

take-drop : (n : ℕ) (ss : Frame) → take n ss ++ drop n ss ≡ ss
take-drop zero ss = refl
take-drop (suc n) [] = refl
take-drop (suc n) (s ∷ ss) = ap (λ l. s ∷ l) (take-drop n ss)

take-count : (n : ℕ) (ss : Frame) → n ≤ length ss → length (take n ss) ≡ n
take-count zero ss h = refl
take-count (suc n) [] h = absurd (omega (arith, h))
take-count (suc n) (s ∷ ss) h = ap suc (take-count n ss (omega (arith, h)))

drop-count : (n m : ℕ) (ss : Frame) → length ss ≡ n + m → length (drop n ss) ≡ m
drop-count zero m ss h = omega (arith, h)
drop-count (suc n) m [] h = absurd (omega (arith, h))
drop-count (suc n) m (s ∷ ss) h = drop-count n m ss (omega (arith, h))

-- The slots in the order of reading are those at the places.
slots-placed : (fs : Fields) (added : FieldAdditions) (ss : Frame) → length ss ≡ length (listed_components fs added) → slots_read SeqKind.set fs ss ≡ map (λ (p : Place). get_or ss p.0 None) (places_read fs added)
slots-placed fs added ss count =
    let root = components Standing.root fs in
    let adds = additions_of added in
    let n = length (field_names fs) in
    let firsts = names-length Standing.root fs in
    let both = length-append root adds in
    let by = on (λ (p : Place). p.1.tag) tag_cmp in
    let left : map (λ (q : Component × Option Value). q.1) (sort tag_order (with_slots root ss)) ≡ map (λ (p : Place). get_or ss p.0 None) (sort by (placed 0 root)) =
    ap (λ l. map (λ (q : Component × Option Value). q.1) (sort tag_order l)) (with-slots root [] ss (omega (arith, count, both)))
    ∙ ap (map (λ (q : Component × Option Value). q.1)) (sort-map tag_order (with_slot ss) (placed 0 root))
    ∙ slots-mapped ss (sort by (placed 0 root)) in
    let whole = take-drop n ss in
    let at : length (take n ss) ≡ n = take-count n ss (omega (arith, count, both, firsts)) in
    let right : drop n ss ≡ map (λ (p : Place). get_or ss p.0 None) (placed n adds) =
    rest-slots adds (take n ss) (drop n ss) (drop-count n (length adds) ss (omega (arith, count, both, firsts)))
    ∙ (λ i. map (λ (p : Place). get_or (whole i) p.0 None) (placed (at i) adds)) in
    (λ i. left i ++ right i) ∙ sym (map-append (λ (p : Place). get_or ss p.0 None) (sort by (placed 0 root)) (placed n adds))

-- What is kept of all places are the slots in the order of reading.
pub kept-read : (fs : Fields) (added : FieldAdditions) (ss : Frame) (kept : List Kept) → length ss ≡ length (listed_components fs added) → map (λ (q : Kept). q.0) kept ≡ map (λ (p : Place). p.0) (places_read fs added) → AllByRecursion (StandsKept ss) kept
    → slots_read SeqKind.set fs ss ≡ map (λ (q : Kept). q.1) kept
kept-read fs added ss kept count numbers all =
    slots-placed fs added ss count ∙ sym (kept-slots ss kept all ∙ ap (map (λ k. get_or ss k None)) numbers ∙ numbers-mapped ss (places_read fs added))

placed-closed : (env : List Shape) (k : ℕ) (cs : List Component) → placed k (map (closed_component env) cs) ≡ map (λ (p : Place). (p.0, closed_component env p.1)) (placed k cs)
placed-closed env k [] = refl
placed-closed env k (c ∷ cs) = ap (λ l. (k, closed_component env c) ∷ l) (placed-closed env (suc k) cs)

pub names-closed : (env : List Shape) (fs : Fields) → length (field_names (closed_fields 0 env fs)) ≡ length (field_names fs)
names-closed env Fields.no_fields = refl
names-closed env (Fields.field n t p s fs) = ap suc (names-closed env fs)

-- The places of a SET within loops are its places.
pub places-closed : (env : List Shape) (fs : Fields) (added : FieldAdditions) → places_read (closed_fields 0 env fs) (closed_added_fields 0 env added) ≡ map (λ (p : Place). (p.0, closed_component env p.1)) (places_read fs added)
places-closed env fs added =
    let f : Place → Place = λ p. (p.0, closed_component env p.1) in
    let by = on (λ (p : Place). p.1.tag) tag_cmp in
    let n = length (field_names fs) in
    let left : sort by (placed 0 (components Standing.root (closed_fields 0 env fs))) ≡ map f (sort by (placed 0 (components Standing.root fs))) =
    ap (λ cs. sort by (placed 0 cs)) (components-closed env Standing.root fs) ∙ ap (sort by) (placed-closed env 0 (components Standing.root fs)) ∙ sort-map by f (placed 0 (components Standing.root fs)) in
    let right : placed (length (field_names (closed_fields 0 env fs))) (additions_of (closed_added_fields 0 env added)) ≡ map f (placed n (additions_of added)) =
    (λ i. placed (names-closed env fs i) (additions-closed env added i)) ∙ placed-closed env n (additions_of added) in
    (λ i. left i ++ right i) ∙ sym (map-append f (sort by (placed 0 (components Standing.root fs))) (placed n (additions_of added)))
