-- The tables of a type's fields, those of a SET in the order of their tags too, list its fields; and their names are distinct.
use Rattle.std.proofs.Common.{◌≡◌, refl, sym, ap, subst, ◌∙◌, ℕ, zero, suc, ◌+◌, ◌-◌, ◌<◌, arith, List, [], ◌∷◌, ◌++◌, append-nil, length, map, Bool, true, false, if◌then◌else◌, Option, Some, None, option_map, unwrap_or, inl, inr}
use Rattle.std.proofs.lemmas.Bool.{cases_lt}
use Rattle.std.proofs.lemmas.List.{length-append, length-map, map-append}
use Rattle.std.proofs.lemmas.List.Elements.{All-contains_itself, All-from_recursion, recursion_from_All}
use Rattle.std.specs.Cmp.{both_ways}
use Rattle.std.specs.List.{All, AllByRecursion, Contains, slice_get}
use Rattle.std.specs.Ordering.{is_gt, on}
use Rattle.std.specs.Str.{bytes_eq}
use Rattle.std.specs.declared.cmp.Ordering.{Ordering}
use Rattle.std.proofs.lemmas.Slice.Eq.{bytes_eq-Decides}
use Rattle.asn_core.specs.Tags.{smallest}
use Rattle.asn_core.specs.declared.tag.Tag.{Tag}
use Rattle.asn_model.specs.Components.{Component, Standing, component_names, components, reading_order, tag_cmp, with_additions}
use Rattle.asn_model.specs.Shape.{Fields, FieldAdditions, SeqKind, all_fields, are_distinct, field_names, is_item}
use Rattle.asn_model.specs.Sorting.{insert_in_order, sort}
use Rattle.asn_model.proofs.Sorting.{each-sort, sort-map}
use Rattle.asn_names.specs.Rows.{NameRow}
use Rattle.asn_coding.specs.Tables.{ListsFields, Row, added_rows, field_rows, field_tag, name_row, name_rows, names_of, or_end, rows_of}
use Rattle.asn_coding.specs.SetFields.{additions_of, component_at, listed_components, placed, places_read}
use Rattle.asn_coding.specs.declared.field.Field.{Field}
use Rattle.asn_coding.proofs.ReadingOrder.{names-read}
use Rattle.asn_coding.proofs.Sorted.{each-append, each-first, each-mapped, each-of_map, each-second, each-sorted, each-turn}

-- The tag by which a field is ordered, with its place and its name.
abbrev Key : Type 0
Key = Tag × ℕ × List ℕ

abbrev key_order : Key → Key → Ordering
key_order = on (λ (k : Key). k.0) tag_cmp

field_key : Field → Key
field_key f = (field_tag f, f.index, f.name.now)

place_key : ℕ × Component → Key
place_key p = (p.1.tag, p.0, p.1.name)

row_keys : List Row → List Key
row_keys rows = map (λ (r : Row). (or_end r.tag, r.place, r.name)) rows

keys-of : (fields : List Field) → row_keys (rows_of fields) ≡ map field_key fields
unfolding row_keys field_key
keys-of [] = refl
keys-of (f ∷ fs) = ap (λ l. (or_end (smallest f.tag_tree), f.index, f.name.now) ∷ l) (keys-of fs)

keys-rows : (at : Standing) (k : ℕ) (fs : Fields) → row_keys (field_rows k fs) ≡ map place_key (placed k (components at fs))
unfolding row_keys place_key
keys-rows at k Fields.no_fields = refl
keys-rows at k (Fields.field n t p s fs) = ap (λ l. (t, k, n) ∷ l) (keys-rows at (suc k) fs)

names-fields : (fields : List Field) → map (λ (k : Key). k.2) (map field_key fields) ≡ names_of fields
unfolding field_key
names-fields [] = refl
names-fields (f ∷ fs) = ap (λ l. f.name.now ∷ l) (names-fields fs)

names-places : (ps : List (ℕ × Component)) → map (λ (k : Key). k.2) (map place_key ps) ≡ component_names (map (λ p. p.1) ps)
unfolding place_key
names-places [] = refl
names-places (p ∷ ps) = ap (λ l. p.1.name ∷ l) (names-places ps)

spots-fields : (fields : List Field) → map {B = ℕ × Tag} (λ (k : Key). (k.1, k.0)) (map field_key fields) ≡ map {B = ℕ × Tag} (λ (f : Field). (f.index, field_tag f)) fields
unfolding field_key
spots-fields [] = refl
spots-fields (f ∷ fs) = ap (λ l. (f.index, field_tag f) ∷ l) (spots-fields fs)

spots-places : (ps : List (ℕ × Component)) → map {B = ℕ × Tag} (λ (k : Key). (k.1, k.0)) (map place_key ps) ≡ map {B = ℕ × Tag} (λ p. (p.0, p.1.tag)) ps
unfolding place_key
spots-places [] = refl
spots-places (p ∷ ps) = ap (λ l. (p.0, p.1.tag) ∷ l) (spots-places ps)

abbrev by_place_tag : ℕ × Component → ℕ × Component → Ordering
by_place_tag = on (λ p. p.1.tag) tag_cmp

parts-placed : (k : ℕ) (cs : List Component) → map (λ p. p.1) (placed k cs) ≡ cs
parts-placed k [] = refl
parts-placed k (c ∷ cs) = ap (λ l. c ∷ l) (parts-placed (suc k) cs)

-- The rows of the table by their tags are those of the components by theirs.
keys-by_tag : (k : ℕ) (fields sorted : List Field) (fs : Fields) → rows_of fields ≡ field_rows k fs → sorted ≡ sort (on field_tag tag_cmp) fields → map field_key sorted ≡ map place_key (sort by_place_tag (placed k (components Standing.root fs)))
unfolding field_key place_key
keys-by_tag k fields sorted fs rows is =
    ap (map field_key) is
    ∙ sym (sort-map key_order field_key fields)
    ∙ ap (sort key_order) (sym (keys-of fields) ∙ ap row_keys rows ∙ keys-rows Standing.root k fs)
    ∙ sort-map key_order place_key (placed k (components Standing.root fs))

-- The components in that order are the sorted ones.
parts-by_tag : (k : ℕ) (fs : Fields) → map (λ p. p.1) (sort by_place_tag (placed k (components Standing.root fs))) ≡ sort (on (λ (c : Component). c.tag) tag_cmp) (components Standing.root fs)
parts-by_tag k fs = sym (sort-map (on (λ (c : Component). c.tag) tag_cmp) (λ p. p.1) (placed k (components Standing.root fs))) ∙ ap (sort (on (λ (c : Component). c.tag) tag_cmp)) (parts-placed k (components Standing.root fs))

bytes_eq-symm : (a b : List ℕ) → bytes_eq a b ≡ bytes_eq b a
bytes_eq-symm a b = both_ways _ _ (λ e. (bytes_eq-Decides b a).1 (sym ((bytes_eq-Decides a b).0 e))) (λ e. (bytes_eq-Decides a b).1 (sym ((bytes_eq-Decides b a).0 e)))

-- The order of names is of no account to whether they are distinct.
module _ {X : Type 0} (cmp : X → X → Ordering) (name : X → List ℕ) (more : List (List ℕ)) where
  abbrev names : List X → List (List ℕ)
  names xs = map name xs ++ more

  item-insert : (x : X) (ys : List X) (i : List ℕ) → is_item (names (insert_in_order cmp x ys)) i ≡ is_item (names (x ∷ ys)) i
  item-insert x [] i = refl
  item-insert x (y ∷ ys) i = by (item-insert x ys i) (is_gt (cmp x y))
    where
      turn : (b c r : Bool) → (if b then true else (if c then true else r)) ≡ (if c then true else (if b then true else r))
      turn true true r = refl
      turn true false r = refl
      turn false true r = refl
      turn false false r = refl

      by : is_item (names (insert_in_order cmp x ys)) i ≡ is_item (names (x ∷ ys)) i → (b : Bool) → is_item (names (if b then y ∷ insert_in_order cmp x ys else x ∷ y ∷ ys)) i ≡ is_item (names (x ∷ y ∷ ys)) i
      by rest true = ap (λ r. if bytes_eq i (name y) then true else r) rest ∙ turn (bytes_eq i (name y)) (bytes_eq i (name x)) (is_item (names ys) i)
      by rest false = refl

  distinct-insert : (x : X) (ys : List X) → are_distinct (names (insert_in_order cmp x ys)) ≡ are_distinct (names (x ∷ ys))
  distinct-insert x [] = refl
  distinct-insert x (y ∷ ys) = by (distinct-insert x ys) (is_gt (cmp x y))
    where
      turn : (s b p q r : Bool) → s ≡ b → (if (if s then true else q) then false else (if p then false else r)) ≡ (if (if b then true else p) then false else (if q then false else r))
      turn s true p q r e = ap (λ s. if (if s then true else q) then false else (if p then false else r)) e
      turn s false true true r e = ap (λ s. if (if s then true else true) then false else false) e
      turn s false true false r e = ap (λ s. if (if s then true else false) then false else false) e
      turn s false false true r e = ap (λ s. if (if s then true else true) then false else r) e
      turn s false false false r e = ap (λ s. if (if s then true else false) then false else r) e

      by : are_distinct (names (insert_in_order cmp x ys)) ≡ are_distinct (names (x ∷ ys)) → (b : Bool) → are_distinct (names (if b then y ∷ insert_in_order cmp x ys else x ∷ y ∷ ys)) ≡ are_distinct (names (x ∷ y ∷ ys))
      by rest true =
          (λ i. if item-insert x ys (name y) i then false else rest i)
          ∙ turn (bytes_eq (name y) (name x)) (bytes_eq (name x) (name y)) (is_item (names ys) (name x)) (is_item (names ys) (name y)) (are_distinct (names ys)) (bytes_eq-symm (name y) (name x))
      by rest false = refl

  pub distinct-sort : (xs : List X) → are_distinct (names (sort cmp xs)) ≡ are_distinct (names xs)
  distinct-sort [] = refl
  distinct-sort (x ∷ xs) = distinct-insert x (sort cmp xs) ∙ (λ i. if item-sort xs (name x) i then false else distinct-sort xs i)
    where
      item-sort : (xs : List X) (i : List ℕ) → is_item (names (sort cmp xs)) i ≡ is_item (names xs) i
      item-sort [] i = refl
      item-sort (x ∷ xs) i = item-insert x (sort cmp xs) i ∙ ap (λ r. if bytes_eq i (name x) then true else r) (item-sort xs i)

pub with-additions : (cs : List Component) (added : FieldAdditions) → with_additions cs added ≡ cs ++ additions_of added
with-additions cs FieldAdditions.closed_fields = sym (append-nil cs)
with-additions cs (FieldAdditions.extended_fields fs) = refl

names-append : (cs ds : List Component) → component_names (cs ++ ds) ≡ component_names cs ++ component_names ds
names-append [] ds = refl
names-append (c ∷ cs) ds = ap (λ l. c.name ∷ l) (names-append cs ds)

-- The components of the root of a SET, by their tags.
abbrev pub by_tag : List Component → List Component
by_tag cs = sort (on (λ (c : Component). c.tag) tag_cmp) cs

names-read-set : (fs : Fields) (added : FieldAdditions) → component_names (reading_order SeqKind.set fs added) ≡ component_names (by_tag (components Standing.root fs)) ++ component_names (additions_of added)
names-read-set fs added = ap component_names (with-additions (by_tag (components Standing.root fs)) added) ∙ names-append (by_tag (components Standing.root fs)) (additions_of added)

-- The names are distinct in whatever order they are read.
pub read-distinct : (kind : SeqKind) (fs : Fields) (added : FieldAdditions) → are_distinct (component_names (reading_order kind fs added)) ≡ are_distinct (field_names (all_fields fs added))
read-distinct SeqKind.sequence fs added = ap are_distinct (names-read fs added)
read-distinct SeqKind.set fs added =
    ap are_distinct (names-read-set fs added)
    ∙ distinct-sort (on (λ (c : Component). c.tag) tag_cmp) (λ (c : Component). c.name) (component_names (additions_of added)) (components Standing.root fs)
    ∙ ap are_distinct (sym (names-append (components Standing.root fs) (additions_of added)) ∙ ap component_names (sym (with-additions (components Standing.root fs) added)) ∙ names-read fs added)

-- The components with their places are those that are read.
pub parts-read : (fs : Fields) (added : FieldAdditions) → map (λ p. p.1) (places_read fs added) ≡ reading_order SeqKind.set fs added
parts-read fs added =
    map-append (λ p. p.1) (sort by_place_tag (placed 0 (components Standing.root fs))) (placed (length (field_names fs)) (additions_of added))
    ∙ (λ i. parts-by_tag 0 fs i ++ parts-placed (length (field_names fs)) (additions_of added) i)
    ∙ sym (with-additions (by_tag (components Standing.root fs)) added)

-- The tables of a type's fields have the places, tags and names of its components.
root_keys : (fields : List Field) (fs : Fields) → rows_of fields ≡ field_rows 0 fs → map field_key fields ≡ map place_key (placed 0 (components Standing.root fs))
root_keys fields fs rows = sym (keys-of fields) ∙ ap row_keys rows ∙ keys-rows Standing.root 0 fs

addition_keys : {T : Type 0} (items : T → List Field) (additions : List Field) (table : Option T) (fs : Fields) (added : FieldAdditions) → option_map (λ t. rows_of (items t)) table ≡ added_rows fs added → additions ≡ unwrap_or (option_map items table) []
    → map field_key additions ≡ map place_key (placed (length (field_names fs)) (additions_of added))
addition_keys items additions None fs FieldAdditions.closed_fields e is = ap (map field_key) is
addition_keys items additions (Some t) fs (FieldAdditions.extended_fields more) e is =
    let rows : Some (rows_of (items t)) ≡ Some (field_rows (length (field_names fs)) more) = e in
    ap (map field_key) is ∙ sym (keys-of (items t)) ∙ ap row_keys (cc rows) ∙ keys-rows Standing.addition (length (field_names fs)) more
addition_keys items additions (Some t) fs FieldAdditions.closed_fields e is = let d : Some (rows_of (items t)) ≡ None = e in cc d
addition_keys items additions None fs (FieldAdditions.extended_fields more) e is = let d : None ≡ Some (field_rows (length (field_names fs)) more) = e in cc d

-- All components with their places, as the type lists them.
abbrev places_listed : Fields → FieldAdditions → List (ℕ × Component)
places_listed fs added = placed 0 (components Standing.root fs) ++ placed (length (field_names fs)) (additions_of added)

both_keys : (fields additions : List Field) (ps qs : List (ℕ × Component)) → map field_key fields ≡ map place_key ps → map field_key additions ≡ map place_key qs → map field_key (fields ++ additions) ≡ map place_key (ps ++ qs)
both_keys fields additions ps qs e f = map-append field_key fields additions ∙ (λ i. e i ++ f i) ∙ sym (map-append place_key ps qs)

module _ {T : Type 0} (items : T → List Field) (fields additions : List Field) (table : Option T) (fs : Fields) (added : FieldAdditions)
    (rows : rows_of fields ≡ field_rows 0 fs) (more : option_map (λ t. rows_of (items t)) table ≡ added_rows fs added) (of : additions ≡ unwrap_or (option_map items table) []) where
  listed_keys : map field_key (fields ++ additions) ≡ map place_key (places_listed fs added)
  listed_keys = both_keys fields additions _ _ (root_keys fields fs rows) (addition_keys items additions table fs added more of)

  set_keys : (sorted : List Field) → sorted ≡ sort (on field_tag tag_cmp) fields → map field_key (sorted ++ additions) ≡ map place_key (places_read fs added)
  set_keys sorted is = both_keys sorted additions _ _ (keys-by_tag 0 fields sorted fs rows is) (addition_keys items additions table fs added more of)

  -- The tables of a SET's fields, those of the root by their tags, have the names of its components as they are read.
  pub set_table_names : (sorted : List Field) → sorted ≡ sort (on field_tag tag_cmp) fields → names_of (sorted ++ additions) ≡ component_names (reading_order SeqKind.set fs added)
  set_table_names sorted is = sym (names-fields (sorted ++ additions)) ∙ ap (map (λ (k : Key). k.2)) (set_keys sorted is) ∙ names-places (places_read fs added) ∙ ap component_names (parts-read fs added)

  -- They have the places and the tags of its components.
  pub set_places : (sorted : List Field) → sorted ≡ sort (on field_tag tag_cmp) fields → map {B = ℕ × Tag} (λ (f : Field). (f.index, field_tag f)) (sorted ++ additions) ≡ map {B = ℕ × Tag} (λ p. (p.0, p.1.tag)) (places_read fs added)
  set_places sorted is = sym (spots-fields (sorted ++ additions)) ∙ ap (map {B = ℕ × Tag} (λ (k : Key). (k.1, k.0))) (set_keys sorted is) ∙ spots-places (places_read fs added)

-- Each component stands at its place.
abbrev StandsIn : List Component → ℕ × Component → Type 0
StandsIn cs p = component_at cs p.0 ≡ Some p.1

stands-later : (c : Component) (cs : List Component) (k : ℕ) (ds : List Component) → AllByRecursion (λ (p : ℕ × Component). component_at cs p.0 ≡ Some p.1) (placed k ds) → AllByRecursion (StandsIn (c ∷ cs)) (placed (suc k) ds)
stands-later c cs k [] all = tt
stands-later c cs k (d ∷ ds) (one, all) = (one, stands-later c cs (suc k) ds all)

stands-first : (cs ds : List Component) → AllByRecursion (StandsIn (cs ++ ds)) (placed 0 cs)
stands-first [] ds = tt
stands-first (c ∷ cs) ds = (refl, stands-later c (cs ++ ds) 0 cs (stands-first cs ds))

stands-second : (cs ds : List Component) → AllByRecursion (StandsIn (cs ++ ds)) (placed (length cs) ds)
stands-second [] ds = subst (λ es. AllByRecursion (StandsIn ds) (placed 0 es)) refl (subst (λ es. AllByRecursion (StandsIn es) (placed 0 ds)) (append-nil ds) (stands-first ds []))
stands-second (c ∷ cs) ds = stands-later c (cs ++ ds) (length cs) ds (stands-second cs ds)

names-length : (at : Standing) (fs : Fields) → length (field_names fs) ≡ length (components at fs)
names-length at Fields.no_fields = refl
names-length at (Fields.field n t p s fs) = ap suc (names-length at fs)

places-stand : (fs : Fields) (added : FieldAdditions) → AllByRecursion (StandsIn (listed_components fs added)) (places_listed fs added)
places-stand fs added =
    let root = components Standing.root fs in
    let adds = additions_of added in
    each-append (StandsIn (listed_components fs added)) (placed 0 root) (placed (length (field_names fs)) adds) (stands-first root adds)
    (subst (λ k. AllByRecursion (StandsIn (listed_components fs added)) (placed k adds)) (sym (names-length Standing.root fs)) (stands-second root adds))

-- What holds of each component as it is read holds of each as the type lists it.
each-listed : (P : ℕ × Component → Type 0) (fs : Fields) (added : FieldAdditions) → AllByRecursion P (places_read fs added) → AllByRecursion P (places_listed fs added)
each-listed P fs added all =
    let root = placed 0 (components Standing.root fs) in
    let adds = placed (length (field_names fs)) (additions_of added) in
    each-append P root adds (each-sorted by_place_tag P root (each-first P (sort by_place_tag root) adds all)) (each-second P (sort by_place_tag root) adds all)

pub all-stand : (fs : Fields) (added : FieldAdditions) → AllByRecursion (StandsIn (listed_components fs added)) (places_read fs added)
all-stand fs added =
    let P = StandsIn (listed_components fs added) in
    let root = placed 0 (components Standing.root fs) in
    let adds = placed (length (field_names fs)) (additions_of added) in
    each-append P (sort by_place_tag root) adds (each-sort by_place_tag P root (each-first P root adds (places-stand fs added))) (each-second P root adds (places-stand fs added))

some_same : {X : Type 0} {x y : X} → ◌≡◌ {A = Option X} (Some x) (Some y) → x ≡ y
some_same e = cc e

-- A component's name stands at its place among the names.
name-stands : (cs : List Component) (k : ℕ) (c : Component) → component_at cs k ≡ Some c → slice_get (component_names cs) k ≡ Some c.name
name-stands [] k c e = let d : ◌≡◌ {A = Option Component} None (Some c) = e in cc d
name-stands (d ∷ cs) zero c e = let is : d ≡ c = some_same e in ap (λ (c : Component). Some c.name) is
name-stands (d ∷ cs) (suc k) c e = name-stands cs k c e

names-listed : (fs : Fields) (added : FieldAdditions) → component_names (listed_components fs added) ≡ field_names (all_fields fs added)
names-listed fs added = ap component_names (sym (with-additions (components Standing.root fs) added)) ∙ names-read fs added

-- The row of a key.
row_of : (rows : List Field) (key : Key) → Contains (map field_key rows) key → (f : Field) × Contains rows f × (field_key f ≡ key)
row_of [] key (k, lt, e) = absurd (omega (arith, lt))
row_of (f ∷ fs) key (zero, lt, e) = (f, (zero, omega arith, refl), e)
row_of (f ∷ fs) key (suc k, lt, e) = let r = row_of fs key (k, omega (arith, lt), e) in (r.0, (suc r.1.0, omega (arith, r.1.1), r.1.2), r.2)

-- The row of a field of a table is one of its rows.
row_there : (fields : List Field) (f : Field) → Contains fields f → Contains (name_rows fields) (name_row f)
row_there [] f (k, lt, e) = absurd (omega (arith, lt))
row_there (g ∷ gs) f (zero, lt, e) = (zero, omega arith, ap name_row e)
row_there (g ∷ gs) f (suc k, lt, e) = let r = row_there gs f (k, omega (arith, lt), e) in (suc r.0, omega (arith, r.1), r.2)

-- What holds of each place from j on holds of this one.
place-in : (P : ℕ → Type 0) (cs : List Component) (j i : ℕ) → AllByRecursion (λ (p : ℕ × Component). P p.0) (placed j cs) → i < length cs → P (j + i)
place-in P [] j i all lt = absurd (omega (arith, lt))
place-in P (c ∷ cs) j zero (p, all) lt = subst P (omega arith) p
place-in P (c ∷ cs) j (suc i) (p, all) lt = let e : suc j + i ≡ j + suc i = omega arith in subst P e (place-in P cs (suc j) i all (omega (arith, lt)))

-- Rows with the places and the names of the components list the fields.
module _ (fs : Fields) (added : FieldAdditions) (rows : List Field) where
  abbrev listed_names : List (List ℕ)
  listed_names = field_names (all_fields fs added)

  abbrev IsNamed : Key → Type 0
  IsNamed k = slice_get listed_names k.1 ≡ Some k.2

  abbrev HasRow : ℕ → Type 0
  HasRow k = (r : NameRow) × Contains (name_rows rows) r × (r.index ≡ k)

  named : (ps : List (ℕ × Component)) → AllByRecursion (StandsIn (listed_components fs added)) ps → AllByRecursion (λ p. IsNamed (place_key p)) ps
  unfolding place_key
  named ps all = each-turn (λ p e. subst (λ ns. slice_get ns p.0 ≡ Some p.1.name) (names-listed fs added) (name-stands (listed_components fs added) p.0 p.1 e)) ps all

  have_names : (all : AllByRecursion (λ f. IsNamed (field_key f)) rows) → All (λ (r : NameRow). slice_get listed_names r.index ≡ Some r.name) (name_rows rows)
  unfolding field_key
  have_names all =
      let P : NameRow → Type 0 = λ r. slice_get listed_names r.index ≡ Some r.name in
      All-from_recursion P (name_rows rows) (each-mapped P name_row rows all)

  has_row : (p : ℕ × Component) → (f : Field) × Contains rows f × (field_key f ≡ place_key p) → HasRow p.0
  unfolding field_key place_key
  has_row p (f, there, e) = (name_row f, row_there rows f there, ap (λ (k : Key). k.1) e)

  have_rows : (ps : List (ℕ × Component)) → map field_key rows ≡ map place_key ps → AllByRecursion (λ p. HasRow p.0) ps
  have_rows ps keys =
      each-turn (λ p at. has_row p (row_of rows (place_key p) at)) ps
      (each-of_map (Contains (map field_key rows)) place_key ps (subst (AllByRecursion (Contains (map field_key rows))) keys (recursion_from_All _ (map field_key rows) (All-contains_itself (map field_key rows)))))

  each_row : AllByRecursion (λ p. HasRow p.0) (places_listed fs added) → (k : ℕ) → k < length listed_names → HasRow k
  each_row all k lt =
      let root = components Standing.root fs in
      let adds = additions_of added in
      let firsts = names-length Standing.root fs in
      let count : length listed_names ≡ length root + length adds = ap length (sym (names-listed fs added)) ∙ length-map (listed_components fs added) (λ (c : Component). c.name) ∙ length-append root adds in
      elim (cases_lt k (length root)) [
        | inl a ↦ let e : 0 + k ≡ k = omega arith in subst HasRow e (place-in HasRow root 0 k (each-first (λ p. HasRow p.0) (placed 0 root) _ all) a)
        | inr b ↦ (
            let e : length (field_names fs) + (k - length root) ≡ k = omega (arith, firsts, b) in
            subst HasRow e (place-in HasRow adds (length (field_names fs)) (k - length root) (each-second (λ p. HasRow p.0) (placed 0 root) _ all) (omega (arith, lt, count, b)))
            )
      ]

  lists : (ps : List (ℕ × Component)) → map field_key rows ≡ map place_key ps → AllByRecursion (StandsIn (listed_components fs added)) ps → (AllByRecursion (λ p. HasRow p.0) ps → AllByRecursion (λ p. HasRow p.0) (places_listed fs added)) → ListsFields (name_rows rows) fs added
  lists ps keys stand listed = record {
    named = have_names (each-of_map IsNamed field_key rows (subst (AllByRecursion IsNamed) (sym keys) (each-mapped IsNamed place_key ps (named ps stand))));
    complete = each_row (listed (have_rows ps keys));
  }

module _ {T : Type 0} (items : T → List Field) (fields additions : List Field) (table : Option T) (fs : Fields) (added : FieldAdditions)
    (rows : rows_of fields ≡ field_rows 0 fs) (more : option_map (λ t. rows_of (items t)) table ≡ added_rows fs added) (of : additions ≡ unwrap_or (option_map items table) []) where
  -- The tables of a type's fields list them.
  pub tables_list : ListsFields (name_rows (fields ++ additions)) fs added
  tables_list = lists fs added (fields ++ additions) (places_listed fs added) (listed_keys items fields additions table fs added rows more of) (places-stand fs added) (λ all. all)

  -- So do those of a SET, whose root is sorted by tags.
  pub set_tables_list : (sorted : List Field) → sorted ≡ sort (on field_tag tag_cmp) fields → ListsFields (name_rows (sorted ++ additions)) fs added
  set_tables_list sorted is = lists fs added (sorted ++ additions) (places_read fs added) (set_keys items fields additions table fs added rows more of sorted is) (all-stand fs added) (each-listed _ fs added)
