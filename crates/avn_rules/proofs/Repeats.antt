-- Which rows' names stand at two entries, in a walk over the entries.
use Rattle.std.proofs.Common.{◌≡◌, refl, ap, sym, subst, ◌∙◌, inl, inr, ◌⊎◌, ℕ, zero, suc, ◌+◌, ◌<◌, ◌≤◌, List, [], ◌∷◌, length, set, replicate, Option, Some, None, Bool, true, false, if◌then◌else◌, is_some, nat_le, arith}
use Rattle.std.specs.Prelude.{IfSome, option_map}
use Rattle.std.specs.List.{AllByRecursion, Contains, slice_get}
use Rattle.std.specs.Str.{bytes_eq}
use Rattle.std.proofs.lemmas.Bool.{leb-true}
use Rattle.std.proofs.lemmas.Option.{get_or_from_slice_get, slice_get_within}
use Rattle.std.proofs.lemmas.Slice.Eq.{bytes_eq-Decides}
use Rattle.avn_grammar.specs.Tree.{Tree as AvnTree, Fields as AvnFields, no_fields, field, absent}
use Rattle.asn_slots.proofs.Names.{same_bytes, other_bytes, other_parts, distinct_parts}
use Rattle.asn_names.specs.Rows.{NameRow, index_at, row_names}
use Rattle.asn_names.proofs.Rows.{row_at, row-there}
use Rattle.asn_traits.specs.Shape.{are_distinct, is_item, place_named}
use Rattle.asn_traits.specs.Tree.{times_present}
use Rattle.avn_rules.specs.Parts.{IsEarlier}

-- Of the row and the one before, if there is one, this is the one that the type lists earlier.
pub record IsEarlierRow (before : Option NameRow) (row this : NameRow) : Type 0 where
  pub one : (this ≡ row) ⊎ (before ≡ Some this)
  pub first : this.index ≤ row.index
  pub first_before : IfSome before (λ other. this.index ≤ other.index)

-- What is earlier by its place is the earlier row.
earlier_row : (rows : List NameRow) (before : Option ℕ) (place this : ℕ) → IsEarlier rows before place this → IsEarlierRow (option_map (row_at rows) before) (row_at rows place) (row_at rows this)
earlier_row rows before place this e = record {
  one = elim e.one [ inl is ↦ inl (ap (row_at rows) is) | inr is ↦ inr (ap (option_map (row_at rows)) is) ];
  first = e.first;
  first_before = by before e.first_before;
}
  where
    by : (o : Option ℕ) → IfSome o (λ other. index_at rows this ≤ index_at rows other) → IfSome (option_map (row_at rows) o) (λ (other : NameRow). index_at rows this ≤ other.index)
    by (Some other) h = h
    by None h = tt

-- The earlier place is one of the list, as the others are.
earlier_within : (rows : List NameRow) (before : Option ℕ) (place this : ℕ) → IsEarlier rows before place this → place < length rows → IfSome before (λ k. k < length rows) → this < length rows
earlier_within rows before place this e below within = elim e.one [
  | inl is ↦ subst (λ k. k < length rows) (sym is) below
  | inr is ↦ let P : Option ℕ → Type 0 = λ o. IfSome o (λ k. k < length rows) in subst P is within
]

-- A row is kept that is listed no later than this place.
abbrev pub KeptBy : Option NameRow → ℕ → Type 0
KeptBy (Some row) k = row.index ≤ k
KeptBy None k = ⊥

-- Of all entries, those before the others had the name where there is a slot.
abbrev pub MetBy : ℕ → ℕ → Option ℕ → Type 0
MetBy all others (Some entry) = others < all
MetBy all others None = all ≡ others

-- The slot of a row tells whether its name was met, and where it was met twice, a row is kept that is no later.
pub record Met (all others : ℕ) (kept : Option NameRow) (index : ℕ) (slot : Option ℕ) : Type 0 where
  pub by_slot : MetBy all others slot
  pub twice : 2 + others ≤ all → KeptBy kept index

-- That holds of each row and its slot.
abbrev pub EachMet : AvnFields → AvnFields → Option NameRow → List NameRow → List (Option ℕ) → Type 0
EachMet all others kept [] slots = Unit {0}
EachMet all others kept (row ∷ rows) [] = ⊥
EachMet all others kept (row ∷ rows) (slot ∷ slots) = Met (times_present all row.name) (times_present others row.name) kept row.index slot × EachMet all others kept rows slots

-- The kept row is one of the rows, and its name was met twice.
abbrev pub KeptIsMet : AvnFields → AvnFields → List NameRow → Option NameRow → Type 0
KeptIsMet all others rows (Some row) = Contains rows row × (2 + times_present others row.name ≤ times_present all row.name)
KeptIsMet all others rows None = Unit {0}

-- What is kept once an entry was met at a place among the rows.
pub data Keeps (rows : List NameRow) (slots : List (Option ℕ)) (kept : Option NameRow) : Option ℕ → Option NameRow → Type 0 where
  passed : Keeps rows slots kept None kept
  met_once : (k : ℕ) → slice_get slots k ≡ Some None → Keeps rows slots kept (Some k) kept
  met_twice : (k entry : ℕ) (row first : NameRow) → slice_get slots k ≡ Some (Some entry) → slice_get rows k ≡ Some row → IsEarlierRow kept row first → Keeps rows slots kept (Some k) (Some first)

-- At first no entry was met.
pub none_met : (all : AvnFields) (rows : List NameRow) → EachMet all all None rows (replicate (length rows) None)
none_met all [] = tt
none_met all (row ∷ rows) = (record { by_slot = refl; twice = λ h. absurd (omega (arith, h)) }, none_met all rows)

earlier_kept : (kept : Option NameRow) (row first : NameRow) → IsEarlierRow kept row first → (k : ℕ) → KeptBy kept k → KeptBy (Some first) k
earlier_kept (Some other) row first e k h = let l : first.index ≤ other.index = e.first_before in omega (arith, l, h)
earlier_kept None row first e k h = absurd h

-- What holds with a row kept holds with an earlier one.
each_kept : (all others : AvnFields) (kept later : Option NameRow) (rows : List NameRow) (slots : List (Option ℕ)) → ((k : ℕ) → KeptBy kept k → KeptBy later k) → EachMet all others kept rows slots → EachMet all others later rows slots
each_kept all others kept later [] slots h m = tt
each_kept all others kept later (row ∷ rows) [] h m = absurd m
each_kept all others kept later (row ∷ rows) (slot ∷ slots) h m = (record { by_slot = m.0.by_slot; twice = λ l. h row.index (m.0.twice l) }, each_kept all others kept later rows slots h m.1)

other_times : (id name : List ℕ) (t : AvnTree) (fs : AvnFields) → bytes_eq id name ≡ false → times_present (field id t fs) name ≡ times_present fs name
other_times id name t fs h = let e : times_present (field id t fs) name ≡ 0 + times_present fs name = ap (λ b. (if b then 1 else 0) + times_present fs name) (other_bytes id name h) in omega (arith, e)

same_times : (id name : List ℕ) (t : AvnTree) (fs : AvnFields) → bytes_eq id name ≡ true → times_present (field id t fs) name ≡ 1 + times_present fs name
same_times id name t fs h = ap (λ b. (if b then 1 else 0) + times_present fs name) (same_bytes id name h)

fewer_times : (id name : List ℕ) (t : AvnTree) (fs : AvnFields) → times_present fs name ≤ times_present (field id t fs) name
fewer_times id name t fs = omega arith

-- An entry of none of the names changes nothing.
pub each_other : (all : AvnFields) (id : List ℕ) (t : AvnTree) (fs : AvnFields) (kept : Option NameRow) (rows : List NameRow) (slots : List (Option ℕ)) → is_item (row_names rows) id ≡ false → EachMet all (field id t fs) kept rows slots → EachMet all fs kept rows slots
each_other all id t fs kept [] slots h m = tt
each_other all id t fs kept (row ∷ rows) [] h m = absurd m
each_other all id t fs kept (row ∷ rows) (slot ∷ slots) h m =
    let apart = other_parts (bytes_eq id row.name) (is_item (row_names rows) id) h in
    (subst (λ o. Met (times_present all row.name) o kept row.index slot) (other_times id row.name t fs apart.0) m.0, each_other all id t fs kept rows slots apart.1 m.1)

met_put : (all others : ℕ) (kept : Option NameRow) (index entry : ℕ) (slot : Option ℕ) → Met all (1 + others) kept index slot → ((before : ℕ) → slot ≡ Some before → KeptBy kept index) → Met all others kept index (Some entry)
met_put all others kept index entry None m h = let e : all ≡ 1 + others = m.by_slot in record { by_slot = omega (arith, e); twice = λ l. absurd (omega (arith, l, e)) }
met_put all others kept index entry (Some before) m h = let e : 1 + others < all = m.by_slot in record { by_slot = omega (arith, e); twice = λ l. h before refl }

-- Where the slot at the place holds an entry, a row is kept that is no later than the row there.
abbrev KeptAt : Option NameRow → List NameRow → List (Option ℕ) → ℕ → Type 0
KeptAt kept rows slots k = (row : NameRow) (before : ℕ) → slice_get rows k ≡ Some row → slice_get slots k ≡ Some (Some before) → KeptBy kept row.index

put_here : (all : AvnFields) (id : List ℕ) (t : AvnTree) (fs : AvnFields) (kept : Option NameRow) (row : NameRow) (rows : List NameRow) (slot : Option ℕ) (slots : List (Option ℕ)) (k entry : ℕ) (b : Bool) → bytes_eq id row.name ≡ b → are_distinct (row_names (row ∷ rows)) ≡ true
    → ((j : ℕ) → Some j ≡ place_named bytes_eq (row_names rows) id → KeptAt kept rows slots j → EachMet all fs kept rows (set slots j (Some entry))) → (o : Option ℕ) → o ≡ place_named bytes_eq (row_names rows) id → Some k ≡ (if b then Some 0 else option_map suc o)
    → KeptAt kept (row ∷ rows) (slot ∷ slots) k → EachMet all (field id t fs) kept (row ∷ rows) (slot ∷ slots) → EachMet all fs kept (row ∷ rows) (set (slot ∷ slots) k (Some entry))
put_here all id t fs kept row rows slot slots k entry true h d later o p e twice m =
    let x : ◌≡◌ {A = Option ℕ} (Some k) (Some 0) = e in
    let zeroth : k ≡ 0 = cc x in
    let name = row.name in
    let same : name ≡ id = sym ((bytes_eq-Decides id name).0 h) in
    let apart = (distinct_parts (is_item (row_names rows) name) (are_distinct (row_names rows)) d).0 in
    let first = met_put (times_present all name) (times_present fs name) kept row.index entry slot (subst (λ n. Met (times_present all name) n kept row.index slot) (same_times id name t fs h) m.0) (λ before is. subst (λ j. KeptAt kept (row ∷ rows) (slot ∷ slots) j) zeroth twice row before refl (ap Some is)) in
    subst (λ j. EachMet all fs kept (row ∷ rows) (set (slot ∷ slots) j (Some entry))) (sym zeroth) (first, each_other all id t fs kept rows slots (ap (is_item (row_names rows)) (sym same) ∙ apart) m.1)
put_here all id t fs kept row rows slot slots k entry false h d later None p e twice m = let x : ◌≡◌ {A = Option ℕ} (Some k) None = e in cc x
put_here all id t fs kept row rows slot slots k entry false h d later (Some j) p e twice m =
    let x : ◌≡◌ {A = Option ℕ} (Some k) (Some (suc j)) = e in
    let next : k ≡ suc j = cc x in
    let first = subst (λ n. Met (times_present all row.name) n kept row.index slot) (other_times id row.name t fs h) m.0 in
    subst (λ i. EachMet all fs kept (row ∷ rows) (set (slot ∷ slots) i (Some entry))) (sym next) (first, later j p (subst (λ i. KeptAt kept (row ∷ rows) (slot ∷ slots) i) next twice))

-- An entry that is put at the place of its name is met.
pub each_put : (all : AvnFields) (id : List ℕ) (t : AvnTree) (fs : AvnFields) (kept : Option NameRow) (rows : List NameRow) (slots : List (Option ℕ)) (k entry : ℕ) → are_distinct (row_names rows) ≡ true → Some k ≡ place_named bytes_eq (row_names rows) id → KeptAt kept rows slots k
    → EachMet all (field id t fs) kept rows slots → EachMet all fs kept rows (set slots k (Some entry))
each_put all id t fs kept [] slots k entry d e twice m = tt
each_put all id t fs kept (row ∷ rows) [] k entry d e twice m = absurd m
each_put all id t fs kept (row ∷ rows) (slot ∷ slots) k entry d e twice m =
    let apart = (distinct_parts (is_item (row_names rows) row.name) (are_distinct (row_names rows)) d).1 in
    put_here all id t fs kept row rows slot slots k entry (bytes_eq id row.name) refl d (λ j x y. each_put all id t fs kept rows slots j entry apart x y m.1) (place_named bytes_eq (row_names rows) id) refl e twice m

-- The entry after which the others stand is met, whatever it is.
pub each_more : (all : AvnFields) (id : List ℕ) (t : AvnTree) (fs : AvnFields) (kept later : Option NameRow) (rows : List NameRow) (slots : List (Option ℕ)) (k entry : ℕ) → are_distinct (row_names rows) ≡ true → Some k ≡ place_named bytes_eq (row_names rows) id → Keeps rows slots kept (Some k) later
    → EachMet all (field id t fs) kept rows slots → EachMet all fs later rows (set slots k (Some entry))
each_more all id t fs kept later rows slots k entry d e (Keeps.met_once j at) m =
    each_put all id t fs kept rows slots k entry d e (λ row before here there. let x : ◌≡◌ {A = Option (Option ℕ)} (Some None) (Some (Some before)) = sym at ∙ there in cc x) m
each_more all id t fs kept later rows slots k entry d e (Keeps.met_twice j there row first at here early) m =
    each_put all id t fs (Some first) rows slots k entry d e
    (λ other before is twice. let x : ◌≡◌ {A = Option NameRow} (Some row) (Some other) = sym here ∙ is in let same : row ≡ other = cc x in subst (λ (r : NameRow). first.index ≤ r.index) same early.first)
    (each_kept all (field id t fs) kept (Some first) rows slots (earlier_kept kept row first early) m)

-- The name of the row at the place is that of the entry.
named_here : (id : List ℕ) (row : NameRow) (rows : List NameRow) (k : ℕ) (this : NameRow) (b : Bool) → bytes_eq id row.name ≡ b → ((j : ℕ) → Some j ≡ place_named bytes_eq (row_names rows) id → slice_get rows j ≡ Some this → bytes_eq id this.name ≡ true)
    → (o : Option ℕ) → o ≡ place_named bytes_eq (row_names rows) id → Some k ≡ (if b then Some 0 else option_map suc o) → slice_get (row ∷ rows) k ≡ Some this → bytes_eq id this.name ≡ true
named_here id row rows k this true h later o p e at =
    let x : ◌≡◌ {A = Option ℕ} (Some k) (Some 0) = e in
    let zeroth : k ≡ 0 = cc x in
    let y : ◌≡◌ {A = Option NameRow} (Some row) (Some this) = subst (λ j. slice_get (row ∷ rows) j ≡ Some this) zeroth at in
    let same : row ≡ this = cc y in
    subst (λ (r : NameRow). bytes_eq id r.name ≡ true) same h
named_here id row rows k this false h later None p e at = let x : ◌≡◌ {A = Option ℕ} (Some k) None = e in cc x
named_here id row rows k this false h later (Some j) p e at =
    let x : ◌≡◌ {A = Option ℕ} (Some k) (Some (suc j)) = e in
    let next : k ≡ suc j = cc x in
    later j p (subst (λ i. slice_get (row ∷ rows) i ≡ Some this) next at)

named_at : (rows : List NameRow) (id : List ℕ) (k : ℕ) (this : NameRow) → Some k ≡ place_named bytes_eq (row_names rows) id → slice_get rows k ≡ Some this → bytes_eq id this.name ≡ true
named_at [] id k this e at = let x : ◌≡◌ {A = Option ℕ} (Some k) None = e in cc x
named_at (row ∷ rows) id k this e at = named_here id row rows k this (bytes_eq id row.name) refl (λ j x y. named_at rows id j this x y) (place_named bytes_eq (row_names rows) id) refl e at

-- What was met of the row at a place.
met_at : (all others : AvnFields) (kept : Option NameRow) (rows : List NameRow) (slots : List (Option ℕ)) (k : ℕ) (row : NameRow) (slot : Option ℕ) → EachMet all others kept rows slots → slice_get rows k ≡ Some row → slice_get slots k ≡ Some slot
    → Met (times_present all row.name) (times_present others row.name) kept row.index slot
met_at all others kept [] slots k row slot m at is = let x : ◌≡◌ {A = Option NameRow} None (Some row) = at in cc x
met_at all others kept (r ∷ rows) [] k row slot m at is = absurd m
met_at all others kept (r ∷ rows) (s ∷ slots) zero row slot m at is =
    let x : ◌≡◌ {A = Option NameRow} (Some r) (Some row) = at in
    let y : ◌≡◌ {A = Option (Option ℕ)} (Some s) (Some slot) = is in
    let row_is : r ≡ row = cc x in
    let slot_is : s ≡ slot = cc y in
    subst (λ (f : NameRow). Met (times_present all f.name) (times_present others f.name) kept f.index slot) row_is (subst (λ o. Met (times_present all r.name) (times_present others r.name) kept r.index o) slot_is m.0)
met_at all others kept (r ∷ rows) (s ∷ slots) (suc k) row slot m at is = met_at all others kept rows slots k row slot m.1 at is

kept_fewer : (all : AvnFields) (id : List ℕ) (t : AvnTree) (fs : AvnFields) (rows : List NameRow) (kept : Option NameRow) → KeptIsMet all (field id t fs) rows kept → KeptIsMet all fs rows kept
kept_fewer all id t fs rows None m = tt
kept_fewer all id t fs rows (Some row) m = (m.0, omega (arith, m.1, fewer_times id row.name t fs))

-- An absent entry is none.
pub absent_kept : (all : AvnFields) (id : List ℕ) (fs : AvnFields) (rows : List NameRow) (kept : Option NameRow) → KeptIsMet all (absent id fs) rows kept → KeptIsMet all fs rows kept
absent_kept all id fs rows None m = tt
absent_kept all id fs rows (Some row) m = m

listed : (rows : List NameRow) (k : ℕ) (row : NameRow) → slice_get rows k ≡ Some row → Contains rows row
listed rows k row at = (k, slice_get_within rows k row at, get_or_from_slice_get rows k row row at)

-- The row that is kept once the entry was met.
pub kept_more : (all : AvnFields) (id : List ℕ) (t : AvnTree) (fs : AvnFields) (kept later : Option NameRow) (rows : List NameRow) (slots : List (Option ℕ)) (p : Option ℕ) → p ≡ place_named bytes_eq (row_names rows) id → Keeps rows slots kept p later → EachMet all (field id t fs) kept rows slots
    → KeptIsMet all (field id t fs) rows kept → KeptIsMet all fs rows later
kept_more all id t fs kept later rows slots p e Keeps.passed m k = kept_fewer all id t fs rows kept k
kept_more all id t fs kept later rows slots p e (Keeps.met_once j at) m k = kept_fewer all id t fs rows kept k
kept_more all id t fs kept later rows slots p e (Keeps.met_twice j entry row first at here early) m k = elim early.one [
  | inl is ↦
      let met = met_at all (field id t fs) kept rows slots j row (Some entry) m here at in
      let below : times_present (field id t fs) row.name < times_present all row.name = met.by_slot in
      let more = same_times id row.name t fs (named_at rows id j row e here) in
      subst (λ (r : NameRow). KeptIsMet all fs rows (Some r)) (sym is) (listed rows j row here, omega (arith, below, more))
  | inr is ↦ kept_fewer all id t fs rows (Some first) (subst (KeptIsMet all (field id t fs) rows) is k)
]

twice_or_not : (n : ℕ) (b : Bool) → nat_le 2 n ≡ b → (2 ≤ n → ⊥) → b ≡ false
twice_or_not n false e h = refl
twice_or_not n true e h = absurd (h (leb-true 2 n e))

-- Where no row is kept, no name stands at two entries.
pub none_twice : (all : AvnFields) (rows : List NameRow) (slots : List (Option ℕ)) → EachMet all no_fields None rows slots → AllByRecursion (λ name. nat_le 2 (times_present all name) ≡ false) (row_names rows)
none_twice all [] slots m = tt
none_twice all (row ∷ rows) [] m = absurd m
none_twice all (row ∷ rows) (slot ∷ slots) m = (twice_or_not (times_present all row.name) (nat_le 2 (times_present all row.name)) refl (λ h. m.0.twice h), none_twice all rows slots m.1)

-- A row that is kept is the first whose name stands at two entries.
pub kept_first : (all : AvnFields) (kept : NameRow) (rows : List NameRow) (slots : List (Option ℕ)) → EachMet all no_fields (Some kept) rows slots → AllByRecursion (λ (row : NameRow). nat_le 2 (times_present all row.name) ≡ true → kept.index ≤ row.index) rows
kept_first all kept [] slots m = tt
kept_first all kept (row ∷ rows) [] m = absurd m
kept_first all kept (row ∷ rows) (slot ∷ slots) m = ((λ e. m.0.twice (leb-true 2 (times_present all row.name) e)), kept_first all kept rows slots m.1)

-- What is kept by what the place is, and by what the slot there is.
keeps_passed : {rows : List NameRow} {slots : List (Option ℕ)} {kept later : Option NameRow} {p : Option ℕ} → p ≡ None → later ≡ kept → Keeps rows slots kept p later
keeps_passed {rows} {slots} {kept} none same = rw (none, same) Keeps.passed

keeps_once : {rows : List NameRow} {slots : List (Option ℕ)} {kept later : Option NameRow} {p : Option ℕ} {k : ℕ} (slot : Option ℕ) → p ≡ Some k → slice_get slots k ≡ Some slot → is_some slot ≡ false → later ≡ kept → Keeps rows slots kept p later
keeps_once {k = k} None some at none same = rw (some, same) (Keeps.met_once k at)
keeps_once (Some entry) some at none same = let x : true ≡ false = none in cc x

keeps_twice : {rows : List NameRow} {slots : List (Option ℕ)} {kept later : Option NameRow} {p : Option ℕ} {k : ℕ} (slot : Option ℕ) (row first : NameRow) → p ≡ Some k → slice_get slots k ≡ Some slot → is_some slot ≡ true → slice_get rows k ≡ Some row → IsEarlierRow kept row first → later ≡ Some first → Keeps rows slots kept p later
keeps_twice None row first some at present here early same = let x : false ≡ true = present in cc x
keeps_twice {k = k} (Some entry) row first some at present here early same = rw (some, same) (Keeps.met_twice k entry row first at here early)

-- What is kept, by its place.
pub record KeepsPlace (rows : List NameRow) (slots : List (Option ℕ)) (kept p later : Option ℕ) : Type 0 where
  pub keeps : Keeps rows slots (option_map (row_at rows) kept) p (option_map (row_at rows) later)
  pub within : IfSome later (λ k. k < length rows)

pub place_passed : {rows : List NameRow} {slots : List (Option ℕ)} {kept later p : Option ℕ} → IfSome kept (λ k. k < length rows) → p ≡ None → later ≡ kept → KeepsPlace rows slots kept p later
place_passed {rows} within none same =
    let P : Option ℕ → Type 0 = λ o. IfSome o (λ k. k < length rows) in
    record { keeps = keeps_passed none (ap (option_map (row_at rows)) same); within = subst P (sym same) within }

pub place_once : {rows : List NameRow} {slots : List (Option ℕ)} {kept later p : Option ℕ} {k : ℕ} (slot : Option ℕ) → IfSome kept (λ k. k < length rows) → p ≡ Some k → slice_get slots k ≡ Some slot → is_some slot ≡ false → later ≡ kept → KeepsPlace rows slots kept p later
place_once {rows} slot within some at none same =
    let P : Option ℕ → Type 0 = λ o. IfSome o (λ k. k < length rows) in
    record { keeps = keeps_once slot some at none (ap (option_map (row_at rows)) same); within = subst P (sym same) within }

pub place_twice : {rows : List NameRow} {slots : List (Option ℕ)} {kept later p : Option ℕ} {k : ℕ} (slot : Option ℕ) (first : ℕ) → IfSome kept (λ k. k < length rows) → p ≡ Some k → k < length rows → slice_get slots k ≡ Some slot → is_some slot ≡ true → IsEarlier rows kept k first → later ≡ Some first → KeepsPlace rows slots kept p later
place_twice {rows} {kept = kept} {k = k} slot first within some below at present early same =
    let P : Option ℕ → Type 0 = λ o. IfSome o (λ k. k < length rows) in
    record {
      keeps = keeps_twice slot (row_at rows k) (row_at rows first) some at present (row-there rows k below) (earlier_row rows kept k first early) (ap (option_map (row_at rows)) same);
      within = subst P (sym same) (earlier_within rows kept k first early below within);
    }
