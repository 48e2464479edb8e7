-- What is read of the fields of a SEQUENCE or SET, one after another.
use Rattle.std.proofs.Common.{◌≡◌, refl, ap, sym, ◌∙◌, subst, arith, ℕ, zero, suc, ◌+◌, ◌<◌, ◌≤◌, ◌&&◌, List, [], ◌∷◌, ◌++◌, map, take, drop, get_or, length, Option, Some, None, true}
use Rattle.std.proofs.lemmas.List.{length-map, length-take-le, map-append}
use Rattle.std.specs.List.{AllByRecursion}
use Rattle.asn_coding.specs.Answer.{Refuses}
use Rattle.asn_coding.specs.FieldAnswer.{Ahead, TakesDefault, TakesField, TakesSlot}
use Rattle.asn_coding.specs.Opening.{AllBelow, PutsMembers}
use Rattle.asn_coding.specs.Passing.{ComponentFailsWith, RefusesFields, TakesFields}
use Rattle.asn_coding.specs.ReadingSlots.{slots_read}
use Rattle.asn_coding.specs.SetFields.{additions_of, component_at, listed_components, placed}
use Rattle.asn_coding.specs.Writing.{Frame, members_value}
use Rattle.asn_coding.proofs.ReadingOrder.{fields_from, fields-read}
use Rattle.asn_coding.proofs.SetReading.{SetRead, set_ends, set_starts, set_steps, set_stops}
use Rattle.asn_coding.proofs.TagOrder.{all-stand, parts-read, read-distinct, with-additions}
use Rattle.asn_fault.specs.Failure.{Failure}
use Rattle.asn_model.specs.Components.{Component, Standing, component_names, components, reading_order}
use Rattle.asn_model.specs.DecodesTo.{DecodesTo}
use Rattle.asn_model.specs.FailsWith.{FailsWith}
use Rattle.asn_model.specs.Notation.{Notation}
use Rattle.asn_model.specs.Readable.{is_readable, are_fields_readable, suits}
use Rattle.asn_model.specs.Shape.{Shape, SeqKind, Fields, FieldAdditions, all_fields, are_distinct, join_fields}
use Rattle.asn_model.specs.Tree.{Slot, head_nodes, head_slot, slot_nodes}
use Rattle.asn_model.specs.Value.{Value}
use Rattle.asn_model.proofs.Readables.{and-left, and-right, fields_read}
use Rattle.asn_names.specs.Rows.{NameRow, row_names}
use Rattle.asn_parts.specs.Closed.{closed, closed_fields, closed_added_fields}
use Rattle.asn_parts.specs.Listed.{Place, TakesComponent, closed_component, fields_in, place_rows, places_in}
use Rattle.asn_parts.proofs.Costs.{cost, fields_cost, added_fields_cost, more-nodes}
use Rattle.asn_coding.proofs.Members.{members_read, members_refused}

-- The fields of a shape within loops are its fields within them.
pub components-closed : (env : List Shape) (at : Standing) (fs : Fields) → components at (closed_fields 0 env fs) ≡ map (closed_component env) (components at fs)
components-closed env at Fields.no_fields = refl
components-closed env at (Fields.field n t p s fs) = ap (λ cs. record { name = n; tag = t; presence = p; shape = closed env s; standing = at } ∷ cs) (components-closed env at fs)

pub additions-closed : (env : List Shape) (added : FieldAdditions) → additions_of (closed_added_fields 0 env added) ≡ map (closed_component env) (additions_of added)
additions-closed env FieldAdditions.closed_fields = refl
additions-closed env (FieldAdditions.extended_fields fs) = components-closed env Standing.addition fs

pub listed-closed : (env : List Shape) (fs : Fields) (added : FieldAdditions) → listed_components (closed_fields 0 env fs) (closed_added_fields 0 env added) ≡ map (closed_component env) (listed_components fs added)
listed-closed env fs added =
    let a = components-closed env Standing.root fs in
    let b = additions-closed env added in
    (λ i. a i ++ b i) ∙ sym (map-append (closed_component env) (components Standing.root fs) (additions_of added))

same-some : {A : Type 0} {x y : A} → ◌≡◌ {A = Option A} (Some x) (Some y) → x ≡ y
same-some e = cc e

-- A component within loops stands where it stood.
pub component-closed : (env : List Shape) (cs : List Component) (k : ℕ) (c : Component) → component_at cs k ≡ Some c → component_at (map (closed_component env) cs) k ≡ Some (closed_component env c)
component-closed env [] k c e = let d : ◌≡◌ {A = Option Component} None (Some c) = e in cc d
component-closed env (d ∷ cs) zero c e = ap (λ x. Some (closed_component env x)) (same-some e)
component-closed env (d ∷ cs) (suc k) c e = component-closed env cs k c e

pub fields-listed : (fs : Fields) (added : FieldAdditions) → fields_from (listed_components fs added) ≡ all_fields fs added
fields-listed fs added = ap fields_from (sym (with-additions (components Standing.root fs) added)) ∙ fields-read fs added

component-readable : (cs : List Component) (k : ℕ) (c : Component) → are_fields_readable 0 (fields_from cs) ≡ true → component_at cs k ≡ Some c → is_readable c.shape ≡ true
component-readable [] k c all e = let d : ◌≡◌ {A = Option Component} None (Some c) = e in cc d
component-readable (d ∷ cs) zero c all e =
    let first = and-left (suits d.presence d.shape && is_readable d.shape) (are_fields_readable 0 (fields_from cs)) all in
    ap (λ (x : Component). is_readable x.shape) (sym (same-some e)) ∙ and-right (suits d.presence d.shape) (is_readable d.shape) first
component-readable (d ∷ cs) (suc k) c all e = component-readable cs k c (and-right (suits d.presence d.shape && is_readable d.shape) (are_fields_readable 0 (fields_from cs)) all) e

component-costs : (f : Shape → ℕ) (cs : List Component) (k : ℕ) (c : Component) → component_at cs k ≡ Some c → f c.shape < fields_cost f (fields_from cs)
component-costs f [] k c e = let d : ◌≡◌ {A = Option Component} None (Some c) = e in cc d
component-costs f (d ∷ cs) zero c e = let q : f d.shape ≡ f c.shape = ap (λ (x : Component). f x.shape) (same-some e) in omega (arith, q)
component-costs f (d ∷ cs) (suc k) c e = let q = component-costs f cs k c e in omega (arith, q)

joined-cost : (f : Shape → ℕ) (fs more : Fields) → fields_cost f (join_fields fs more) ≡ fields_cost f fs + fields_cost f more
joined-cost f Fields.no_fields more = omega arith
joined-cost f (Fields.field n t p s fs) more = omega (arith, joined-cost f fs more)

all-cost : (f : Shape → ℕ) (fs : Fields) (added : FieldAdditions) → fields_cost f (all_fields fs added) ≡ fields_cost f fs + added_fields_cost f added
all-cost f fs FieldAdditions.closed_fields = omega arith
all-cost f fs (FieldAdditions.extended_fields more) = joined-cost f fs more

-- A field costs less than the SEQUENCE or SET.
pub field-costs : (m n : ℕ) (kind : SeqKind) (fs : Fields) (added : FieldAdditions) (k : ℕ) (c : Component) → m < n → component_at (listed_components fs added) k ≡ Some c → cost m c.shape < cost n (Shape.seq kind fs added)
field-costs m zero kind fs added k c h e = absurd (omega (arith, h))
field-costs m (suc n) kind fs added k c h e =
    let q = component-costs (cost n) (listed_components fs added) k c e in
    let r = ap (fields_cost (cost n)) (fields-listed fs added) ∙ all-cost (cost n) fs added in
    let l = more-nodes m n c.shape (omega (arith, h)) in
    omega (arith, q, r, l)

parts-placed : (k : ℕ) (cs : List Component) → map (λ p. p.1) (placed k cs) ≡ cs
parts-placed k [] = refl
parts-placed k (c ∷ cs) = ap (λ l. c ∷ l) (parts-placed (suc k) cs)

-- The components with their places are those that are read.
pub parts-in : (kind : SeqKind) (fs : Fields) (added : FieldAdditions) → map (λ p. p.1) (places_in (Shape.seq kind fs added)) ≡ reading_order kind fs added
parts-in SeqKind.sequence fs added = parts-placed 0 (listed_components fs added) ∙ sym (with-additions (components Standing.root fs) added)
parts-in SeqKind.set fs added = parts-read fs added

names-of_rows : (ps : List Place) → row_names (place_rows ps) ≡ component_names (map (λ p. p.1) ps)
names-of_rows [] = refl
names-of_rows (p ∷ ps) = ap (λ l. p.1.name ∷ l) (names-of_rows ps)

-- Their names are those of the components that are read.
pub rows-in : (kind : SeqKind) (fs : Fields) (added : FieldAdditions) → row_names (place_rows (places_in (Shape.seq kind fs added))) ≡ component_names (reading_order kind fs added)
rows-in kind fs added = names-of_rows (places_in (Shape.seq kind fs added)) ∙ ap component_names (parts-in kind fs added)

-- The names of the fields of a shape that can be read are distinct, in whatever order they are read.
pub rows-distinct : (kind : SeqKind) (fs : Fields) (added : FieldAdditions) → is_readable (Shape.seq kind fs added) ≡ true → are_distinct (row_names (place_rows (places_in (Shape.seq kind fs added)))) ≡ true
rows-distinct kind fs added e = let read = fields_read kind fs added e in ap are_distinct (rows-in kind fs added) ∙ read-distinct kind fs added ∙ read.distinct

abbrev pub Stands : List Component → Place → Type 0
Stands cs p = component_at cs p.0 ≡ Some p.1

stands-later : (c : Component) (cs : List Component) (k : ℕ) (ds : List Component) → AllByRecursion (Stands cs) (placed k ds) → AllByRecursion (Stands (c ∷ cs)) (placed (suc k) ds)
stands-later c cs k [] all = tt
stands-later c cs k (d ∷ ds) (one, all) = (one, stands-later c cs (suc k) ds all)

stands-all : (cs : List Component) → AllByRecursion (Stands cs) (placed 0 cs)
stands-all [] = tt
stands-all (c ∷ cs) = (refl, stands-later c cs 0 cs (stands-all cs))

pub places-stand : (kind : SeqKind) (fs : Fields) (added : FieldAdditions) → AllByRecursion (Stands (listed_components fs added)) (places_in (Shape.seq kind fs added))
places-stand SeqKind.sequence fs added = stands-all (listed_components fs added)
places-stand SeqKind.set fs added = all-stand fs added

abbrev place_of : Component → ℕ → Place
place_of c k = (k, c)

-- The component at the place that is read next.
stands-at : (cs : List Component) (ps : List Place) (i : ℕ) (d : Place) (c : Component) → AllByRecursion (Stands cs) ps → i < length ps → component_at cs (get_or ps i d).0 ≡ Some c → get_or ps i d ≡ ((get_or ps i d).0, c)
stands-at cs [] i d c all h e = absurd (omega (arith, h))
stands-at cs (p ∷ ps) zero d c (one, all) h e = let same : p.1 ≡ c = same-some (sym one ∙ e) in ap (λ (x : Component). place_of x p.0) same
stands-at cs (p ∷ ps) (suc i) d c (one, all) h e = stands-at cs ps i d c all (omega (arith, h)) e

same-default : {A : Type 0} (xs : List A) (i : ℕ) (d e : A) → i < length xs → get_or xs i d ≡ get_or xs i e
same-default [] i d e h = absurd (omega (arith, h))
same-default (x ∷ xs) zero d e h = refl
same-default (x ∷ xs) (suc i) d e h = same-default xs i d e (omega (arith, h))

-- The place that is read at a step, with its component.
pub record IsNext (s : Shape) (i : ℕ) (p : Place) : Type 0 where
  pub below : i < length (places_in s)
  pub at : p ≡ get_or (places_in s) i p
  pub stands : component_at (fields_in s) p.0 ≡ Some p.1

pub is-next : (kind : SeqKind) (fs : Fields) (added : FieldAdditions) (i k : ℕ) (d : Place) (c : Component) → i < length (places_in (Shape.seq kind fs added)) → (get_or (places_in (Shape.seq kind fs added)) i d).0 ≡ k
    → component_at (listed_components fs added) k ≡ Some c → IsNext (Shape.seq kind fs added) i (k, c)
is-next kind fs added i k d c h same e =
    let ps = places_in (Shape.seq kind fs added) in
    let there = stands-at (listed_components fs added) ps i d c (places-stand kind fs added) h (ap (component_at (listed_components fs added)) same ∙ e) in
    record { below = h; at = sym (sym (same-default ps i d (k, c) h) ∙ there ∙ ap (place_of c) same); stands = e }

placed-number : (cs : List Component) (j i : ℕ) (d : Place) → i < length (placed j cs) → (get_or (placed j cs) i d).0 ≡ j + i
placed-number [] j i d h = absurd (omega (arith, h))
placed-number (c ∷ cs) j zero d h = omega arith
placed-number (c ∷ cs) j (suc i) d h = let q = placed-number cs (suc j) i d (omega (arith, h)) in omega (arith, q)

placed-count : (j : ℕ) (cs : List Component) → length (placed j cs) ≡ length cs
placed-count j [] = refl
placed-count j (c ∷ cs) = ap suc (placed-count (suc j) cs)

-- The fields of a SEQUENCE are read in their order.
pub next-field : (fs : Fields) (added : FieldAdditions) (i : ℕ) (c : Component) → i < length (listed_components fs added) → component_at (listed_components fs added) i ≡ Some c → IsNext (Shape.seq SeqKind.sequence fs added) i (i, c)
next-field fs added i c h e =
    let cs = listed_components fs added in
    let below : i < length (placed 0 cs) = omega (arith, h, placed-count 0 cs) in
    let number : 0 + i ≡ i = omega arith in
    is-next SeqKind.sequence fs added i i (i, c) c below (placed-number cs 0 i (i, c) below ∙ number) e

gone-slot : {n : Notation} {s : Shape} {o : Option Value} (before after : List Slot) (k : ℕ) → TakesSlot n s before after o → drop k after ≡ drop (suc k) before
gone-slot before after k (TakesSlot.takes_value slot v shown says) = ap (drop (suc k)) (sym shown)
gone-slot before after k (TakesSlot.takes_nothing shown) = ap (drop (suc k)) (sym shown)

abbrev slots_in : Ahead → List Slot
slots_in (Ahead.ahead names slots) = slots

-- The slots of components that are taken are gone.
gone : {n : Notation} {cs : List Component} {ss : Frame} {a b : Ahead} → TakesFields n cs ss a b → slots_in b ≡ drop (length cs) (slots_in a)
gone TakesFields.takes_none = refl
gone (TakesFields.takes_next {rest = rest} (TakesField.takes_field {before = before} {after = after} t others) more a) = gone more ∙ gone-slot before after (length rest) t
gone (TakesFields.takes_default {rest = rest} (TakesDefault.takes_own (TakesField.takes_field {before = before} {after = after} t others)) more is plain) = gone more ∙ gone-slot before after (length rest) t
gone (TakesFields.takes_default {rest = rest} (TakesDefault.takes_standing (TakesField.takes_field {before = before} {after = after} t others) same) more is plain) = gone more ∙ gone-slot before after (length rest) t

head-below : (m i : ℕ) (slots rest : List Slot) → AllBelow m slots → i < length slots → head_nodes (drop i (slots ++ rest)) < m
head-below m i [] rest below h = absurd (omega (arith, h))
head-below m zero (x ∷ xs) rest below h = below.0
head-below m (suc i) (x ∷ xs) rest below h = head-below m i xs rest below.1 (omega (arith, h))

-- A place, and what is kept of the field there.
abbrev pub Kept : Type 0
Kept = ℕ × Option Value

-- Of the fields of an open SEQUENCE or SET so many are read.
pub record FieldsRead (n : Notation) (s : Shape) (before : List Slot) (i : ℕ) (kept : List Kept) (now : List Slot) : Type 0 where
  pub opened : List Slot
  pub puts : PutsMembers n (place_rows (places_in s)) before opened
  pub read : SetRead n (λ (p : Kept). p.0) (λ (p : Kept). p.1) (places_in s) opened i kept now

pub fields-start : {n : Notation} {s : Shape} {before now : List Slot} → PutsMembers n (place_rows (places_in s)) before now → FieldsRead n s before 0 [] now
fields-start {now = now} puts = record { opened = now; puts = puts; read = set_starts }

module _ {n : Notation} {s : Shape} {before : List Slot} {i : ℕ} {kept : List Kept} {now : List Slot} (p : Place) (next : IsNext s i p) (r : FieldsRead n s before i kept now) where
  -- One more is read.
  pub field-step : (o : Option Value) (after : List Slot) → TakesComponent n p.1 now o after → FieldsRead n s before (i + 1) (kept ++ (p.0, o) ∷ []) after
  field-step o after t = record {
    opened = r.opened;
    puts = r.puts;
    read = set_steps i p kept (p.0, o) now after next.below next.at r.read {k = p.0} refl (record { place = refl; read = t.read; taken = t.taken; allowed = t.allowed; is = t.is });
  }

  -- Its slot has fewer nodes than the one that is opened.
  pub field-less : head_nodes now < head_nodes before
  field-less = by r.puts
    where
      left : now ≡ drop i r.opened
      left = gone r.read.taken ∙ ap (λ k. drop k r.opened) (length-map (take i (places_in s)) (λ (q : Place). q.1) ∙ length-take-le i (places_in s) (let h = next.below in omega (arith, h)))

      by : PutsMembers n (place_rows (places_in s)) before r.opened → head_nodes now < head_nodes before
      by (slot, slots, rest, was, is, count, below, has) =
          let all = count ∙ length-map (places_in s) (λ (q : Place). let row : NameRow = record { index = q.0; name = q.1.name } in row) in
          let h = next.below in
          rw (was, left, is) (head-below (slot_nodes slot) i slots rest below (omega (arith, h, all)))

-- It costs less than the SEQUENCE or SET.
pub field-cheaper : {n : Notation} {before : List Slot} {i : ℕ} {kept : List Kept} {now : List Slot} (kind : SeqKind) (fs : Fields) (added : FieldAdditions) (p : Place) → IsNext (Shape.seq kind fs added) i p → FieldsRead n (Shape.seq kind fs added) before i kept now
    → cost (head_nodes now) p.1.shape < cost (head_nodes before) (Shape.seq kind fs added)
field-cheaper {before = before} {now = now} kind fs added p next r = field-costs (head_nodes now) (head_nodes before) kind fs added p.0 p.1 (field-less p next r) next.stands

-- It can be read.
pub field-readable : (kind : SeqKind) (fs : Fields) (added : FieldAdditions) (k : ℕ) (c : Component) → is_readable (Shape.seq kind fs added) ≡ true → component_at (listed_components fs added) k ≡ Some c → is_readable c.shape ≡ true
field-readable kind fs added k c e at =
    let read = fields_read kind fs added e in
    component-readable (listed_components fs added) k c (ap (are_fields_readable 0) (fields-listed fs added) ∙ read.parts) at

module _ {n : Notation} {before : List Slot} {i : ℕ} {kept : List Kept} {now : List Slot} (kind : SeqKind) (fs : Fields) (added : FieldAdditions) (r : FieldsRead n (Shape.seq kind fs added) before i kept now) where
  abbrev ps : List Place
  ps = places_in (Shape.seq kind fs added)

  -- The next one is refused.
  pub field-refused : (p : Place) → IsNext (Shape.seq kind fs added) i p → (e : Failure) → Refuses n (ComponentFailsWith n p.1.presence p.1.standing p.1.shape p.1.name now) e → Refuses n (FailsWith n (Shape.seq kind fs added) (head_slot before)) e
  field-refused p next e h =
      let stops = set_stops i p kept now next.below next.at r.read h in
      members_refused kind fs added (place_rows ps) (rows-in kind fs added) (ap component_names (parts-in kind fs added)) r.puts
      (subst (λ cs. RefusesFields n cs (Ahead.ahead (component_names (map (λ (q : Place). q.1) ps)) r.opened) e) (parts-in kind fs added) stops)

  -- All are read.
  pub fields-finish : length ps ≤ i → (ss : Frame) → slots_read kind fs ss ≡ map (λ (q : Kept). q.1) kept → (slot : Slot) × (before ≡ slot ∷ now) × DecodesTo n (Shape.seq kind fs added) slot (members_value (all_fields fs added) ss)
  fields-finish h ss is =
      let start = Ahead.ahead (component_names (map (λ (q : Place). q.1) ps)) r.opened in
      let end = Ahead.ahead (component_names (map (λ (q : Place). q.1) (drop i ps))) now in
      let taken = subst (λ cs. TakesFields n cs (map (λ (q : Kept). q.1) kept) start end) (parts-in kind fs added) (set_ends i kept now h r.read) in
      members_read kind fs added (place_rows ps) ss (rows-in kind fs added) r.puts (subst (λ f. TakesFields n (reading_order kind fs added) f start end) (sym is) taken)
