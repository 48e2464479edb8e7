-- Steps of reading the fields of a part that is a SET.
use Rattle.std.proofs.Common.{◌≡◌, refl, ap, sym, ◌∙◌, subst, arith, ℕ, zero, suc, ◌+◌, ◌*◌, ◌<◌, ◌≤◌, List, [], ◌∷◌, map, set, get_or, length, Option, Some, None, true, String, Global, string_bytes}
use Rattle.std.specs.Prelude.{option_map}
use Rattle.std.specs.Global.{Vec}
use Rattle.std.specs.List.{AllByRecursion}
use Rattle.std.proofs.lemmas.List.{length-map}
use Rattle.asn_coding.specs.Answer.{Refuses}
use Rattle.asn_coding.specs.Passing.{ComponentFailsWith}
use Rattle.asn_coding.specs.SetFields.{component_at, listed_components, places_read}
use Rattle.asn_dynamic_reading.specs.Fields.{AreAbsent, field_meant}
use Rattle.asn_dynamic_reading.proofs.FieldSteps.{Member, names_in}
use Rattle.asn_dynamic_reading.proofs.Sequences.{count-shown, field-at, shown}
use Rattle.asn_dynamic_reading.proofs.Sets.{SetRead, member-within, set-finish, set-start, set-step}
use Rattle.asn_dynamic_values.specs.DynView.{dyn_value, members_named, named_value}
use Rattle.asn_dynamic_values.specs.declared.value.DynValue.{DynValue, Members}
use Rattle.asn_dynamic_values.proofs.Views.{view-Members}
use Rattle.asn_fault.specs.Failure.{Failure}
use Rattle.asn_model.specs.Components.{Component, component_names}
use Rattle.asn_model.specs.DecodesTo.{DecodesTo}
use Rattle.asn_model.specs.FailsWith.{FailsWith}
use Rattle.asn_model.specs.Notation.{Notation}
use Rattle.asn_model.specs.Readable.{is_readable}
use Rattle.asn_model.specs.Shape.{FieldAdditions, Fields, SeqKind, Shape, are_distinct}
use Rattle.asn_model.specs.Tree.{Slot, head_nodes, head_slot}
use Rattle.asn_model.specs.Value.{Value}
use Rattle.asn_names.specs.Rows.{NameRow, row_names}
use Rattle.asn_parts.specs.Names.{rows_at}
use Rattle.asn_parts.specs.Parts.{component_of}
use Rattle.asn_parts.specs.declared.part.PartField.{PartField}
use Rattle.asn_parts.specs.Bodies.{IsReadablePart, loops_of, meant}
use Rattle.asn_parts.specs.Closed.{closed, closed_added_fields, closed_fields}
use Rattle.asn_parts.specs.Listed.{Place, TakesComponent, closed_component, fields_in, place_rows, places_in}
use Rattle.asn_coding.specs.Opening.{PutsMembers}
use Rattle.asn_coding.specs.Tables.{ListsFields}
use Rattle.asn_parts.proofs.Costs.{cost}
use Rattle.asn_parts.proofs.Repeats.{places-list}
use Rattle.asn_parts.proofs.Fields.{IsNext, Stands, field-cheaper, field-refused, is-next, places-stand, rows-distinct}
use Rattle.asn_parts.proofs.Sets.{places-closed}

numbers-closed : (env : List Shape) (ps : List Place) → map (λ (p : Place). p.0) (map (λ (p : Place). let q : Place = (p.0, closed_component env p.1) in q) ps) ≡ map (λ (p : Place). p.0) ps
numbers-closed env [] = refl
numbers-closed env (p ∷ ps) = ap (λ l. p.0 ∷ l) (numbers-closed env ps)

name-at : (cs : List Component) (k : ℕ) (c : Component) → component_at cs k ≡ Some c → get_or (component_names cs) k [] ≡ c.name
name-at [] k c e = let d : ◌≡◌ {A = Option Component} None (Some c) = e in cc d
name-at (d ∷ cs) zero c e = let s : ◌≡◌ {A = Option Component} (Some d) (Some c) = e in let is : d ≡ c = cc s in ap (λ (x : Component). x.name) is
name-at (d ∷ cs) (suc k) c e = name-at cs k c e

rows-placed : (cs : List Component) (ps : List Place) → AllByRecursion (Stands cs) ps → rows_at (component_names cs) (map (λ (p : Place). p.0) ps) ≡ place_rows ps
rows-placed cs [] all = refl
rows-placed cs (p ∷ ps) (one, all) = (λ i. record { index = p.0; name = name-at cs p.0 p.1 one i } ∷ rows-placed cs ps all i)

number-at : (ps : List Place) (i : ℕ) (d : Place) (e : ℕ) → i < length ps → (get_or ps i d).0 ≡ get_or (map (λ (p : Place). p.0) ps) i e
number-at [] i d e h = absurd (omega (arith, h))
number-at (p ∷ ps) zero d e h = refl
number-at (p ∷ ps) (suc i) d e h = number-at ps i d e (omega (arith, h))

at-within : (cs : List Component) (k : ℕ) (c : Component) → component_at cs k ≡ Some c → k < length cs
at-within [] k c e = let d : ◌≡◌ {A = Option Component} None (Some c) = e in cc d
at-within (d ∷ cs) zero c e = omega arith
at-within (d ∷ cs) (suc k) c e = omega (arith, at-within cs k c e)

stands-within : (cs : List Component) (ps : List Place) (i e : ℕ) → AllByRecursion (Stands cs) ps → i < length ps → get_or (map (λ (p : Place). p.0) ps) i e < length cs
stands-within cs [] i e all h = absurd (omega (arith, h))
stands-within cs (p ∷ ps) zero e (one, all) h = at-within cs p.0 p.1 one
stands-within cs (p ∷ ps) (suc i) e (one, all) h = stands-within cs ps i e all (omega (arith, h))

module _ {P : Type 0} (shape : List P → P → Shape) (bodies : List P) (part : P) (names : component_names (fields_in (shape bodies part)) ≡ component_names (fields_in (shape [] part))) (fs : Fields) (added : FieldAdditions) (is : shape bodies part ≡ Shape.seq SeqKind.set fs added)
    (order : List ℕ) (ordered : order ≡ map (λ p. p.0) (places_read fs added)) where
  abbrev env : List Shape
  env = loops_of shape bodies

  abbrev F : Fields
  F = closed_fields 0 env fs

  abbrev A : FieldAdditions
  A = closed_added_fields 0 env added

  abbrev S : Shape
  S = Shape.seq SeqKind.set F A

  same : S ≡ meant shape bodies part
  same = sym (ap (closed env) is)

  numbers : order ≡ map (λ (p : Place). p.0) (places_in S)
  numbers = ordered ∙ sym (ap (map (λ (p : Place). p.0)) (places-closed env fs added) ∙ numbers-closed env (places_read fs added))

  as-long : length order ≡ length (places_in S)
  as-long = ap length numbers ∙ length-map (places_in S) (λ (p : Place). p.0)

  pub set-rows : rows_at (component_names (fields_in (shape [] part))) order ≡ place_rows (places_in S)
  set-rows = (λ i. rows_at (shown shape bodies part names fs added SeqKind.set is i) (numbers i)) ∙ rows-placed (listed_components F A) (places_in S) (places-stand SeqKind.set F A)

  pub set-distinct : IsReadablePart shape bodies part → are_distinct (row_names (rows_at (component_names (fields_in (shape [] part))) order)) ≡ true
  set-distinct p = ap (λ rows. are_distinct (row_names rows)) set-rows ∙ rows-distinct SeqKind.set F A (ap is_readable same ∙ p.1)

  -- Any refusal of the opening.
  pub set-unopened : (n : Notation) (before : List Slot) (e : Failure)
      → ((fs : Fields) (added : FieldAdditions) → ListsFields (rows_at (component_names (fields_in (shape [] part))) order) fs added → Refuses n (FailsWith n (Shape.seq SeqKind.set fs added) (head_slot before)) e) → Refuses n (FailsWith n (meant shape bodies part) (head_slot before)) e
  set-unopened n before e h =
      subst (λ s. Refuses n (FailsWith n s (head_slot before)) e) same (h F A (subst (λ rows. ListsFields rows F A) (sym set-rows) (places-list SeqKind.set F A)))

  pub set-opened : (n : Notation) (before now : List Slot) (members : List Member) → PutsMembers n (rows_at (component_names (fields_in (shape [] part))) order) before now → names_in members ≡ component_names (fields_in (shape [] part)) → SetRead n (meant shape bodies part) before 0 members now
  set-opened n before now members puts e =
      subst (λ s. SetRead n s before 0 members now) same
      (set-start (subst (λ rows. PutsMembers n rows before now) set-rows puts) (e ∙ shown shape bodies part names fs added SeqKind.set is))

  -- Each place of the order is that of a field.
  pub order-within : (i d : ℕ) → i < length order → get_or order i d < length (fields_in (shape [] part))
  order-within i d h =
      let q = stands-within (listed_components F A) (places_in S) i d (places-stand SeqKind.set F A) (omega (arith, h, as-long)) in
      let e = ap (λ l. get_or l i d) numbers in
      let count = count-shown shape bodies part names fs added SeqKind.set is in
      omega (arith, q, e, count)

  module _ (n : Notation) (before : List Slot) (i : ℕ) (members : List Member) (now : List Slot) (r : SetRead n (meant shape bodies part) before i members now) where
    read : SetRead n S before i members now
    read = subst (λ s. SetRead n s before i members now) (sym same) r

    module _ (k : ℕ) (field : PartField P) (h : i < length order) (here : k ≡ get_or order i k) (at : component_at (fields_in (shape bodies part)) k ≡ Some (component_of (shape bodies) field)) where
      next : IsNext S i (k, field_meant shape bodies field)
      next =
          let long = as-long in
          let below : i < length (places_in S) = omega (arith, h, long) in
          is-next SeqKind.set F A i k (k, field_meant shape bodies field) (field_meant shape bodies field) below
          (number-at (places_in S) i (k, field_meant shape bodies field) k below ∙ sym (ap (λ l. get_or l i k) numbers) ∙ sym here)
          (field-at shape bodies part names fs added SeqKind.set is field k at)

      within : k < length (listed_components F A)
      within = at-within (listed_components F A) k (field_meant shape bodies field) (field-at shape bodies part names fs added SeqKind.set is field k at)

      -- The field costs less than the SET.
      pub set-less : 5 * cost (head_nodes now) (meant shape bodies field.part) + 5 < 5 * cost (head_nodes before) (meant shape bodies part) + 2
      set-less =
          let inner = read in
          let q = field-cheaper SeqKind.set F A (k, field_meant shape bodies field) next inner.read in
          let e = ap (cost (head_nodes before)) same in
          omega (arith, q, e)

      pub set-place : k < length members
      set-place = member-within F A read (k, field_meant shape bodies field) within

      pub set-more : (m : Member) (after : List Slot) → string_bytes m.0 ≡ string_bytes (get_or members k m).0 → TakesComponent n (field_meant shape bodies field) now (option_map dyn_value m.1) after → SetRead n (meant shape bodies part) before (i + 1) (set members k m) after
      set-more m after name t = subst (λ s. SetRead n s before (i + 1) (set members k m) after) same (set-step F A read (k, field_meant shape bodies field) m after next within name t)

      pub set-refused : (e : Failure) → (let c = field_meant shape bodies field in Refuses n (ComponentFailsWith n c.presence c.standing c.shape c.name now) e) → Refuses n (FailsWith n (meant shape bodies part) (head_slot before)) e
      set-refused e h =
          let inner = read in
          subst (λ s. Refuses n (FailsWith n s (head_slot before)) e) same (field-refused SeqKind.set F A inner.read (k, field_meant shape bodies field) next e h)

    pub set-done : (v : Vec (String Global × Option DynValue)) → v.items ≡ members → length order ≤ i → (slot : Slot) × (before ≡ slot ∷ now) × DecodesTo n (meant shape bodies part) slot (dyn_value (Members v))
    set-done v e h =
        let long = as-long in
        let done = set-finish F A read (omega (arith, h, long)) in (
          done.0,
          done.1,
          subst (λ s. DecodesTo n s done.0 (dyn_value (Members v))) same
              (subst (DecodesTo n S done.0) (sym (view-Members v ∙ ap (λ l. Value.members (members_named (map named_value l))) e)) done.2),
        )
