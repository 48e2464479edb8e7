-- Steps of reading the fields of a part that is a SEQUENCE or SET.
use Rattle.std.proofs.Common.{◌≡◌, refl, ap, sym, ◌∙◌, subst, arith, ℕ, zero, suc, ◌+◌, ◌*◌, ◌<◌, ◌≤◌, List, [], ◌∷◌, ◌++◌, map, set, get_or, length, Option, Some, None, Ok, true, String, Global, string_bytes}
use Rattle.std.specs.Prelude.{option_map}
use Rattle.std.specs.Global.{Vec}
use Rattle.std.proofs.lemmas.List.{length-map}
use Rattle.asn_coding.specs.Answer.{AnswerBy, Refuses}
use Rattle.asn_coding.specs.Passing.{ComponentFailsWith}
use Rattle.asn_coding.specs.SetFields.{component_at, listed_components, placed, places_read}
use Rattle.asn_dynamic_faults.specs.DynFailure.{dyn_failure}
use Rattle.asn_dynamic_reading.specs.Fields.{AreAbsent, field_meant}
use Rattle.asn_dynamic_reading.proofs.FieldSteps.{Member, SequenceRead, names_in, sequence-finish, sequence-start, sequence-step}
use Rattle.asn_dynamic_reading.proofs.Sets.{SetRead, set-finish, set-start, set-step}
use Rattle.asn_dynamic_values.specs.DynView.{dyn_value, members_named, named_value}
use Rattle.asn_dynamic_values.specs.declared.value.DynValue.{DynValue, Members}
use Rattle.asn_dynamic_values.proofs.Views.{view-Members}
use Rattle.asn_fault.specs.Failure.{Failure}
use Rattle.asn_model.specs.Components.{Component, component_names}
use Rattle.asn_model.specs.DecodesTo.{DecodesTo}
use Rattle.asn_model.specs.FailsWith.{FailsWith}
use Rattle.asn_model.specs.Notation.{Notation}
use Rattle.asn_model.specs.Readable.{is_readable}
use Rattle.asn_model.specs.Shape.{FieldAdditions, Fields, SeqKind, Shape, are_distinct}
use Rattle.asn_model.specs.Tree.{Slot, head_nodes, head_slot}
use Rattle.asn_model.specs.Value.{Value}
use Rattle.asn_names.specs.Rows.{NameRow, row_names}
use Rattle.asn_parts.specs.Parts.{component_of}
use Rattle.asn_parts.specs.declared.part.PartField.{PartField}
use Rattle.asn_parts.specs.Bodies.{IsReadablePart, loops_of, meant}
use Rattle.asn_parts.specs.Closed.{closed, closed_added_fields, closed_fields}
use Rattle.asn_parts.specs.Listed.{Place, TakesComponent, closed_component, fields_in, place_rows, places_in}
use Rattle.asn_coding.specs.Opening.{PutsMembers}
use Rattle.asn_coding.specs.Tables.{ListsFields, numbered}
use Rattle.asn_parts.proofs.Costs.{cost}
use Rattle.asn_parts.proofs.Repeats.{places-list}
use Rattle.asn_parts.proofs.Fields.{FieldsRead, IsNext, component-closed, field-cheaper, field-readable, field-refused, listed-closed, next-field, rows-distinct}

rows-placed : (k : ℕ) (cs : List Component) → numbered k (component_names cs) ≡ place_rows (placed k cs)
rows-placed k [] = refl
rows-placed k (c ∷ cs) = ap (λ l. record { index = k; name = c.name } ∷ l) (rows-placed (suc k) cs)

names-closed : (env : List Shape) (cs : List Component) → component_names (map (closed_component env) cs) ≡ component_names cs
names-closed env [] = refl
names-closed env (c ∷ cs) = ap (λ l. c.name ∷ l) (names-closed env cs)

as-many : (cs ds : List Component) → component_names cs ≡ component_names ds → length cs ≡ length ds
as-many cs ds e = sym (length-map cs (λ (c : Component). c.name)) ∙ ap length e ∙ length-map ds (λ (c : Component). c.name)

placed-count : (j : ℕ) (cs : List Component) → length (placed j cs) ≡ length cs
placed-count j [] = refl
placed-count j (c ∷ cs) = ap suc (placed-count (suc j) cs)

module _ {P : Type 0} (shape : List P → P → Shape) (bodies : List P) (part : P) (names : component_names (fields_in (shape bodies part)) ≡ component_names (fields_in (shape [] part))) (fs : Fields) (added : FieldAdditions) where
  abbrev env : List Shape
  env = loops_of shape bodies

  abbrev F : Fields
  F = closed_fields 0 env fs

  abbrev A : FieldAdditions
  A = closed_added_fields 0 env added

  -- The names of the fields, as the part shows them.
  pub shown : (kind : SeqKind) → shape bodies part ≡ Shape.seq kind fs added → component_names (fields_in (shape [] part)) ≡ component_names (listed_components F A)
  shown kind is = sym names ∙ ap (λ s. component_names (fields_in s)) is ∙ sym (names-closed env (listed_components fs added)) ∙ ap component_names (sym (listed-closed env fs added))

  pub count-shown : (kind : SeqKind) → shape bodies part ≡ Shape.seq kind fs added → length (fields_in (shape [] part)) ≡ length (listed_components F A)
  count-shown kind is = as-many (fields_in (shape [] part)) (listed_components F A) (shown kind is)

  -- A field that the part shows, within the loops.
  module _ (kind : SeqKind) (is : shape bodies part ≡ Shape.seq kind fs added) (field : PartField P) (k : ℕ) (at : component_at (fields_in (shape bodies part)) k ≡ Some (component_of (shape bodies) field)) where
    pub field-at : component_at (listed_components F A) k ≡ Some (field_meant shape bodies field)
    field-at = ap (λ cs. component_at cs k) (listed-closed env fs added) ∙ component-closed env (listed_components fs added) k (component_of (shape bodies) field) (ap (λ s. component_at (fields_in s) k) (sym is) ∙ at)

    pub field-part : IsReadablePart shape bodies part → IsReadablePart shape bodies field.part
    field-part p = (p.0, field-readable kind F A k (field_meant shape bodies field) (ap (λ s. is_readable (closed env s)) (sym is) ∙ p.1) field-at)

  -- A SEQUENCE.
  module _ (is : shape bodies part ≡ Shape.seq SeqKind.sequence fs added) where
    abbrev S : Shape
    S = Shape.seq SeqKind.sequence F A

    same : S ≡ meant shape bodies part
    same = sym (ap (closed env) is)

    pub sequence-rows : numbered 0 (component_names (fields_in (shape [] part))) ≡ place_rows (places_in S)
    sequence-rows = ap (numbered 0) (shown SeqKind.sequence is) ∙ rows-placed 0 (listed_components F A)

    pub sequence-distinct : IsReadablePart shape bodies part → are_distinct (row_names (numbered 0 (component_names (fields_in (shape [] part))))) ≡ true
    sequence-distinct p = ap (λ rows. are_distinct (row_names rows)) sequence-rows ∙ rows-distinct SeqKind.sequence F A (ap is_readable same ∙ p.1)

    -- Any refusal of the opening.
    pub sequence-unopened : (n : Notation) (before : List Slot) (e : Failure)
        → ((fs : Fields) (added : FieldAdditions) → ListsFields (numbered 0 (component_names (fields_in (shape [] part)))) fs added → Refuses n (FailsWith n (Shape.seq SeqKind.sequence fs added) (head_slot before)) e) → Refuses n (FailsWith n (meant shape bodies part) (head_slot before)) e
    sequence-unopened n before e h =
        subst (λ s. Refuses n (FailsWith n s (head_slot before)) e) same (h F A (subst (λ rows. ListsFields rows F A) (sym sequence-rows) (places-list SeqKind.sequence F A)))

    pub sequence-opened : (n : Notation) (before now : List Slot) → PutsMembers n (numbered 0 (component_names (fields_in (shape [] part)))) before now → SequenceRead n (meant shape bodies part) before 0 [] now
    sequence-opened n before now puts = subst (λ s. SequenceRead n s before 0 [] now) same (sequence-start (subst (λ rows. PutsMembers n rows before now) sequence-rows puts))

    module _ (n : Notation) (before : List Slot) (i : ℕ) (members : List Member) (now : List Slot) (r : SequenceRead n (meant shape bodies part) before i members now) where
      read : SequenceRead n S before i members now
      read = subst (λ s. SequenceRead n s before i members now) (sym same) r

      module _ (field : PartField P) (h : i < length (fields_in (shape [] part))) (at : component_at (fields_in (shape bodies part)) i ≡ Some (component_of (shape bodies) field)) where
        next : IsNext S i (i, field_meant shape bodies field)
        next = next-field F A i (field_meant shape bodies field) (let count = count-shown SeqKind.sequence is in omega (arith, h, count)) (field-at SeqKind.sequence is field i at)

        -- The field costs less than the SEQUENCE.
        pub sequence-less : 5 * cost (head_nodes now) (meant shape bodies field.part) + 5 < 5 * cost (head_nodes before) (meant shape bodies part) + 2
        sequence-less =
            let inner = read in
            let q = field-cheaper SeqKind.sequence F A (i, field_meant shape bodies field) next inner.read in
            let e = ap (cost (head_nodes before)) same in
            omega (arith, q, e)

        pub sequence-more : (m : Member) (after : List Slot) → string_bytes m.0 ≡ field.name.now → TakesComponent n (field_meant shape bodies field) now (option_map dyn_value m.1) after → SequenceRead n (meant shape bodies part) before (i + 1) (members ++ m ∷ []) after
        sequence-more m after name t = subst (λ s. SequenceRead n s before (i + 1) (members ++ m ∷ []) after) same (sequence-step (i, field_meant shape bodies field) m after next read name t)

        pub sequence-refused : (e : Failure) → (let c = field_meant shape bodies field in Refuses n (ComponentFailsWith n c.presence c.standing c.shape c.name now) e) → Refuses n (FailsWith n (meant shape bodies part) (head_slot before)) e
        sequence-refused e h =
            let inner = read in
            subst (λ s. Refuses n (FailsWith n s (head_slot before)) e) same (field-refused SeqKind.sequence F A inner.read (i, field_meant shape bodies field) next e h)

      pub sequence-done : (v : Vec (String Global × Option DynValue)) → v.items ≡ members → length (fields_in (shape [] part)) ≤ i → (slot : Slot) × (before ≡ slot ∷ now) × DecodesTo n (meant shape bodies part) slot (dyn_value (Members v))
      sequence-done v e h =
          let count = count-shown SeqKind.sequence is in
          let long = placed-count 0 (listed_components F A) in
          let done = sequence-finish F A (omega (arith, h, count, long)) read in (
            done.0,
            done.1,
            subst (λ s. DecodesTo n s done.0 (dyn_value (Members v))) same
                (subst (DecodesTo n S done.0) (sym (view-Members v ∙ ap (λ l. Value.members (members_named (map named_value l))) e)) done.2),
          )
