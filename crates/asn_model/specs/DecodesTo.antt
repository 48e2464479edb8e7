-- What value a slot says by a shape. A codec that is neither notation is bound by nothing here.
use Rattle.std.specs.Prelude.{◌≡◌, ℕ, List, [], ◌∷◌, map, Some, None, Ok, true}
use Rattle.asn_core.specs.declared.tag.Tag.{Tag}
use Rattle.asn_model.specs.Notation.{Notation}
use Rattle.asn_model.specs.Shape.{Shape, SeqKind, Fields, FieldAdditions, Alternatives, AlternativeAdditions, Presence, all_fields, all_alternatives, unfold_loop, alternative_named, field_names}
use Rattle.asn_model.specs.Tree.{Tree, Slot, as_list, as_members, as_choice, first_repeated, same_identifier}
use Rattle.asn_model.specs.Leaf.{leaf}
use Rattle.asn_model.specs.Value.{Value, Values, Slots, bag_of, may_lack, table_of, with_field}

mutual
  -- The slot decodes to the value by the shape. In AVN no field's name stands at two present entries; names that the type lacks may.
  pub data DecodesTo (n : Notation) : Shape → Slot → Value → Type 0 where
    decodes_leaf : (s : Shape) (t : Tree) (v : Value) → leaf n s t ≡ Some (Ok v) → DecodesTo n s (Some t) v
    decodes_seq : (kind : SeqKind) (fs : Fields) (added : FieldAdditions) (t : Tree) (look : List ℕ → Slot) (vs : Slots)
        → as_members n t ≡ Some look → first_repeated n t (field_names (all_fields fs added)) ≡ None → FieldsDecodeTo n (all_fields fs added) (map look (field_names (all_fields fs added))) vs → DecodesTo n (Shape.seq kind fs added) (Some t) (Value.members vs)
    decodes_list : (s : Shape) (t : Tree) (slots : List Slot) (vs : Values) → as_list n t ≡ Some slots → EachDecodesTo n s slots vs → DecodesTo n (Shape.list_of s) (Some t) (Value.list vs)
    decodes_set : (s : Shape) (t : Tree) (slots : List Slot) (vs : Values) → as_list n t ≡ Some slots → EachDecodesTo n s slots vs → DecodesTo n (Shape.set_of s) (Some t) (bag_of vs)
    decodes_table : (s : Shape) (t : Tree) (vs : Values) → DecodesTo n (Shape.list_of s) (Some t) (Value.list vs) → DecodesTo n (Shape.table s) (Some t) (Value.list (table_of vs))
    decodes_choice : (alts : Alternatives) (added : AlternativeAdditions) (t : Tree) (name : List ℕ) (u : Tree) (id : List ℕ) (s : Shape) (v : Value)
        → as_choice n t ≡ Some (Some (name, u)) → alternative_named same_identifier (all_alternatives alts added) name ≡ Some (id, s) → DecodesTo n s (Some u) v → DecodesTo n (Shape.choice alts added) (Some t) (Value.choice id v)
    decodes_loop : (body : Shape) (t : Tree) (v : Value) → DecodesTo n (unfold_loop body) (Some t) v → DecodesTo n (Shape.loop body) (Some t) v
    decodes_free : (s : Shape) (slot : Slot) (v : Value) → n ≡ Notation.other → DecodesTo n s slot v

  -- The slots decode to the elements, one by one.
  pub data EachDecodesTo (n : Notation) : Shape → List Slot → Values → Type 0 where
    decodes_none : (s : Shape) → EachDecodesTo n s [] Values.no_values
    decodes_one : (s : Shape) (slot : Slot) (rest : List Slot) (v : Value) (vs : Values) → DecodesTo n s slot v → EachDecodesTo n s rest vs → EachDecodesTo n s (slot ∷ rest) (Values.value v vs)

  -- The slots decode to the members, field by field; a default counts as absent.
  pub data FieldsDecodeTo (n : Notation) : Fields → List Slot → Slots → Type 0 where
    decodes_end : FieldsDecodeTo n Fields.no_fields [] Slots.no_slots
    decodes_present : (name : List ℕ) (g : Tag) (p : Presence) (s : Shape) (fs : Fields) (slot : Slot) (rest : List Slot) (v : Value) (vs : Slots)
        → DecodesTo n s slot v → FieldsDecodeTo n fs rest vs → FieldsDecodeTo n (Fields.field name g p s fs) (slot ∷ rest) (with_field p name v vs)
    decodes_absent : (name : List ℕ) (g : Tag) (p : Presence) (s : Shape) (fs : Fields) (rest : List Slot) (vs : Slots)
        → may_lack p ≡ true → FieldsDecodeTo n fs rest vs → FieldsDecodeTo n (Fields.field name g p s fs) (None ∷ rest) (Slots.absent name vs)
