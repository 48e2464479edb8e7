-- Why a slot decodes to no value by a shape: the names of the fields that lead to the place, and what is wrong there.
use Rattle.std.specs.Prelude.{◌≡◌, ℕ, List, [], ◌∷◌, map, Some, None, Err, true, false}
use Rattle.asn_core.specs.declared.codec.Codec.{Codec}
use Rattle.asn_fault.specs.Failure.{Cause}
use Rattle.asn_model.specs.Components.{Component, Standing, component_names, reading_order}
use Rattle.asn_model.specs.Notation.{Notation, notation_of}
use Rattle.asn_model.specs.Shape.{Shape, SeqKind, Fields, FieldAdditions, Alternatives, AlternativeAdditions, all_alternatives, all_fields, field_names, unfold_loop, alternative_named}
use Rattle.asn_model.specs.Tree.{Tree, Slot, as_list, as_members, as_choice, first_repeated, same_identifier}
use Rattle.asn_model.specs.Leaf.{LeafFailure, IsFailureOf, leaf, members_mismatch, list_mismatch, set_mismatch, choice_mismatch}
use Rattle.asn_model.specs.Value.{Value, may_lack}
use Rattle.asn_model.specs.DecodesTo.{DecodesTo}

-- The names of the fields that lead to a place.
abbrev pub Path : Type 0
Path = List (List ℕ)

mutual
  -- The slot decodes to no value by the shape: at this path, for this reason.
  pub data FailsWith (n : Notation) : Shape → Slot → Path → Cause → Type 0 where
    fails_absent : (s : Shape) (c : Codec) → notation_of c ≡ n → FailsWith n s None [] (Cause.end_of_input c)
    fails_leaf : (s : Shape) (t : Tree) (b : LeafFailure) (w : Cause) → leaf n s t ≡ Some (Err b) → IsFailureOf n t b w → FailsWith n s (Some t) [] w
    fails_no_members : (kind : SeqKind) (fs : Fields) (added : FieldAdditions) (t : Tree) (w : Cause) → as_members n t ≡ None → IsFailureOf n t (members_mismatch n kind) w → FailsWith n (Shape.seq kind fs added) (Some t) [] w
    fails_repeated : (kind : SeqKind) (fs : Fields) (added : FieldAdditions) (t : Tree) (look : List ℕ → Slot) (name : List ℕ)
        → as_members n t ≡ Some look → first_repeated n t (field_names (all_fields fs added)) ≡ Some name → FailsWith n (Shape.seq kind fs added) (Some t) [] (Cause.duplicate_field name)
    fails_seq : (kind : SeqKind) (fs : Fields) (added : FieldAdditions) (t : Tree) (look : List ℕ → Slot) (p : Path) (w : Cause)
        → as_members n t ≡ Some look → first_repeated n t (field_names (all_fields fs added)) ≡ None → FieldsFailWith n (reading_order kind fs added) (map look (component_names (reading_order kind fs added))) p w → FailsWith n (Shape.seq kind fs added) (Some t) p w
    fails_no_list : (s : Shape) (t : Tree) (w : Cause) → as_list n t ≡ None → IsFailureOf n t (list_mismatch n) w → FailsWith n (Shape.list_of s) (Some t) [] w
    fails_list : (s : Shape) (t : Tree) (slots : List Slot) (p : Path) (w : Cause) → as_list n t ≡ Some slots → EachFailsWith n s slots p w → FailsWith n (Shape.list_of s) (Some t) p w
    fails_no_set : (s : Shape) (t : Tree) (w : Cause) → as_list n t ≡ None → IsFailureOf n t (set_mismatch n) w → FailsWith n (Shape.set_of s) (Some t) [] w
    fails_set : (s : Shape) (t : Tree) (slots : List Slot) (p : Path) (w : Cause) → as_list n t ≡ Some slots → EachFailsWith n s slots p w → FailsWith n (Shape.set_of s) (Some t) p w
    fails_table : (s : Shape) (t : Tree) (p : Path) (w : Cause) → FailsWith n (Shape.list_of s) (Some t) p w → FailsWith n (Shape.table s) (Some t) p w
    fails_no_choice : (alts : Alternatives) (added : AlternativeAdditions) (t : Tree) (w : Cause) → as_choice n t ≡ None → IsFailureOf n t (choice_mismatch n t) w → FailsWith n (Shape.choice alts added) (Some t) [] w
    fails_no_member : (alts : Alternatives) (added : AlternativeAdditions) (t : Tree) (type_name : List ℕ) → as_choice n t ≡ Some None → FailsWith n (Shape.choice alts added) (Some t) [] (Cause.no_valid_choice type_name)
    fails_unnamed : (alts : Alternatives) (added : AlternativeAdditions) (t : Tree) (name : List ℕ) (u : Tree) (type_name : List ℕ) → as_choice n t ≡ Some (Some (name, u)) → alternative_named same_identifier (all_alternatives alts added) name ≡ None
        → FailsWith n (Shape.choice alts added) (Some t) [] (Cause.no_valid_choice type_name)
    fails_payload : (alts : Alternatives) (added : AlternativeAdditions) (t : Tree) (name : List ℕ) (u : Tree) (id : List ℕ) (s : Shape) (p : Path) (w : Cause)
        → as_choice n t ≡ Some (Some (name, u)) → alternative_named same_identifier (all_alternatives alts added) name ≡ Some (id, s) → FailsWith n s (Some u) p w → FailsWith n (Shape.choice alts added) (Some t) p w
    fails_loop : (body : Shape) (t : Tree) (p : Path) (w : Cause) → FailsWith n (unfold_loop body) (Some t) p w → FailsWith n (Shape.loop body) (Some t) p w
    fails_free : (s : Shape) (slot : Slot) (p : Path) (w : Cause) → n ≡ Notation.other → FailsWith n s slot p w

  -- An element fails, and those before it decode to values.
  pub data EachFailsWith (n : Notation) : Shape → List Slot → Path → Cause → Type 0 where
    fails_here : (s : Shape) (slot : Slot) (rest : List Slot) (p : Path) (w : Cause) → FailsWith n s slot p w → EachFailsWith n s (slot ∷ rest) p w
    fails_later : (s : Shape) (slot : Slot) (rest : List Slot) (v : Value) (p : Path) (w : Cause) → DecodesTo n s slot v → EachFailsWith n s rest p w → EachFailsWith n s (slot ∷ rest) p w

  -- A component fails, and the slots of those that are read before it decode to values or are absent. The name of an extension addition that is missing stands in the cause and not in the path.
  pub data FieldsFailWith (n : Notation) : List Component → List Slot → Path → Cause → Type 0 where
    field_fails : (c : Component) (cs : List Component) (t : Tree) (rest : List Slot) (p : Path) (w : Cause)
        → FailsWith n c.shape (Some t) p w → FieldsFailWith n (c ∷ cs) (Some t ∷ rest) (c.name ∷ p) w
    field_is_missing : (c : Component) (cs : List Component) (rest : List Slot) (p : Path) (w : Cause)
        → may_lack c.presence ≡ false → c.standing ≡ Standing.root → FailsWith n c.shape None p w → FieldsFailWith n (c ∷ cs) (None ∷ rest) (c.name ∷ p) w
    addition_is_missing : (c : Component) (cs : List Component) (rest : List Slot)
        → may_lack c.presence ≡ false → c.standing ≡ Standing.addition → FieldsFailWith n (c ∷ cs) (None ∷ rest) [] (Cause.missing_field c.name)
    after_present : (c : Component) (cs : List Component) (slot : Slot) (rest : List Slot) (v : Value) (p : Path) (w : Cause)
        → DecodesTo n c.shape slot v → FieldsFailWith n cs rest p w → FieldsFailWith n (c ∷ cs) (slot ∷ rest) p w
    after_absent : (c : Component) (cs : List Component) (rest : List Slot) (p : Path) (w : Cause)
        → may_lack c.presence ≡ true → FieldsFailWith n cs rest p w → FieldsFailWith n (c ∷ cs) (None ∷ rest) p w
