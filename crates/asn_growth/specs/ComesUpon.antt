-- Where a reader of a type comes upon what sets the versions of a type apart: an alternative or item that its version lacks, or the absence of an addition that its version requires.
use Rattle.std.specs.Prelude.{◌≡◌, ℕ, List, [], ◌∷◌, map, Option, Some, None, Ok, true, false}
use Rattle.asn_fault.specs.Failure.{Cause}
use Rattle.asn_model.specs.Components.{Component, Standing, component_names, reading_order}
use Rattle.asn_model.specs.DecodesTo.{DecodesTo}
use Rattle.asn_model.specs.FailsWith.{Path}
use Rattle.asn_model.specs.Leaf.{as_leaf, codec_of}
use Rattle.asn_model.specs.Notation.{Notation}
use Rattle.asn_model.specs.Shape.{Shape, SeqKind, Fields, FieldAdditions, Alternatives, AlternativeAdditions, all_alternatives, all_fields, all_items, alternative_named, field_names, is_item, unfold_loop}
use Rattle.asn_model.specs.Tree.{Tree, Slot, as_choice, as_list, as_members, first_repeated, same_identifier}
use Rattle.asn_model.specs.Value.{Value, may_lack}
use Rattle.asn_model.specs.declared.leaves.LeafKind.TheVariants.{Item}

mutual
  -- A reader of the shape comes upon an alternative or item that the shape lacks, or upon the absence of an addition that it requires, at the end of this path of fields. No SEQUENCE or SET on the path has a field's name twice, and all that is read before decodes.
  pub data ComesUpon (n : Notation) : Shape → Tree → Path → Cause → Type 0 where
    unknown_item : (items : List (List ℕ)) (added : Option (List (List ℕ))) (t : Tree) (i : List ℕ) → as_leaf n Item t ≡ Ok (Value.item i) → is_item (all_items items added) i ≡ false
        → ComesUpon n (Shape.enum items added) t [] (Cause.invalid_enum_discriminant (codec_of n) i)
    unknown_alternative : (alts : Alternatives) (added : AlternativeAdditions) (t u : Tree) (name : List ℕ) (type_name : List ℕ) → as_choice n t ≡ Some (Some (name, u)) → alternative_named same_identifier (all_alternatives alts added) name ≡ None
        → ComesUpon n (Shape.choice alts added) t [] (Cause.no_valid_choice type_name)
    in_payload : (alts : Alternatives) (added : AlternativeAdditions) (t u : Tree) (name id : List ℕ) (s : Shape) (p : Path) (w : Cause)
        → as_choice n t ≡ Some (Some (name, u)) → alternative_named same_identifier (all_alternatives alts added) name ≡ Some (id, s) → ComesUpon n s u p w → ComesUpon n (Shape.choice alts added) t p w
    in_field : (kind : SeqKind) (fs : Fields) (added : FieldAdditions) (t : Tree) (look : List ℕ → Slot) (p : Path) (w : Cause)
        → as_members n t ≡ Some look → first_repeated n t (field_names (all_fields fs added)) ≡ None → FieldsComeUpon n (reading_order kind fs added) (map look (component_names (reading_order kind fs added))) p w → ComesUpon n (Shape.seq kind fs added) t p w
    in_list : (s : Shape) (t : Tree) (slots : List Slot) (p : Path) (w : Cause) → as_list n t ≡ Some slots → EachComesUpon n s slots p w → ComesUpon n (Shape.list_of s) t p w
    in_set : (s : Shape) (t : Tree) (slots : List Slot) (p : Path) (w : Cause) → as_list n t ≡ Some slots → EachComesUpon n s slots p w → ComesUpon n (Shape.set_of s) t p w
    in_table : (s : Shape) (t : Tree) (p : Path) (w : Cause) → ComesUpon n (Shape.list_of s) t p w → ComesUpon n (Shape.table s) t p w
    in_loop : (body : Shape) (t : Tree) (p : Path) (w : Cause) → ComesUpon n (unfold_loop body) t p w → ComesUpon n (Shape.loop body) t p w

  -- The same in an element, and those before it decode.
  pub data EachComesUpon (n : Notation) : Shape → List Slot → Path → Cause → Type 0 where
    upon_here : (s : Shape) (t : Tree) (rest : List Slot) (p : Path) (w : Cause) → ComesUpon n s t p w → EachComesUpon n s (Some t ∷ rest) p w
    upon_later : (s : Shape) (slot : Slot) (rest : List Slot) (v : Value) (p : Path) (w : Cause) → DecodesTo n s slot v → EachComesUpon n s rest p w → EachComesUpon n s (slot ∷ rest) p w

  -- The same in a component, or it is a required addition that is absent; and those that are read before it decode or are absent.
  pub data FieldsComeUpon (n : Notation) : List Component → List Slot → Path → Cause → Type 0 where
    upon_field : (c : Component) (cs : List Component) (t : Tree) (rest : List Slot) (p : Path) (w : Cause) → ComesUpon n c.shape t p w → FieldsComeUpon n (c ∷ cs) (Some t ∷ rest) (c.name ∷ p) w
    upon_missing : (c : Component) (cs : List Component) (rest : List Slot) → may_lack c.presence ≡ false → c.standing ≡ Standing.addition → FieldsComeUpon n (c ∷ cs) (None ∷ rest) [] (Cause.missing_field c.name)
    past_present : (c : Component) (cs : List Component) (slot : Slot) (rest : List Slot) (v : Value) (p : Path) (w : Cause) → DecodesTo n c.shape slot v → FieldsComeUpon n cs rest p w → FieldsComeUpon n (c ∷ cs) (slot ∷ rest) p w
    past_absent : (c : Component) (cs : List Component) (rest : List Slot) (p : Path) (w : Cause) → may_lack c.presence ≡ true → FieldsComeUpon n cs rest p w → FieldsComeUpon n (c ∷ cs) (None ∷ rest) p w

-- The reason is a name that the type lacks, and not an absence.
abbrev pub IsUnknown : Cause → Type 0
IsUnknown (Cause.missing_field name) = ⊥
IsUnknown w = Unit {0}

-- No place of the tree that a reader of the shape looks at names an alternative or item that the shape lacks.
abbrev pub Known : Notation → Shape → Tree → Type 0
Known n s t = (p : Path) (w : Cause) → ComesUpon n s t p w → IsUnknown w → ⊥

-- A reason is another one, but for the name of the type in a refusal of a choice, which is the type's own word.
abbrev pub IsAsMuch : Cause → Cause → Type 0
IsAsMuch (Cause.no_valid_choice name) w = (other : List ℕ) × (w ≡ Cause.no_valid_choice other)
IsAsMuch w x = x ≡ w

-- The reason is the absence of an addition.
abbrev pub IsMissing : Cause → Type 0
IsMissing w = (name : List ℕ) × (w ≡ Cause.missing_field name)
