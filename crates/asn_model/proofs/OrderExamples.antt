-- Fields by example: the order in which a SET is read, a missing component, a default, and a repeated name.
use Rattle.std.proofs.Common.{◌≡◌, pos, List, [], ◌∷◌, refl, Some}
use Rattle.std.specs.Prelude.{ℕ, codes}
use Rattle.asn_core.specs.declared.codec.Codec.TheVariants.{Jer}
use Rattle.asn_core.specs.declared.tag.Class.TheVariants.{Context}
use Rattle.asn_core.specs.declared.tag.Tag.{Tag}
use Rattle.asn_fault.specs.Failure.{Cause}
use Rattle.avn_grammar.specs.Tree.{Tree as AvnTree, Fields as AvnFields}
use Rattle.serde_json.specs.Data.{Data, Members, Num}
use Rattle.serde_json.specs.Written.{compact_text}
use Rattle.asn_model.specs.Components.{component_names, reading_order}
use Rattle.asn_model.specs.DecodesTo.{DecodesTo, FieldsDecodeTo}
use Rattle.asn_model.specs.FailsWith.{FailsWith, FieldsFailWith}
use Rattle.asn_model.specs.Notation.{Notation}
use Rattle.asn_model.specs.Leaf.{IsFailureOf}
use Rattle.asn_model.specs.Shape.{Shape, SeqKind, Fields, FieldAdditions, Alternatives, AlternativeAdditions, Plain, Presence, closed_seq}
use Rattle.asn_model.specs.Tree.{Tree, Slot}
use Rattle.asn_model.specs.Value.{Value, Slots}

abbrev context : ℕ → Tag
context n = record { class = Context; value = n }

-- A small number, with this tag.
abbrev number : List ℕ → ℕ → Presence → Fields → Fields
number name n presence fs = Fields.field name (context n) presence (Shape.int (pos 0) (pos 255) 8) fs

-- The root of a SET is read by its tags, and additions come last, whatever their tags.
read_by_tag : component_names (reading_order SeqKind.set (number (codes "b") 1 Presence.required (number (codes "a") 0 Presence.required Fields.no_fields)) (FieldAdditions.extended_fields (number (codes "c") 0 Presence.required Fields.no_fields)))
    ≡ codes "a" ∷ codes "b" ∷ codes "c" ∷ []
read_by_tag = refl

-- A SEQUENCE is read as it stands.
read_as_it_stands : component_names (reading_order SeqKind.sequence (number (codes "b") 1 Presence.required (number (codes "a") 0 Presence.required Fields.no_fields)) FieldAdditions.closed_fields) ≡ codes "b" ∷ codes "a" ∷ []
read_as_it_stands = refl

abbrev empty : Tree
empty = Tree.json (Data.object Members.no_members)

-- A component of the root that is missing is the end of input within the field.
root_missing : FailsWith Notation.jer (closed_seq (number (codes "a") 0 Presence.required Fields.no_fields)) (Some empty) (codes "a" ∷ []) (Cause.end_of_input Jer)
root_missing = FailsWith.fails_seq _ _ _ _ _ _ _ refl refl (FieldsFailWith.field_is_missing _ _ _ _ _ refl refl (FailsWith.fails_absent _ Jer refl))

-- An extension addition that is missing is named by the cause, at no field.
addition_missing : FailsWith Notation.jer (Shape.seq SeqKind.sequence Fields.no_fields (FieldAdditions.extended_fields (number (codes "a") 0 Presence.required Fields.no_fields))) (Some empty) [] (Cause.missing_field (codes "a"))
addition_missing = FailsWith.fails_seq _ _ _ _ _ _ _ refl refl (FieldsFailWith.addition_is_missing _ _ _ refl refl)

abbrev one_default : Shape
one_default = closed_seq (number (codes "a") 0 (Presence.default (Plain.int (pos 1))) Fields.no_fields)

-- A default that is written is read as one that is left out.
default_written : DecodesTo Notation.jer one_default (Some (Tree.json (Data.object (Members.member (codes "a") (Data.number (Num.unsigned 1)) Members.no_members)))) (Value.members (Slots.absent (codes "a") Slots.no_slots))
default_written =
    DecodesTo.decodes_seq _ _ _ _ _ _ refl refl
    (FieldsDecodeTo.decodes_present _ _ _ _ _ (Some (Tree.json (Data.number (Num.unsigned 1)))) [] (Value.int (pos 1)) Slots.no_slots (DecodesTo.decodes_leaf _ _ _ refl) FieldsDecodeTo.decodes_end)

default_left_out : DecodesTo Notation.jer one_default (Some empty) (Value.members (Slots.absent (codes "a") Slots.no_slots))
default_left_out = DecodesTo.decodes_seq _ _ _ _ _ _ refl refl (FieldsDecodeTo.decodes_absent _ _ _ _ _ _ _ refl FieldsDecodeTo.decodes_end)

abbrev a_and_b : Shape
a_and_b = closed_seq (number (codes "a") 0 Presence.required (number (codes "b") 1 Presence.required Fields.no_fields))

-- A small number at this name, in front of fields in braces.
abbrev written : List ℕ → AvnFields → AvnFields
written name fs = AvnFields.field name (AvnTree.integer (codes "7")) fs

abbrev braces : AvnFields → Slot
braces fs = Some (Tree.avn (AvnTree.sequence fs))

-- Of two repeated names the refusal has the one whose field the type has first, wherever the text has it.
first_field_repeated :
    FailsWith Notation.avn a_and_b (braces (written (codes "b") (written (codes "b") (written (codes "a") (written (codes "a") AvnFields.no_fields))))) [] (Cause.duplicate_field (codes "a"))
first_field_repeated = FailsWith.fails_repeated _ _ _ _ _ _ refl refl

abbrev seven : Value
seven = Value.int (pos 7)

abbrev seven_read : FieldsDecodeTo Notation.avn (number (codes "a") 0 Presence.required (number (codes "b") 1 Presence.required Fields.no_fields))
    (Some (Tree.avn (AvnTree.integer (codes "7"))) ∷ Some (Tree.avn (AvnTree.integer (codes "7"))) ∷ []) (Slots.present (codes "a") seven (Slots.present (codes "b") seven Slots.no_slots))
seven_read =
    FieldsDecodeTo.decodes_present _ _ _ _ _ _ _ seven _ (DecodesTo.decodes_leaf _ _ _ refl)
    (FieldsDecodeTo.decodes_present _ _ _ _ _ _ _ seven _ (DecodesTo.decodes_leaf _ _ _ refl) FieldsDecodeTo.decodes_end)

-- A name that the type lacks may be repeated.
unknown_repeated :
    DecodesTo Notation.avn a_and_b (braces (written (codes "x") (written (codes "a") (written (codes "x") (written (codes "b") AvnFields.no_fields))))) (Value.members (Slots.present (codes "a") seven (Slots.present (codes "b") seven Slots.no_slots)))
unknown_repeated = DecodesTo.decodes_seq _ _ _ _ _ _ refl refl seven_read

-- An entry marked as absent is no repetition.
absent_beside_present :
    DecodesTo Notation.avn a_and_b (braces (AvnFields.absent (codes "a") (written (codes "a") (AvnFields.absent (codes "a") (written (codes "b") AvnFields.no_fields))))) (Value.members (Slots.present (codes "a") seven (Slots.present (codes "b") seven Slots.no_slots)))
absent_beside_present = DecodesTo.decodes_seq _ _ _ _ _ _ refl refl seven_read

abbrev two : Data
two = Data.object (Members.member (codes "a") Data.null (Members.member (codes "x") Data.null Members.no_members))

-- The object of a CHOICE has no second member, whatever its name is.
two_members :
    FailsWith Notation.jer (Shape.choice (Alternatives.alternative (codes "a") (context 0) Shape.null Alternatives.no_alternatives) AlternativeAdditions.closed_alternatives)
    (Some (Tree.json two)) [] (Cause.type_mismatch Jer (codes "object with one member") (compact_text two))
two_members = FailsWith.fails_no_choice _ _ _ _ refl (IsFailureOf.is_mismatch _ _ (λ h. refl))
