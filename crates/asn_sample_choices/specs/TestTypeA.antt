-- SEQUENCE { juice INTEGER (0..3, ...), wine Inner, ..., grappa BIT STRING }. The range isn't checked, so the shape has every number of `Integer`.
use Rattle.std.specs.Prelude.{[], ◌∷◌, Some, None, codes}
use Rattle.asn_traits.specs.Shape.{Shape, SeqKind, Fields, FieldAdditions, Presence}
use Rattle.asn_traits.specs.Value.{Value}
use Rattle.asn_coding.specs.Writing.{Frame}
use Rattle.asn_coding.specs.Terms.{context, signed}
use Rattle.asn_sample_choices.specs.Inner.{inner_shape, inner_value}
use Rattle.asn_sample_choices.specs.declared.test_type_a.TestTypeA.{TestTypeA}

-- The fields of the root of TestTypeA.
abbrev pub test_type_a_fields : Fields
test_type_a_fields =
    Fields.field (codes "juice") (context 0) Presence.required (signed 128)
    (Fields.field (codes "wine") (context 1) Presence.required inner_shape
    Fields.no_fields)

-- Its extension addition.
abbrev pub test_type_a_added : FieldAdditions
test_type_a_added = FieldAdditions.extended_fields (Fields.field (codes "grappa") (context 2) Presence.required (Shape.bits None) Fields.no_fields)

-- The shape of TestTypeA.
abbrev pub test_type_a_shape : Shape
test_type_a_shape = Shape.seq SeqKind.sequence test_type_a_fields test_type_a_added

-- The values of the fields of a TestTypeA, extension additions last.
abbrev pub test_type_a_slots : TestTypeA → Frame
test_type_a_slots x = Some (Value.int x.juice) ∷ Some (inner_value x.wine) ∷ Some (Value.bits x.grappa None) ∷ []
