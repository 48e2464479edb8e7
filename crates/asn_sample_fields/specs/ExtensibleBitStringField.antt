-- SEQUENCE { bits BIT STRING (SIZE(3), ...) }
use Rattle.std.specs.Prelude.{[], ◌∷◌, Some, codes}
use Rattle.asn_traits.specs.Shape.{Shape, Fields, Presence, closed_seq}
use Rattle.asn_coding.specs.Writing.{Frame}
use Rattle.asn_coding.specs.Terms.{context}
use Rattle.asn_sample_fields.specs.MarkedBitString.{marked_bit_string_shape, marked_bit_string_value}
use Rattle.asn_sample_fields.specs.declared.extensible_bit_string_field.ExtensibleBitStringField.{ExtensibleBitStringField}

-- The fields of ExtensibleBitStringField.
abbrev pub bit_string_fields : Fields
bit_string_fields = Fields.field (codes "bits") (context 0) Presence.required marked_bit_string_shape Fields.no_fields

-- The shape of ExtensibleBitStringField.
abbrev pub extensible_bit_string_field_shape : Shape
extensible_bit_string_field_shape = closed_seq bit_string_fields

-- The values of the fields of an ExtensibleBitStringField, in order.
abbrev pub bit_string_slots : ExtensibleBitStringField → Frame
bit_string_slots x = Some (marked_bit_string_value x.bits) ∷ []
