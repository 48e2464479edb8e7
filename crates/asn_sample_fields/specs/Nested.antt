-- SEQUENCE { very Struct OPTIONAL, nested BOOLEAN OPTIONAL }
use Rattle.std.specs.Prelude.{[], ◌∷◌, option_map, codes}
use Rattle.asn_traits.specs.Shape.{Shape, Fields, Presence, closed_seq}
use Rattle.asn_traits.specs.Value.{Value}
use Rattle.asn_coding.specs.Writing.{Frame, members_value}
use Rattle.asn_coding.specs.Terms.{context}
use Rattle.asn_sample_fields.specs.Struct.{struct_shape, struct_value}
use Rattle.asn_sample_fields.specs.declared.nested.Nested.{Nested}

-- The fields of Nested.
abbrev pub nested_fields : Fields
nested_fields =
    Fields.field (codes "very") (context 0) Presence.optional struct_shape
    (Fields.field (codes "nested") (context 1) Presence.optional Shape.boolean
    Fields.no_fields)

-- The shape of Nested.
abbrev pub nested_shape : Shape
nested_shape = closed_seq nested_fields

-- The values of the fields of a Nested, in order.
abbrev pub nested_slots : Nested → Frame
nested_slots x = option_map struct_value x.very ∷ option_map Value.boolean x.nested ∷ []

-- The value that a Nested stands for.
abbrev pub nested_value : Nested → Value
nested_value x = members_value nested_fields (nested_slots x)
