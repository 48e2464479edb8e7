-- SEQUENCE { strct INTEGER (0..255) OPTIONAL }
use Rattle.std.specs.Prelude.{pos, [], ◌∷◌, option_map, codes}
use Rattle.asn_traits.specs.Shape.{Shape, Fields, Presence, closed_seq}
use Rattle.asn_traits.specs.Value.{Value}
use Rattle.asn_coding.specs.Writing.{Frame, members_value}
use Rattle.asn_coding.specs.Terms.{context, unsigned}
use Rattle.asn_sample_fields.specs.declared.struct_.Struct.{Struct}

-- The fields of Struct.
abbrev pub struct_fields : Fields
struct_fields = Fields.field (codes "strct") (context 0) Presence.optional (unsigned 8) Fields.no_fields

-- The shape of Struct.
abbrev pub struct_shape : Shape
struct_shape = closed_seq struct_fields

-- The values of the fields of a Struct, in order.
abbrev pub struct_slots : Struct → Frame
struct_slots x = option_map (λ n. Value.int (pos n)) x.strct ∷ []

-- The value that a Struct stands for.
abbrev pub struct_value : Struct → Value
struct_value x = members_value struct_fields (struct_slots x)
