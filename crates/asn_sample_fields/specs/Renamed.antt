-- SEQUENCE { so-very INTEGER, re_named BOOLEAN OPTIONAL }
use Rattle.std.specs.Prelude.{[], ◌∷◌, Some, option_map, codes}
use Rattle.asn_traits.specs.Shape.{Shape, Fields, Presence, closed_seq}
use Rattle.asn_traits.specs.Value.{Value}
use Rattle.asn_coding.specs.Writing.{Frame}
use Rattle.asn_coding.specs.Terms.{context, signed}
use Rattle.asn_sample_fields.specs.declared.renamed.Renamed.{Renamed}

-- The fields of Renamed.
abbrev pub renamed_fields : Fields
renamed_fields =
    Fields.field (codes "so-very") (context 0) Presence.required (signed 128)
    (Fields.field (codes "re_named") (context 1) Presence.optional Shape.boolean
    Fields.no_fields)

-- The shape of Renamed.
abbrev pub renamed_shape : Shape
renamed_shape = closed_seq renamed_fields

-- The values of the fields of a Renamed, in order.
abbrev pub renamed_slots : Renamed → Frame
renamed_slots x = Some (Value.int x.so_very) ∷ option_map Value.boolean x.re_named ∷ []
