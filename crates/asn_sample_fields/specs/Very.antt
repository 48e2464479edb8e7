-- SEQUENCE { ..., a Nested OPTIONAL }
use Rattle.std.specs.Prelude.{[], ◌∷◌, option_map, codes}
use Rattle.asn_traits.specs.Shape.{Shape, SeqKind, Fields, FieldAdditions, Presence}
use Rattle.asn_coding.specs.Writing.{Frame}
use Rattle.asn_coding.specs.Terms.{context}
use Rattle.asn_sample_fields.specs.Nested.{nested_shape, nested_value}
use Rattle.asn_sample_fields.specs.declared.very.Very.{Very}

-- The extension addition of Very.
abbrev pub very_added : FieldAdditions
very_added = FieldAdditions.extended_fields (Fields.field (codes "a") (context 0) Presence.optional nested_shape Fields.no_fields)

-- The shape of Very.
abbrev pub very_shape : Shape
very_shape = Shape.seq SeqKind.sequence Fields.no_fields very_added

-- The values of the fields of a Very, in order.
abbrev pub very_slots : Very → Frame
very_slots x = option_map nested_value x.a ∷ []
