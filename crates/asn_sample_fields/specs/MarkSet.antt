-- SET { mark [1] INTEGER (-2^63..2^63-1), note [0] UTF8String OPTIONAL }
use Rattle.std.specs.Prelude.{[], ◌∷◌, Some, option_map, string_bytes, codes}
use Rattle.asn_traits.specs.Shape.{Shape, SeqKind, Fields, FieldAdditions, Presence}
use Rattle.asn_traits.specs.Value.{Value}
use Rattle.asn_coding.specs.Writing.{Frame}
use Rattle.asn_coding.specs.Terms.{context, signed, utf8_string}
use Rattle.asn_sample_fields.specs.declared.mark_set.MarkSet.{MarkSet}

-- The fields of MarkSet, as it lists them.
abbrev pub mark_set_fields : Fields
mark_set_fields =
    Fields.field (codes "mark") (context 1) Presence.required (signed 64)
    (Fields.field (codes "note") (context 0) Presence.optional utf8_string
    Fields.no_fields)

-- The shape of MarkSet.
abbrev pub mark_set_shape : Shape
mark_set_shape = Shape.seq SeqKind.set mark_set_fields FieldAdditions.closed_fields

-- The values of the fields of a MarkSet, as it lists them.
abbrev pub mark_set_slots : MarkSet → Frame
mark_set_slots x = Some (Value.int x.mark) ∷ option_map (λ t. Value.text (string_bytes t)) x.note ∷ []
