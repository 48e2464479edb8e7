-- SEQUENCE { id INTEGER, parts SET OF NewPart, ..., note UTF8String OPTIONAL, owner UTF8String }
use Rattle.std.specs.Prelude.{[], ◌∷◌, Some, option_map, string_bytes, codes}
use Rattle.asn_traits.specs.Shape.{Shape, SeqKind, Fields, FieldAdditions, Presence}
use Rattle.asn_traits.specs.Value.{Value, bag_of, values}
use Rattle.asn_coding.specs.Writing.{Frame}
use Rattle.asn_coding.specs.Terms.{context, signed, utf8_string}
use Rattle.asn_sample_choices.specs.NewPart.{new_part_shape, new_part_value}
use Rattle.asn_sample_choices.specs.declared.new_report.NewReport.{NewReport}

-- The fields of the root of NewReport.
abbrev pub new_report_fields : Fields
new_report_fields =
    Fields.field (codes "id") (context 0) Presence.required (signed 128)
    (Fields.field (codes "parts") (context 1) Presence.required (Shape.set_of new_part_shape)
    Fields.no_fields)

-- Its extension additions.
abbrev pub new_report_added : Fields
new_report_added =
    Fields.field (codes "note") (context 2) Presence.optional utf8_string
    (Fields.field (codes "owner") (context 3) Presence.required utf8_string
    Fields.no_fields)

-- The shape of NewReport.
abbrev pub new_report_shape : Shape
new_report_shape = Shape.seq SeqKind.sequence new_report_fields (FieldAdditions.extended_fields new_report_added)

-- The values of the fields of a NewReport, extension additions last.
abbrev pub new_report_slots : NewReport → Frame
new_report_slots x =
    Some (Value.int x.id)
    ∷ Some (bag_of (values new_part_value x.parts))
    ∷ option_map (λ t. Value.text (string_bytes t)) x.note
    ∷ Some (Value.text (string_bytes x.owner))
    ∷ []
