-- SEQUENCE { id INTEGER, parts SET OF OldPart, ... }
use Rattle.std.specs.Prelude.{[], ◌∷◌, Some, codes}
use Rattle.asn_traits.specs.Shape.{Shape, SeqKind, Fields, FieldAdditions, Presence, all_fields}
use Rattle.asn_traits.specs.Value.{Value, bag_of, values}
use Rattle.asn_coding.specs.Writing.{Frame, members_value}
use Rattle.asn_coding.specs.Terms.{context, signed}
use Rattle.asn_sample_choices.specs.OldPart.{old_part_shape, old_part_value}
use Rattle.asn_sample_choices.specs.declared.old_report.OldReport.{OldReport}

-- The fields of the root of OldReport. After the extension marker there are none.
abbrev pub old_report_fields : Fields
old_report_fields =
    Fields.field (codes "id") (context 0) Presence.required (signed 128)
    (Fields.field (codes "parts") (context 1) Presence.required (Shape.set_of old_part_shape)
    Fields.no_fields)

-- The shape of OldReport.
abbrev pub old_report_shape : Shape
old_report_shape = Shape.seq SeqKind.sequence old_report_fields (FieldAdditions.extended_fields Fields.no_fields)

-- The values of the fields of an OldReport, in order.
abbrev pub old_report_slots : OldReport → Frame
old_report_slots x = Some (Value.int x.id) ∷ Some (bag_of (values old_part_value x.parts)) ∷ []

-- The value of an OldReport.
abbrev pub old_report_value : OldReport → Value
old_report_value x = members_value (all_fields old_report_fields (FieldAdditions.extended_fields Fields.no_fields)) (old_report_slots x)
