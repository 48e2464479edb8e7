-- SEQUENCE { id INTEGER (0..4294967295), raised GeneralizedTime, origin Origin, setting Setting, ..., note UTF8String OPTIONAL }
use Rattle.std.specs.Prelude.{[], ◌∷◌, Some, codes, option_map, pos, string_bytes}
use Rattle.asn_traits.specs.Shape.{Shape, Fields, FieldAdditions, Presence}
use Rattle.asn_traits.specs.Value.{Value}
use Rattle.asn_coding.specs.Writing.{Frame}
use Rattle.asn_coding.specs.Terms.{context, unsigned, utf8_string}
use Rattle.example_convert.specs.Origin.{origin_shape, origin_value}
use Rattle.example_convert.specs.Setting.{setting_shape, setting_value}
use Rattle.example_convert.specs.declared.alarm.Alarm.{Alarm}

-- The fields of the root of Alarm.
abbrev pub alarm_fields : Fields
alarm_fields =
    Fields.field (codes "id") (context 0) Presence.required (unsigned 32)
    (Fields.field (codes "raised") (context 1) Presence.required Shape.gen
    (Fields.field (codes "origin") (context 2) Presence.required origin_shape
    (Fields.field (codes "setting") (context 3) Presence.required setting_shape
    Fields.no_fields)))

-- Its extension addition.
abbrev pub alarm_added : FieldAdditions
alarm_added = FieldAdditions.extended_fields
    (Fields.field (codes "note") (context 4) Presence.optional utf8_string Fields.no_fields)

-- The values of the fields of an Alarm, the extension addition last.
abbrev pub alarm_slots : Alarm → Frame
alarm_slots x =
    Some (Value.int (pos x.id))
    ∷ Some (Value.gen x.raised)
    ∷ Some (origin_value x.origin)
    ∷ Some (setting_value x.setting)
    ∷ option_map (λ t. Value.text (string_bytes t)) x.note
    ∷ []
