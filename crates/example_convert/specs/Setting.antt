-- SEQUENCE { name UTF8String, severity Severity DEFAULT warning, enabled BOOLEAN }
use Rattle.std.specs.Prelude.{[], ◌∷◌, Some, codes, string_bytes}
use Rattle.asn_traits.specs.Shape.{Shape, Fields, Plain, Presence, closed_seq}
use Rattle.asn_traits.specs.Value.{Value}
use Rattle.asn_coding.specs.Passing.{default_slot}
use Rattle.asn_coding.specs.Writing.{Frame, members_value}
use Rattle.asn_coding.specs.Terms.{context, utf8_string}
use Rattle.example_convert.specs.Severity.{severity_shape, severity_item}
use Rattle.example_convert.specs.declared.setting.Setting.{Setting}

-- The default of `severity`.
abbrev pub default_severity : Plain
default_severity = Plain.item (codes "warning")

-- The fields of Setting.
abbrev pub setting_fields : Fields
setting_fields =
    Fields.field (codes "name") (context 0) Presence.required utf8_string
    (Fields.field (codes "severity") (context 1) (Presence.default default_severity) severity_shape
    (Fields.field (codes "enabled") (context 2) Presence.required Shape.boolean
    Fields.no_fields))

-- The shape of Setting.
abbrev pub setting_shape : Shape
setting_shape = closed_seq setting_fields

-- The values of the fields of a Setting, in order.
abbrev pub setting_slots : Setting → Frame
setting_slots x =
    Some (Value.text (string_bytes x.name))
    ∷ default_slot default_severity (Value.item (severity_item x.severity))
    ∷ Some (Value.boolean x.enabled)
    ∷ []

-- The value of a Setting.
abbrev pub setting_value : Setting → Value
setting_value x = members_value setting_fields (setting_slots x)
