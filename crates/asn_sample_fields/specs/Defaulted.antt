-- SEQUENCE { level INTEGER DEFAULT 5 }
use Rattle.std.specs.Prelude.{pos, [], ◌∷◌, codes}
use Rattle.asn_traits.specs.Shape.{Shape, Fields, Plain, Presence, closed_seq}
use Rattle.asn_traits.specs.Value.{Value}
use Rattle.asn_coding.specs.Passing.{default_slot}
use Rattle.asn_coding.specs.Writing.{Frame}
use Rattle.asn_coding.specs.Terms.{context, signed}
use Rattle.asn_sample_fields.specs.declared.defaulted.Defaulted.{Defaulted}

-- The default of `level`.
abbrev pub default_level : Plain
default_level = Plain.int (pos 5)

-- The fields of Defaulted.
abbrev pub defaulted_fields : Fields
defaulted_fields = Fields.field (codes "level") (context 0) (Presence.default default_level) (signed 128) Fields.no_fields

-- The shape of Defaulted.
abbrev pub defaulted_shape : Shape
defaulted_shape = closed_seq defaulted_fields

-- The values of the fields of a Defaulted, in order.
abbrev pub defaulted_slots : Defaulted → Frame
defaulted_slots x = default_slot default_level (Value.int x.level) ∷ []
