-- CHOICE { sensor INTEGER (0..65535), operator UTF8String, unknown NULL }
use Rattle.std.specs.Prelude.{pos, string_bytes, codes}
use Rattle.asn_traits.specs.Shape.{Shape, Alternatives, closed_choice}
use Rattle.asn_traits.specs.Value.{Value}
use Rattle.asn_coding.specs.Chosen.{Chosen, chosen, chosen_value}
use Rattle.asn_coding.specs.Terms.{context, unsigned, utf8_string}
use Rattle.example_convert.specs.declared.origin.Origin.{Origin}
use Rattle.example_convert.specs.declared.origin.Origin.TheVariants.{Sensor, Operator, Unknown}

-- The alternatives of Origin.
abbrev pub origin_alternatives : Alternatives
origin_alternatives =
    Alternatives.alternative (codes "sensor") (context 0) (unsigned 16)
    (Alternatives.alternative (codes "operator") (context 1) utf8_string
    (Alternatives.alternative (codes "unknown") (context 2) Shape.null
    Alternatives.no_alternatives))

-- The shape of Origin.
abbrev pub origin_shape : Shape
origin_shape = closed_choice origin_alternatives

-- The alternative of an Origin, and its payload.
abbrev pub origin_chosen : Origin → Chosen
origin_chosen (Sensor number) = chosen 0 (codes "sensor") (unsigned 16) (Value.int (pos number))
origin_chosen (Operator name) = chosen 1 (codes "operator") utf8_string (Value.text (string_bytes name))
origin_chosen Unknown = chosen 2 (codes "unknown") Shape.null Value.null

-- The value of an Origin.
abbrev pub origin_value : Origin → Value
origin_value x = chosen_value (origin_chosen x)
