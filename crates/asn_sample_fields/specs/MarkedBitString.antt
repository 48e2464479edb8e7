-- BIT STRING (SIZE(3), ...)
use Rattle.std.specs.Prelude.{None}
use Rattle.asn_traits.specs.Shape.{Shape}
use Rattle.asn_traits.specs.Value.{Value}
use Rattle.asn_sample_fields.specs.declared.marked_bit_string.MarkedBitString.{MarkedBitString}

-- The shape of MarkedBitString.
abbrev pub marked_bit_string_shape : Shape
marked_bit_string_shape = Shape.bits None

-- The value that a MarkedBitString stands for.
abbrev pub marked_bit_string_value : MarkedBitString → Value
marked_bit_string_value x = Value.bits x.bits None
