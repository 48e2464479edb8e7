-- BIT STRING (SIZE(3))
use Rattle.std.specs.Prelude.{Some}
use Rattle.asn_traits.specs.Shape.{Shape}
use Rattle.asn_traits.specs.Value.{Value}
use Rattle.asn_sample_fields.specs.declared.constrained_bit_string.ConstrainedBitString.{ConstrainedBitString}

-- The shape of ConstrainedBitString.
abbrev pub constrained_bit_string_shape : Shape
constrained_bit_string_shape = Shape.bits (Some 3)

-- The value that a ConstrainedBitString stands for.
abbrev pub constrained_bit_string_value : ConstrainedBitString → Value
constrained_bit_string_value x = Value.bits x.bits (Some 3)
