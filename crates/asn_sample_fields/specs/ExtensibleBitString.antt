-- BIT STRING (SIZE(3, ...))
use Rattle.std.specs.Prelude.{None}
use Rattle.asn_traits.specs.Shape.{Shape}
use Rattle.asn_traits.specs.Value.{Value}
use Rattle.asn_sample_fields.specs.declared.extensible_bit_string.ExtensibleBitString.{ExtensibleBitString}

-- The shape of ExtensibleBitString.
abbrev pub extensible_bit_string_shape : Shape
extensible_bit_string_shape = Shape.bits None

-- The value that an ExtensibleBitString stands for.
abbrev pub extensible_bit_string_value : ExtensibleBitString → Value
extensible_bit_string_value x = Value.bits x.bits None
