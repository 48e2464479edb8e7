-- The type without values.
use Rattle.std.specs.Prelude.{[], Bool, true, false, None}
use Rattle.asn_model.specs.Shape.{Shape}

-- The shape is the type without values, an ENUMERATED without items.
abbrev pub is_without_values : Shape → Bool
is_without_values (Shape.enum [] None) = true
is_without_values s = false
