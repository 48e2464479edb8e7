-- Shapes that are copied as they are.
use Rattle.std.specs.Prelude.{Bool, true, false}
use Rattle.asn_model.specs.Shape.{Shape}

-- The shape has no parts, no items and no name of a type.
abbrev pub is_leaf : Shape → Bool
is_leaf (Shape.enum items added) = false
is_leaf (Shape.seq kind fs added) = false
is_leaf (Shape.list_of s) = false
is_leaf (Shape.set_of s) = false
is_leaf (Shape.table s) = false
is_leaf (Shape.choice alts added) = false
is_leaf (Shape.loop s) = false
is_leaf (Shape.back k) = false
is_leaf s = true
