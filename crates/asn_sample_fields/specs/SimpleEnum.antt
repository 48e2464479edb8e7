-- ENUMERATED { Test1, Test2 }
use Rattle.std.specs.Prelude.{ℕ, List, [], ◌∷◌, codes}
use Rattle.asn_traits.specs.Shape.{Shape, closed_enum}
use Rattle.asn_sample_fields.specs.declared.simple_enum.SimpleEnum.{SimpleEnum}
use Rattle.asn_sample_fields.specs.declared.simple_enum.SimpleEnum.TheVariants.{Test1, Test2}

-- The items of SimpleEnum.
abbrev pub simple_enum_items : List (List ℕ)
simple_enum_items = codes "Test1" ∷ codes "Test2" ∷ []

-- The shape of SimpleEnum.
abbrev pub simple_enum_shape : Shape
simple_enum_shape = closed_enum simple_enum_items

-- The item that a SimpleEnum stands for.
abbrev pub simple_enum_item : SimpleEnum → List ℕ
simple_enum_item Test1 = codes "Test1"
simple_enum_item Test2 = codes "Test2"
