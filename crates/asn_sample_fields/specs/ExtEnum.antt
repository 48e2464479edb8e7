-- ENUMERATED { Test1, Test2, ..., Test3 }
use Rattle.std.specs.Prelude.{ℕ, List, [], ◌∷◌, Some, codes}
use Rattle.asn_traits.specs.Shape.{Shape}
use Rattle.asn_sample_fields.specs.declared.ext_enum.ExtEnum.{ExtEnum}
use Rattle.asn_sample_fields.specs.declared.ext_enum.ExtEnum.TheVariants.{Test1, Test2, Test3}

-- The items of ExtEnum before the extension marker.
abbrev pub ext_enum_items : List (List ℕ)
ext_enum_items = codes "Test1" ∷ codes "Test2" ∷ []

-- The items of ExtEnum after the extension marker.
abbrev pub ext_enum_added : List (List ℕ)
ext_enum_added = codes "Test3" ∷ []

-- The shape of ExtEnum.
abbrev pub ext_enum_shape : Shape
ext_enum_shape = Shape.enum ext_enum_items (Some ext_enum_added)

-- The item that an ExtEnum stands for.
abbrev pub ext_enum_item : ExtEnum → List ℕ
ext_enum_item Test1 = codes "Test1"
ext_enum_item Test2 = codes "Test2"
ext_enum_item Test3 = codes "Test3"
