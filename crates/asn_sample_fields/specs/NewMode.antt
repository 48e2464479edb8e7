-- ENUMERATED { low, ..., high }
use Rattle.std.specs.Prelude.{ℕ, List, [], ◌∷◌, Some, codes}
use Rattle.asn_traits.specs.Shape.{Shape}
use Rattle.asn_sample_fields.specs.declared.new_mode.NewMode.{NewMode}
use Rattle.asn_sample_fields.specs.declared.new_mode.NewMode.TheVariants.{Low, High}

-- The items of NewMode before the extension marker.
abbrev pub new_mode_items : List (List ℕ)
new_mode_items = codes "low" ∷ []

-- The items of NewMode after the extension marker.
abbrev pub new_mode_added : List (List ℕ)
new_mode_added = codes "high" ∷ []

-- The shape of NewMode.
abbrev pub new_mode_shape : Shape
new_mode_shape = Shape.enum new_mode_items (Some new_mode_added)

-- The item that a NewMode stands for.
abbrev pub new_mode_item : NewMode → List ℕ
new_mode_item Low = codes "low"
new_mode_item High = codes "high"
