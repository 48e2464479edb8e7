-- ENUMERATED { low, ... }
use Rattle.std.specs.Prelude.{ℕ, List, [], ◌∷◌, Some, codes}
use Rattle.asn_traits.specs.Shape.{Shape}
use Rattle.asn_sample_fields.specs.declared.old_mode.OldMode.{OldMode}
use Rattle.asn_sample_fields.specs.declared.old_mode.OldMode.TheVariants.{Low}

-- The items of OldMode before the extension marker.
abbrev pub old_mode_items : List (List ℕ)
old_mode_items = codes "low" ∷ []

-- The items of OldMode after the extension marker.
abbrev pub old_mode_added : List (List ℕ)
old_mode_added = []

-- The shape of OldMode.
abbrev pub old_mode_shape : Shape
old_mode_shape = Shape.enum old_mode_items (Some old_mode_added)

-- The item that an OldMode stands for.
abbrev pub old_mode_item : OldMode → List ℕ
old_mode_item Low = codes "low"
