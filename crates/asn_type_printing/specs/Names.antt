-- What printing is handed, as definitions see it.
use Rattle.std.specs.Prelude.{ℕ, List, [], Option, Some, None}
use Rattle.std.specs.Global.{Vec}
use Rattle.std.specs.List.{slice_index_or}
use Rattle.asn_model.specs.Shape.{AlternativeAdditions}
use Rattle.asn_model.specs.ShapeView.{alternative_views}
use Rattle.asn_model.specs.declared.shape_type.AlternativeShape.{AlternativeShape}

-- The name of the type of a number, or an empty one where there is none.
abbrev pub name_at : List (List ℕ) → ℕ → List ℕ
name_at names number = slice_index_or names number []

-- The extension additions of a CHOICE, if there is an extension marker.
abbrev pub additions_view : Option (Vec AlternativeShape) → AlternativeAdditions
additions_view None = AlternativeAdditions.closed_alternatives
additions_view (Some alts) = AlternativeAdditions.extended_alternatives (alternative_views alts.items)
