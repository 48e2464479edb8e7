-- How names are expanded by the assignments of a module.
use Rattle.std.specs.Prelude.{ℕ, List, Option, Some, None, map}
use Rattle.std.specs.Global.{Vec}
use Rattle.asn_model.specs.Shape.{Shape, AlternativeAdditions}
use Rattle.asn_model.specs.ShapeView.{alternative_views}
use Rattle.asn_model.specs.declared.shape_type.AlternativeShape.{AlternativeShape}
use Rattle.asn_notation.specs.Names.{assigned_names}
use Rattle.asn_notation.specs.View.{assignment_view}
use Rattle.asn_expansion.specs.declared.names.Names.{Names}
use Rattle.asn_expansion.specs.declared.opened.Opened.{Opened}
use Rattle.asn_expansion.specs.Expansion.{expansion}
use Rattle.asn_expansion.specs.OpenNames.{open_names}
use Rattle.asn_expansion.specs.Places.{ArePlaces}

-- The places are those of the assignments.
abbrev pub KnowsPlaces : Names → Type 0
KnowsPlaces names = ArePlaces names.places.now (assigned_names (map assignment_view names.assignments.now))

-- The expansion of a name by the assignments, where these names are open and so many more may be.
abbrev pub resolve : Names → ℕ → Opened → List ℕ → Option Shape
resolve names more opened = expansion (map assignment_view names.assignments.now) more (open_names opened)

-- The extension additions that these are, if there is an extension marker.
abbrev pub additions_view : Option (Vec AlternativeShape) → AlternativeAdditions
additions_view None = AlternativeAdditions.closed_alternatives
additions_view (Some alts) = AlternativeAdditions.extended_alternatives (alternative_views alts.items)
