-- What making examples is handed and returns, as definitions see it.
use Rattle.std.specs.Prelude.{ℕ, List, Bool, true, false, not, Option, Some, None}
use Rattle.asn_example_values.specs.declared.parts.Extent.{Extent}
use Rattle.asn_example_values.specs.declared.parts.Extent.TheVariants.{Smallest, Full}
use Rattle.asn_model.specs.Shape.{Presence}
use Rattle.asn_model.specs.Value.{Value, may_lack}

-- Everything is wanted.
abbrev pub is_full : Extent → Bool
is_full Smallest = false
is_full Full = true

-- The component has to be present and has no value.
abbrev pub is_lacking : Presence → Option Value → Bool
is_lacking p (Some v) = false
is_lacking p None = not (may_lack p)

-- The members, if all that have to be present are.
abbrev pub members_made : Bool → List (List ℕ × Option Value) → Option (List (List ℕ × Option Value))
members_made true ms = Some ms
members_made false ms = None
