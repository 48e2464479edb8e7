-- What is in the slot of a field.
use Rattle.std.specs.Prelude.{◌≡◌, ℕ, true, List, Option, Some, None}
use Rattle.asn_model.specs.Shape.{Presence, Shape}
use Rattle.asn_model.specs.Value.{Fits, Value, is_kept, may_lack}

-- The slot is absent where it may be, or has a value of the shape that isn't the default.
abbrev pub FitsSlot : Presence → Shape → Option Value → Type 0
FitsSlot p s None = may_lack p ≡ true
FitsSlot p s (Some v) = (is_kept p v ≡ true) × Fits s v

-- The member has this name, and such a slot.
abbrev pub FitsMember : List ℕ → Presence → Shape → List ℕ × Option Value → Type 0
FitsMember name p s m = (m.0 ≡ name) × FitsSlot p s m.1
