-- The slots that are still to be read.
use Rattle.std.specs.Prelude.{◌≡◌, List, [], ◌∷◌, ◌++◌, map, Option, Some, None, Bool, true, false}
use Rattle.asn_slots.specs.declared.pending.Batch.{Batch}

-- The slots of a run, and those after it: a slot that stands apart, if there is one, and values.
abbrev pub run_before : {V : Type 0} → Option (Option V) → List V → List (Option V) → List (Option V)
run_before None values later = map Some values ++ later
run_before (Some slot) values later = slot ∷ (map Some values ++ later)

-- The slots of runs.
abbrev pub slots_of : {V : Type 0} → List (Batch V) → List (Option V)
slots_of [] = []
slots_of (r ∷ rs) = run_before r.first r.later.items (slots_of rs)

-- An absent first slot is taken, a present one stays, and no answer comes where no slot is left.
abbrev pub TakesAbsent : {V : Type 0} → List (Option V) → Option Bool → List (Option V) → Type 0
TakesAbsent before (Some true) after = before ≡ None ∷ after
TakesAbsent {V} before (Some false) after = (value : V) × (rest : List (Option V)) × (before ≡ Some value ∷ rest) × (after ≡ before)
TakesAbsent before None after = (before ≡ []) × (after ≡ before)
