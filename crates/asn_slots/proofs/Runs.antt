-- Slots that are kept in runs.
use Rattle.std.proofs.Common.{◌≡◌, sym, ℕ, ◌<◌, List, [], ◌∷◌, ◌++◌, map, length, Option, Some, None, arith}
use Rattle.asn_slots.specs.Pending.{run_before}

-- Where no slot stands apart, the first value is the next slot.
pub value_next : {V : Type 0} (first : Option (Option V)) (values : List V) (later all : List (Option V)) → first ≡ None → 0 < length values → run_before first values later ≡ all
    → (value : V) × (rest : List (Option V)) × (all ≡ Some value ∷ rest)
value_next None (v ∷ values) later all none some is = (v, map Some values ++ later, sym is)
value_next None [] later all none some is = absurd (omega (arith, some))
value_next (Some slot) values later all none some is = let n : ⊥ = cc in absurd n
