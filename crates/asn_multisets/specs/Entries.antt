-- A multiset kept as its distinct elements, each with the number of times that it is there.
use Rattle.std.specs.Prelude.{◌≡◌, ℕ, ◌<◌, Bool, if◌then◌else◌, List, [], ◌∷◌, replicate}
use Rattle.std.specs.List.{AllByRecursion, flat_map}
use Rattle.std.specs.Map.{lookup}
use Rattle.std.specs.Option.{unwrap_or}

-- Each element as often as its count says, in the order of the entries.
abbrev pub expanded : {X : Type 0} → List (X × ℕ) → List X
expanded entries = flat_map (λ entry. replicate entry.1 entry.0) entries

-- Every count is at least one.
abbrev pub AllPositive : {X : Type 0} → List (X × ℕ) → Type 0
AllPositive entries = AllByRecursion (λ entry. 0 < entry.1) entries

module _ {X : Type 0} (eq : X → X → Bool) where
  -- The count of an element, or zero where it has none.
  abbrev pub count_in : List (X × ℕ) → X → ℕ
  count_in entries x = unwrap_or (lookup (eq x) entries) 0

  -- The entries with a count for x: an equal element keeps its place, and a new one goes last.
  abbrev pub with_count : List (X × ℕ) → X → ℕ → List (X × ℕ)
  with_count [] x n = (x, n) ∷ []
  with_count (e ∷ es) x n = if eq x e.0 then (e.0, n) ∷ es else e ∷ with_count es x n

  -- Each element has the same count in both, or none in both.
  abbrev pub Agree : List (X × ℕ) → List (X × ℕ) → Type 0
  Agree ms ns = (x : X) → lookup (eq x) ms ≡ lookup (eq x) ns
