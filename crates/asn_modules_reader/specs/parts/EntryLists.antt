-- The entries of a list between braces, of which `None` is an extension marker.
use Rattle.std.specs.Prelude.{ℕ, List, [], ◌∷◌, ◌++◌, map, Bool, true, false, Option, Some, None}
use Rattle.std.specs.Global.{Vec}
use Rattle.asn_modules_reader.specs.declared.parts.entries.Entries.{Entries}

-- The entry is an extension marker.
abbrev pub is_marker : {A : Type 0} → Option A → Bool
is_marker None = true
is_marker (Some x) = false

-- What stands after the second marker, with it.
abbrev pub behind_second : {A : Type 0} → Option (Vec A) → List (Option A)
behind_second None = []
behind_second (Some xs) = None ∷ map (λ x. Some x) xs.items

-- What stands after the first marker, with it.
abbrev pub behind_first : {A : Type 0} → Option (Vec A) → Option (Vec A) → List (Option A)
behind_first None tail = []
behind_first (Some xs) tail = None ∷ (map (λ x. Some x) xs.items ++ behind_second tail)

-- The entries in order.
abbrev pub entries_of : {A : Type 0} → Entries A → List (Option A)
entries_of es = map (λ x. Some x) es.root.items ++ behind_first es.added es.tail

-- How many extension markers there are, where the first is and where the second is.
abbrev pub markers_by : Bool → Bool → ℕ
markers_by false second = 0
markers_by true false = 1
markers_by true true = 2
