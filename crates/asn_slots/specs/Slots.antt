-- The slots of one frame.
use Rattle.std.specs.Prelude.{List, [], ◌∷◌, Option, Some, None}

-- What is there, or else the other.
abbrev pub or_some : {A : Type 0} → Option A → Option A → Option A
or_some (Some x) o = Some x
or_some None o = o

-- The last slot that is present.
abbrev pub last_present : {A : Type 0} → List (Option A) → Option A
last_present [] = None
last_present (s ∷ ss) = or_some (last_present ss) s

-- The values of the slots that are present.
abbrev pub present_of : {A : Type 0} → List (Option A) → List A
present_of [] = []
present_of (None ∷ ss) = present_of ss
present_of (Some x ∷ ss) = x ∷ present_of ss

-- The first slot, absent where there is none.
abbrev pub first_of : {A : Type 0} → List (Option A) → Option A
first_of [] = None
first_of (s ∷ ss) = s
