-- The trees of what is kept.
use Rattle.std.specs.Prelude.{◌≡◌, List, map, Option, option_map}

-- The trees of slots.
abbrev pub trees_of : {V T : Type 0} → (V → T) → List (Option V) → List (Option T)
trees_of tree = map (option_map tree)

-- The trees that are written for frames of values are those of the frames that are kept.
abbrev pub SameTrees : {A V T : Type 0} → (A → T) → (V → T) → List (List (Option A)) → List (List (Option V)) → Type 0
SameTrees written kept values frames = map (trees_of written) values ≡ map (trees_of kept) frames
