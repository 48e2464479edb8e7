-- Lists in order.
use Rattle.std.specs.Prelude.{ℕ, List, [], ◌∷◌, if◌then◌else◌}
use Rattle.std.specs.declared.cmp.Ordering.{Ordering}
use Rattle.std.specs.Ordering.{is_gt, nat_cmp, on}
use Rattle.std.specs.Cmp.Lexicographic.{slice_cmp}

-- The list with the element before the first one that is not below it.
abbrev pub insert_in_order : {X : Type 0} → (X → X → Ordering) → X → List X → List X
insert_in_order cmp x [] = x ∷ []
insert_in_order cmp x (y ∷ ys) = if is_gt (cmp x y) then y ∷ insert_in_order cmp x ys else x ∷ y ∷ ys

-- The elements in order, repeats kept. Those that tie stay as they stood.
abbrev pub sort : {X : Type 0} → (X → X → Ordering) → List X → List X
sort cmp [] = []
sort cmp (x ∷ xs) = insert_in_order cmp x (sort cmp xs)

-- The byte order of the texts that two elements have.
abbrev pub by_text : {X : Type 0} → (X → List ℕ) → X → X → Ordering
by_text text = on text (slice_cmp nat_cmp)
