-- The texts of several things, one after the other.
use Rattle.std.specs.Prelude.{List, [], ◌∷◌, ◌++◌, ℕ, codes}

-- The text of each element, with a comma and a space before it.
abbrev pub listed : {T : Type 0} → (T → List ℕ) → List T → List ℕ
listed text [] = []
listed text (x ∷ xs) = (codes ", " ++ text x) ++ listed text xs

-- The texts of the elements, with a comma and a space between each two.
abbrev pub joined : {T : Type 0} → (T → List ℕ) → List T → List ℕ
joined text [] = []
joined text (x ∷ xs) = text x ++ listed text xs
