-- The arcs of object identifiers (X.680, section 32, and X.690, section 8.19.4).
use Rattle.std.specs.Prelude.{ℕ, List, [], ◌∷◌, Bool, false, ◌&&◌, ◌||◌, ◌==◌, nat_le}

-- The arcs are two at least, the first at most 2, and the second at most 39 unless the first is 2.
abbrev pub is_object_identifier : List ℕ → Bool
is_object_identifier [] = false
is_object_identifier (first ∷ []) = false
is_object_identifier (first ∷ second ∷ rest) = nat_le first 2 && (nat_le second 39 || first == 2)
