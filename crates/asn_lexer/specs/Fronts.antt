-- What texts begin with. A text is the list of its bytes, in UTF-8.
use Rattle.std.specs.Prelude.{ℕ, List, Bool, nat_eq, take, length}
use Rattle.std.specs.Cmp.Lexicographic.{pointwise}

-- The text begins with these characters.
abbrev pub begins : List ℕ → List ℕ → Bool
begins front u = pointwise nat_eq (take (length front) u) front
