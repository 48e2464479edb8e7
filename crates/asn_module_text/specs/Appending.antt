-- Texts that are written behind others.
use Rattle.std.specs.Prelude.{◌≡◌, ℕ, List, ◌++◌}

-- The new text is the old one with what f puts before a text.
abbrev pub Appends : List ℕ → List ℕ → (List ℕ → List ℕ) → Type 0
Appends old new f = (rest : List ℕ) → new ++ rest ≡ old ++ f rest
