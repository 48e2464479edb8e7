-- Values with the texts that they are sorted by.
use Rattle.std.specs.Prelude.{ℕ, List}

-- The text of an entry.
abbrev pub text_of : {V : Type 0} → List ℕ × V → List ℕ
text_of p = p.0

-- The value of an entry.
abbrev pub value_of : {V : Type 0} → List ℕ × V → V
value_of p = p.1
