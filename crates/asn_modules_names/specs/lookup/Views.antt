-- What contracts see of entries.
use Rattle.std.specs.Prelude.{ℕ, List}
use Rattle.std.specs.Borrow.{Bor}

-- A name and a number.
abbrev pub entry_view : Bor (List ℕ) × ℕ → List ℕ × ℕ
entry_view e = (e.0.now, e.1)

-- The number of a module and a name.
abbrev pub key_view : ℕ × Bor (List ℕ) → ℕ × List ℕ
key_view k = (k.0, k.1.now)

-- These with the number of a type or value.
abbrev pub keyed_view : (ℕ × Bor (List ℕ)) × ℕ → (ℕ × List ℕ) × ℕ
keyed_view e = (key_view e.0, e.1)

-- These with the name of a module.
abbrev pub import_view : (ℕ × Bor (List ℕ)) × Bor (List ℕ) → (ℕ × List ℕ) × List ℕ
import_view e = (key_view e.0, e.1.now)
