-- Numbers that lead to each other.
use Rattle.std.specs.Prelude.{ℕ, zero, suc, List, Option, Some, None}
use Rattle.std.specs.List.{slice_get}
use Rattle.std.specs.Option.{option_and_then}

abbrev pub joined : Option (Option ℕ) → Option ℕ
joined None = None
joined (Some next) = next

-- Where the number leads: what stands at its place.
abbrev pub next_at : List (Option ℕ) → ℕ → Option ℕ
next_at nexts n = joined (slice_get nexts n)

-- Where it leads past this number of others.
unfoldable pub leads : List (Option ℕ) → ℕ → ℕ → Option ℕ
leads nexts zero n = next_at nexts n
leads nexts (suc others) n = option_and_then (leads nexts others) (next_at nexts n)
