-- When a fault may be told, and what a write that was cut short leaves.
use Rattle.std.specs.Prelude.{◌≡◌, ℕ, ◌+◌, ◌-◌, ◌^◌, ◌≤◌, min, List, take, Option, Result, OnErr, OnOk}
use Rattle.std.specs.Io.KnownBytes.{Appends}

-- one more, as far as a u64 counts
abbrev pub next_count : ℕ → ℕ
next_count n = min (n + 1) (2 ^ 64 - 1)

-- the count went up, or stood at the end of its type
abbrev pub Increased : ℕ → ℕ → Type 0
Increased before now = next_count before ≤ now

-- the count rises where there is an error, and nowhere else
pub record HasCause {T E : Type 0} (before now : ℕ) (result : Result T E) : Type 0 where
  pub later : before ≤ now
  pub failed : OnErr result (Increased before now)
  pub steady : OnOk result (now ≡ before)

-- the known bytes grew by a front part of what was expected
abbrev pub AppendsFront : Option (List ℕ) → Option (List ℕ) → List ℕ → Type 0
AppendsFront old new due = (k : ℕ) × Appends old new (take k due)
