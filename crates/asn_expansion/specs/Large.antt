-- When a shape is too large.
use Rattle.std.specs.Prelude.{ℕ, ◌<◌, Option, Some, None}

-- More are counted than these, or there is nothing, since it would open too many names at once.
abbrev pub HasMore : {A : Type 0} → (A → ℕ) → ℕ → Option A → Type 0
HasMore count limit None = Unit {0}
HasMore count limit (Some a) = limit < count a
