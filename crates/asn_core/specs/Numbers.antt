-- Whole numbers as sign and magnitude, and the range of an integer type.
use Rattle.std.specs.Prelude.{◌≡◌, ℕ, zero, suc, ℤ, pos, negsuc, ◌≤ℤ◌, ◌<ℤ◌, ◌⊎◌, Bool, true, false, Option, Some, None}

-- The number of this sign and magnitude; a negative zero is zero.
abbrev pub signed : Bool → ℕ → ℤ
signed false m = pos m
signed true zero = pos 0
signed true (suc m) = negsuc m

-- Whether the number is below zero.
abbrev pub is_negative : ℤ → Bool
is_negative (pos m) = false
is_negative (negsuc m) = true

-- The distance of the number from zero.
abbrev pub magnitude : ℤ → ℕ
magnitude (pos m) = m
magnitude (negsuc m) = suc m

-- The answer is the value whose number is n, and there is none exactly where n is below the least number or above the greatest.
abbrev pub OfParts : {A : Type 0} → (A → ℤ) → ℤ → ℕ → ℤ → Option A → Type 0
OfParts number least greatest n (Some x) = (number x ≡ n) × (least ≤ℤ n) × (n ≤ℤ pos greatest)
OfParts number least greatest n None = (n <ℤ least) ⊎ (pos greatest <ℤ n)
