-- The numbers that bounds admit, and which bounds admit the numbers of two (X.680, sections 49 to 51).
use Rattle.std.specs.Prelude.{◌≡◌, ℤ, pos, ◌+ℤ◌, ◌-ℤ◌, ◌<ℤ◌, ◌≤ℤ◌, ◌⊎◌, ℕ, Bool, true, false, ◌&&◌, not, if◌then◌else◌, Option, Some, None, int_lt}
use Rattle.std.specs.Ordering.{int_eq, int_cmp, nat_cmp}
use Rattle.std.proofs.Common.{arith}
use Rattle.std.proofs.lemmas.Bool.Decides.{nat_tests}
use Rattle.std.proofs.lemmas.Int.{ints}
use Rattle.asn_core.specs.declared.constraint.Bounded.{Bounded}
use Rattle.asn_core.specs.declared.constraint.Bounded.TheVariants.{None as Every, Single, Range}

-- The bounds admit one number.
abbrev pub is_single : {T : Type 0} → Bounded T → Bool
is_single Every = false
is_single (Single n) = true
is_single (Range start end) = false

-- The bounds are those of every number.
abbrev pub is_every : {T : Type 0} → Bounded T → Bool
is_every Every = true
is_every (Single n) = false
is_every (Range start end) = false

-- The single number, or the start of the range, if it has one.
abbrev pub start_of : {T : Type 0} → Bounded T → Option T
start_of Every = None
start_of (Single n) = Some n
start_of (Range start end) = start

-- The number is not below the start, if there is one.
abbrev pub is_from : {T : Type 0} → (T → ℤ) → Option T → ℤ → Bool
is_from number None n = true
is_from number (Some start) n = not (int_lt n (number start))

-- The number is not above the end, if there is one.
abbrev pub is_up_to : {T : Type 0} → (T → ℤ) → Option T → ℤ → Bool
is_up_to number None n = true
is_up_to number (Some end) n = not (int_lt (number end) n)

-- The bounds admit the number.
abbrev pub is_admitted : {T : Type 0} → (T → ℤ) → Bounded T → ℤ → Bool
is_admitted number Every n = true
is_admitted number (Single m) n = int_eq (number m) n
is_admitted number (Range start end) n = is_from number start n && is_up_to number end n

-- The answer is how many numbers there are from the first to the last, and there is none where the last is below the first or so many are above the greatest number.
abbrev pub IsCount : {T : Type 0} → (T → ℤ) → ℤ → ℤ → ℤ → Option T → Type 0
IsCount number greatest first last (Some n) = (first ≤ℤ last) × (number n ≡ (last -ℤ first) +ℤ pos 1)
IsCount number greatest first last None = (last <ℤ first) ⊎ (greatest <ℤ ((last -ℤ first) +ℤ pos 1))

-- The answer is one.
abbrev pub IsOne : {T : Type 0} → (T → ℤ) → Option T → Type 0
IsOne number (Some n) = number n ≡ pos 1
IsOne number None = ⊥

-- The answer is how many numbers there are from the start to the end, and there is none where one of them is absent.
abbrev pub IsRangeCount : {T : Type 0} → (T → ℤ) → ℤ → Option T → Option T → Option T → Type 0
IsRangeCount number greatest (Some start) (Some end) answer = IsCount number greatest (number start) (number end) answer
IsRangeCount number greatest (Some start) None answer = answer ≡ None
IsRangeCount number greatest None end answer = answer ≡ None

-- The answer is how many numbers the bounds admit, and there is none where this is no number of the type, or none are.
abbrev pub HasCount : {T : Type 0} → (T → ℤ) → ℤ → Bounded T → Option T → Type 0
HasCount number greatest Every answer = answer ≡ None
HasCount number greatest (Single n) answer = IsOne number answer
HasCount number greatest (Range start end) answer = IsRangeCount number greatest start end answer

-- The larger of the numbers that are there.
abbrev pub larger : {T : Type 0} → (T → ℤ) → Option T → Option T → Option T
larger number None b = b
larger number (Some a) None = Some a
larger number (Some a) (Some b) = Some (if int_lt (number a) (number b) then b else a)

-- The smaller of the numbers that are there.
abbrev pub smaller : {T : Type 0} → (T → ℤ) → Option T → Option T → Option T
smaller number None b = b
smaller number (Some a) None = Some a
smaller number (Some a) (Some b) = Some (if int_lt (number b) (number a) then b else a)

-- The range from the start to the end, if it admits a number.
abbrev pub range_if_any : {T : Type 0} → (T → ℤ) → Option T → Option T → Option (Bounded T)
range_if_any number (Some start) (Some end) = if int_lt (number end) (number start) then None else Some (Range (Some start) (Some end))
range_if_any number (Some start) None = Some (Range (Some start) None)
range_if_any number None end = Some (Range None end)

-- The bounds of the numbers that both admit. Bounds of every number leave the others as they are, a single number stays single, and of two ranges there is none where they have no number in common.
abbrev pub intersection : {T : Type 0} → (T → ℤ) → Bounded T → Bounded T → Option (Bounded T)
intersection number Every b = Some b
intersection number (Single n) Every = Some (Single n)
intersection number (Single n) (Single m) = if int_eq (number m) (number n) then Some (Single n) else None
intersection number (Single n) (Range start end) = if is_admitted number (Range start end) (number n) then Some (Single n) else None
intersection number (Range start end) Every = Some (Range start end)
intersection number (Range start end) (Single n) = if is_admitted number (Range start end) (number n) then Some (Single n) else None
intersection number (Range start end) (Range start' end') = range_if_any number (larger number start start') (smaller number end end')

-- Natural numbers compare as whole numbers.
pub nat_cmp-int_cmp : (a b : ℕ) → nat_cmp a b ≡ int_cmp (pos a) (pos b)
nat_cmp-int_cmp a b = grind (arith, nat_tests, ints)
