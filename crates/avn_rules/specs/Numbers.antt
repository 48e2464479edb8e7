-- The whole numbers of AVN as sign and magnitude.
use Rattle.std.specs.Prelude.{◌≡◌, Bool, ℕ, ◌≤◌, ◌^◌, List, Option, Some, None}
use Rattle.asn_core.specs.Numbers.{signed}
use Rattle.asn_traits.specs.Digits.{digits, signed_number}
use Rattle.asn_core.specs.declared.whole_number.WholeNumber.{WholeNumber}

-- The text is this number, none inside where its magnitude has more than 128 bits, or no number.
abbrev pub ReadsNumber : List ℕ → Option (Option WholeNumber) → Type 0
ReadsNumber text (Some (Some n)) = signed_number text ≡ Some (signed n.negative n.magnitude)
ReadsNumber text (Some None) = (negative : Bool) × (magnitude : ℕ) × (signed_number text ≡ Some (signed negative magnitude)) × (2 ^ 128 ≤ magnitude)
ReadsNumber text None = signed_number text ≡ None

-- The number of one or more digits, none inside where it has more than 128 bits, and nothing where the text is not of digits.
abbrev pub ReadsDigits : List ℕ → Option (Option ℕ) → Type 0
ReadsDigits text (Some (Some n)) = digits text ≡ Some n
ReadsDigits text (Some None) = (n : ℕ) × (digits text ≡ Some n) × (2 ^ 128 ≤ n)
ReadsDigits text None = digits text ≡ None

-- The count is this number, or none where the number has more than 128 bits.
abbrev pub Counts : ℕ → Option ℕ → Type 0
Counts n (Some m) = n ≡ m
Counts n None = 2 ^ 128 ≤ n
