-- GeneralizedTime: `YYYYMMDDhhmmss` with a fraction and a zone, either of which may be left out.
use Rattle.std.specs.Prelude.{◌≡◌, ℕ, zero, suc, ◌+◌, ◌-◌, ◌*◌, ◌/◌, ◌%◌, ◌<◌, ◌≤◌, ◌==◌, ◌⊎◌, List, [], ◌∷◌, ◌++◌, length, true, false, ℤ, pos}
use Rattle.asn_times.specs.Digits.{two_digits, four_digits}
use Rattle.asn_times.specs.Moments.{minute_digits, IsSmallMinute, IsZone, MomentReads, IsMomentText, IsInYears, IsUnencodable}
use Rattle.asn_times.specs.declared.faults.TimeFault.{TimeFault}
use Rattle.asn_times.specs.declared.moments.MomentFields.{MomentFields}

-- Each character is a decimal digit.
abbrev pub AreDigits : List ℕ → Type 0
AreDigits [] = Unit {0}
AreDigits (b ∷ rest) = (48 ≤ b) × (b < 58) × AreDigits rest

-- The nanoseconds of the digits of a fraction of a second: a digit that comes first counts tenths
-- of a second, and those after it a tenth of what they would count if they came first.
abbrev pub fraction_value : List ℕ → ℕ
fraction_value [] = 0
fraction_value (b ∷ rest) = (b - 48) * 100_000_000 + fraction_value rest / 10

-- `.` or `,` and one to nine digits.
pub record IsDecimal (text : List ℕ) (nanosecond : ℕ) : Type 0 where
  pub mark : ℕ
  pub digits : List ℕ
  pub is : text ≡ mark ∷ digits
  pub is_mark : (mark ≡ 46) ⊎ (mark ≡ 44)
  pub are_digits : AreDigits digits
  pub some : 1 ≤ length digits
  pub nine : length digits ≤ 9
  pub value : nanosecond ≡ fraction_value digits

-- A fraction of a second, or nothing for none.
abbrev pub IsFraction : List ℕ → ℕ → Type 0
IsFraction text nanosecond = ((text ≡ []) × (nanosecond ≡ 0)) ⊎ IsDecimal text nanosecond

-- A zone, or nothing for UTC.
abbrev pub IsZoneOrUtc : List ℕ → ℤ → Type 0
IsZoneOrUtc text z = ((text ≡ []) × (z ≡ pos 0)) ⊎ IsZone text z

-- `YYYYMMDDhhmmss`.
abbrev pub second_digits : MomentFields → List ℕ
second_digits f = four_digits f.day.year ++ minute_digits f ++ two_digits f.clock.second

-- The text has the form of GeneralizedTime, with these numbers.
pub record GeneralizedStates (text : List ℕ) (f : MomentFields) : Type 0 where
  pub fraction : List ℕ
  pub zone : List ℕ
  pub is : text ≡ second_digits f ++ (fraction ++ zone)
  pub is_year : f.day.year < 10_000
  pub small : IsSmallMinute f
  pub is_second : f.clock.second < 100
  pub is_fraction : IsFraction fraction f.clock.nanosecond
  pub is_zone : IsZoneOrUtc zone f.offset

-- The text means the moment n, in nanoseconds since 1970-01-01T00:00:00 in UTC.
abbrev pub GeneralizedReads : List ℕ → ℤ → Type 0
GeneralizedReads text n = MomentReads GeneralizedStates (pos 0) (pos 9999) text n

-- The text means no moment.
abbrev pub StatesNoGeneralized : List ℕ → Type 0
StatesNoGeneralized text = (n : ℤ) → GeneralizedReads text n → ⊥

-- The moment n lies in the years of the text.
abbrev pub IsInGeneralizedYears : ℤ → Type 0
IsInGeneralizedYears n = IsInYears (pos 0) (pos 9999) n

-- The digits of the nanoseconds of a fraction up to the last that isn't 0, so many at most.
abbrev pub fraction_digits : ℕ → ℕ → List ℕ
fraction_digits zero n = []
fraction_digits (suc places) n =
    elim (n == 0) [
      | true ↦ []
      | false ↦ (48 + n / 100_000_000) ∷ fraction_digits places (n % 100_000_000 * 10)
    ]

-- The fraction with its mark, or nothing where it is 0.
abbrev pub fraction_text : ℕ → List ℕ
fraction_text n = elim (n == 0) [ true ↦ [] | false ↦ 46 ∷ fraction_digits 9 n ]

-- `YYYYMMDDhhmmss`, the fraction without trailing zeros, if there is one, and `Z`.
abbrev pub generalized_digits : MomentFields → List ℕ
generalized_digits f =
    second_digits f ++ (fraction_text f.clock.nanosecond ++ 90 ∷ [])

-- The text is the written form of the moment n.
abbrev pub GeneralizedWritten : ℤ → List ℕ → Type 0
GeneralizedWritten n text = IsMomentText generalized_digits (pos 0) (pos 9999) n text

-- Why a moment has no text.
abbrev pub IsUnwrittenGeneralized : ℤ → TimeFault → Type 0
IsUnwrittenGeneralized n fault = IsUnencodable (pos 0) (pos 9999) n fault
