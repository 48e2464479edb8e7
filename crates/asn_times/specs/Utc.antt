-- UTCTime: `YYMMDDhhmm`, seconds that may be left out, and a zone, in the years 1950 to 2049.
use Rattle.std.specs.Prelude.{◌≡◌, ℕ, ◌+◌, ◌%◌, ◌<◌, ◌⊎◌, nat_lt, if◌then◌else◌, List, [], ◌∷◌, ◌++◌, ℤ, pos, ◌*ℤ◌}
use Rattle.asn_times.specs.Digits.{two_digits}
use Rattle.asn_times.specs.Moments.{minute_digits, IsSmallMinute, IsZone, MomentReads, IsMomentText, IsInYears, IsUnencodable}
use Rattle.asn_times.specs.declared.faults.TimeFault.{TimeFault}
use Rattle.asn_times.specs.declared.moments.MomentFields.{MomentFields}

-- Two digits below 50 stand for a year of 2000 to 2049, others for one of 1950 to 1999.
abbrev pub full_year : ℕ → ℕ
full_year short = if nat_lt short 50 then 2000 + short else 1900 + short

-- `ss`, or nothing for 0 seconds.
abbrev pub IsSeconds : List ℕ → ℕ → Type 0
IsSeconds text s = ((text ≡ []) × (s ≡ 0)) ⊎ ((text ≡ two_digits s) × (s < 100))

-- The text has the form of UTCTime, with these numbers.
pub record UtcStates (text : List ℕ) (f : MomentFields) : Type 0 where
  pub short : ℕ
  pub seconds : List ℕ
  pub zone : List ℕ
  pub is : text ≡ two_digits short ++ minute_digits f ++ seconds ++ zone
  pub is_short : short < 100
  pub small : IsSmallMinute f
  pub year : f.day.year ≡ full_year short
  pub is_seconds : IsSeconds seconds f.clock.second
  pub whole : f.clock.nanosecond ≡ 0
  pub is_zone : IsZone zone f.offset

-- The text means the moment n, in seconds since 1970-01-01T00:00:00 in UTC.
abbrev pub UtcReads : List ℕ → ℤ → Type 0
UtcReads text n = MomentReads UtcStates (pos 1950) (pos 2049) text (n *ℤ pos 1_000_000_000)

-- The text means no moment.
abbrev pub StatesNoUtc : List ℕ → Type 0
StatesNoUtc text = (n : ℤ) → UtcReads text n → ⊥

-- The moment n lies in the years of the text.
abbrev pub IsInUtcYears : ℤ → Type 0
IsInUtcYears n = IsInYears (pos 1950) (pos 2049) (n *ℤ pos 1_000_000_000)

-- `YYMMDDhhmmssZ`.
abbrev pub utc_digits : MomentFields → List ℕ
utc_digits f =
    two_digits (f.day.year % 100) ++ minute_digits f ++ two_digits f.clock.second ++ 90 ∷ []

-- The text is the written form of the moment n.
abbrev pub UtcWritten : ℤ → List ℕ → Type 0
UtcWritten n text = IsMomentText utc_digits (pos 1950) (pos 2049) (n *ℤ pos 1_000_000_000) text

-- Why a moment has no text.
abbrev pub IsUnwrittenUtc : ℤ → TimeFault → Type 0
IsUnwrittenUtc n fault = IsUnencodable (pos 1950) (pos 2049) (n *ℤ pos 1_000_000_000) fault
