-- What the texts of moments share: their numbers, the zone, and the moment in UTC that they mean.
use Rattle.std.specs.Prelude.{◌≡◌, ℕ, ◌+◌, ◌*◌, ◌<◌, ◌⊎◌, List, [], ◌∷◌, ◌++◌, ℤ, pos, neg_ℤ, ◌-ℤ◌, ◌*ℤ◌}
use Rattle.jiff_core.specs.declared.civil.datetime.DateTime.{DateTime}
use Rattle.jiff_core.specs.declared.civil.time.Time.{Time}
use Rattle.jiff_core.specs.Calendar.{IsBetween}
use Rattle.jiff_core.specs.DateTime.{civil_nanos}
use Rattle.asn_times.specs.Days.{HasDay, IsSmallDay, fields_of_date}
use Rattle.asn_times.specs.Digits.{two_digits}
use Rattle.asn_times.specs.declared.faults.TimeFault.{TimeFault}
use Rattle.asn_times.specs.declared.faults.TimeFault.TheVariants.{InvalidDate, OutOfYears, OutOfMemory}
use Rattle.asn_times.specs.declared.moments.ClockFields.{ClockFields}
use Rattle.asn_times.specs.declared.moments.MomentFields.{MomentFields}

-- `MMDDhhmm`.
abbrev pub minute_digits : MomentFields → List ℕ
minute_digits f =
    two_digits f.day.month ++ two_digits f.day.day
    ++ two_digits f.clock.hour ++ two_digits f.clock.minute

-- The numbers of `MMDDhhmm` fit their digits.
abbrev pub IsSmallMinute : MomentFields → Type 0
IsSmallMinute f =
    (f.day.month < 100) × (f.day.day < 100)
    × (f.clock.hour < 100) × (f.clock.minute < 100)

-- The seconds of h hours and m minutes.
abbrev pub offset_seconds : ℕ → ℕ → ℤ
offset_seconds h m = pos (h * 3600 + m * 60)

-- The zone `Z`, `+hhmm` or `-hhmm`: how many seconds local time is ahead of UTC.
abbrev pub IsZone : List ℕ → ℤ → Type 0
IsZone text z =
    ((text ≡ 90 ∷ []) × (z ≡ pos 0))
    ⊎ ((h : ℕ) × (m : ℕ) × (h < 24) × (m < 60)
    × (((text ≡ 43 ∷ two_digits h ++ two_digits m) × (z ≡ offset_seconds h m))
    ⊎ ((text ≡ 45 ∷ two_digits h ++ two_digits m) × (z ≡ neg_ℤ (offset_seconds h m)))))

-- The time of day has the numbers of the fields.
pub record HasClock (f : ClockFields) (time : Time) : Type 0 where
  pub hour : time.hour ≡ f.hour
  pub minute : time.minute ≡ f.minute
  pub second : time.second ≡ f.second
  pub nanosecond : time.subsec_nanosecond ≡ f.nanosecond

-- The fields state that moment in UTC: the calendar and the clock have their local time, and UTC
-- is local time minus the offset.
pub record IsMomentOf (f : MomentFields) (utc : DateTime) : Type 0 where
  pub local : DateTime
  pub day : HasDay f.day local.date
  pub clock : HasClock f.clock local.time
  pub shifted : civil_nanos utc ≡ civil_nanos local -ℤ f.offset *ℤ pos 1_000_000_000

-- The text states the moment n, in nanoseconds since 1970-01-01T00:00:00 in UTC, by a grammar that
-- states which fields a text has, and the moment's year in UTC lies from first to last.
pub record MomentReads (States : List ℕ → MomentFields → Type 0) (first last : ℤ)
    (text : List ℕ) (n : ℤ) : Type 0 where
  pub fields : MomentFields
  pub states : States text fields
  pub utc : DateTime
  pub moment : IsMomentOf fields utc
  pub years : IsBetween first last utc.date.year
  pub number : civil_nanos utc ≡ n

-- The moment's year in UTC lies from first to last.
pub record IsInYears (first last : ℤ) (n : ℤ) : Type 0 where
  pub utc : DateTime
  pub years : IsBetween first last utc.date.year
  pub number : civil_nanos utc ≡ n

-- The numbers of a moment in UTC.
abbrev pub fields_of_moment : DateTime → MomentFields
fields_of_moment utc = record {
  day = fields_of_date utc.date;
  clock = record {
    hour = utc.time.hour;
    minute = utc.time.minute;
    second = utc.time.second;
    nanosecond = utc.time.subsec_nanosecond;
  };
  offset = pos 0;
}

-- The text is the written form of the moment n, by a function from the numbers of the moment in
-- UTC, and its year lies from first to last.
pub record IsMomentText (digits : MomentFields → List ℕ) (first last : ℤ)
    (n : ℤ) (text : List ℕ) : Type 0 where
  pub utc : DateTime
  pub years : IsBetween first last utc.date.year
  pub number : civil_nanos utc ≡ n
  pub is : text ≡ digits (fields_of_moment utc)

-- The numbers of a time of day, or of a moment, fit their digits, and an offset is a day at most.
abbrev pub IsSmallClock : ClockFields → Type 0
IsSmallClock f =
    (f.hour < 100) × (f.minute < 100) × (f.second < 100) × (f.nanosecond < 1_000_000_000)

abbrev pub IsSmallMoment : MomentFields → Type 0
IsSmallMoment f =
    IsSmallDay f.day × IsSmallClock f.clock
    × IsBetween (neg_ℤ (pos 86400)) (pos 86400) f.offset

-- The clock has the time that the fields state.
abbrev pub IsRealClock : ClockFields → Type 0
IsRealClock f = (f.hour < 24) × (f.minute < 60) × (f.second < 60) × (f.nanosecond < 1_000_000_000)

-- The fields state no moment with a year from first to last, or they state that one.
abbrev pub HasNoMoment : ℤ → ℤ → MomentFields → Type 0
HasNoMoment first last f =
    (utc : DateTime) → IsMomentOf f utc → IsBetween first last utc.date.year → ⊥

abbrev pub HasMoment : ℤ → ℤ → MomentFields → DateTime → Type 0
HasMoment first last f utc = IsMomentOf f utc × IsBetween first last utc.date.year

-- Why a moment has no text: its year is outside, or there was no memory for the text.
abbrev pub IsUnencodable : ℤ → ℤ → ℤ → TimeFault → Type 0
IsUnencodable first last n InvalidDate = ⊥
IsUnencodable first last n OutOfYears = IsInYears first last n → ⊥
IsUnencodable first last n OutOfMemory = IsInYears first last n
