-- DATE: `YYYY-MM-DD` in the years 0000 to 9999.
use Rattle.std.specs.Prelude.{◌≡◌, ℕ, ◌<◌, List, ◌∷◌, ◌++◌, ℤ, pos, unsigned_abs}
use Rattle.jiff_core.specs.declared.civil.date.Date.{Date}
use Rattle.jiff_core.specs.Calendar.{IsBetween, IsDate}
use Rattle.jiff_core.specs.Date.{epoch_day}
use Rattle.asn_times.specs.Digits.{two_digits, four_digits}
use Rattle.asn_times.specs.declared.dates.DayFields.{DayFields}
use Rattle.asn_times.specs.declared.faults.TimeFault.{TimeFault}
use Rattle.asn_times.specs.declared.faults.TimeFault.TheVariants.{InvalidDate, OutOfYears, OutOfMemory}

-- `YYYY-MM-DD` of a year, a month and a day of the month.
abbrev pub day_digits : ℕ → ℕ → ℕ → List ℕ
day_digits year month day = four_digits year ++ 45 ∷ two_digits month ++ 45 ∷ two_digits day

-- The text states the day whose number is n, counted from 1970-01-01. Months and days are real
-- ones, since `Date` has no others.
pub record DayReads (text : List ℕ) (n : ℤ) : Type 0 where
  pub date : Date
  pub years : IsBetween (pos 0) (pos 9999) date.year
  pub states : text ≡ day_digits (unsigned_abs date.year) date.month date.day
  pub number : epoch_day date ≡ n

-- The day lies in the years of its text.
pub record IsInDayYears (n : ℤ) : Type 0 where
  pub date : Date
  pub years : IsBetween (pos 0) (pos 9999) date.year
  pub number : epoch_day date ≡ n

-- The text states no day.
abbrev pub StatesNoDay : List ℕ → Type 0
StatesNoDay text = (n : ℤ) → DayReads text n → ⊥

-- The numbers fit their digits, or the calendar has the day that they state.
abbrev pub IsSmallDay : DayFields → Type 0
IsSmallDay f = (f.year < 10_000) × (f.month < 100) × (f.day < 100)

abbrev pub IsRealDay : DayFields → Type 0
IsRealDay f = IsDate (pos f.year) (pos f.month) (pos f.day)

-- The date has the numbers of the fields.
pub record HasDay (f : DayFields) (date : Date) : Type 0 where
  pub year : date.year ≡ pos f.year
  pub month : date.month ≡ f.month
  pub day : date.day ≡ f.day

-- Why a day has no text: its year is outside, or there was no memory for the text.
abbrev pub IsUnwrittenDay : ℤ → TimeFault → Type 0
IsUnwrittenDay n InvalidDate = ⊥
IsUnwrittenDay n OutOfYears = IsInDayYears n → ⊥
IsUnwrittenDay n OutOfMemory = IsInDayYears n

-- The numbers of a date of the years from 0000 on.
abbrev pub fields_of_date : Date → DayFields
fields_of_date d = record { year = unsigned_abs d.year; month = d.month; day = d.day }
