-- The written texts as functions of what contracts see, by a walk over the calendar from year 0.
use Rattle.std.specs.Prelude.{ℕ, zero, suc, ◌+◌, ◌-◌, ◌/◌, ◌%◌, true, false, nat_lt, List, ℤ, pos, ◌-ℤ◌, ◌*ℤ◌, unsigned_abs}
use Rattle.jiff_core.specs.Calendar.{days_from_civil, days_in_month, days_in_year}
use Rattle.asn_times.specs.Days.{day_digits}
use Rattle.asn_times.specs.Generalized.{generalized_digits}
use Rattle.asn_times.specs.Utc.{utc_digits}
use Rattle.asn_times.specs.declared.dates.DayFields.{DayFields}
use Rattle.asn_times.specs.declared.moments.MomentFields.{MomentFields}

-- The number of 0000-01-01.
abbrev pub first_day : ℤ
first_day = days_from_civil (pos 0) 1 1

-- The year, or the month, of the day that many days after the first of a year or of a month, and the
-- days before it there. So many years, or months, at most are passed.
abbrev pub year_of_days : ℕ → ℕ → ℕ → ℕ × ℕ
year_of_days zero year days = (year, days)
year_of_days (suc steps) year days = elim (nat_lt days (days_in_year (pos year))) [
  | true ↦ (year, days)
  | false ↦ year_of_days steps (year + 1) (days - days_in_year (pos year))
]

abbrev pub month_of_days : ℕ → ℤ → ℕ → ℕ → ℕ × ℕ
month_of_days zero year month days = (month, days)
month_of_days (suc steps) year month days = elim (nat_lt days (days_in_month year month)) [
  | true ↦ (month, days)
  | false ↦ month_of_days steps year (month + 1) (days - days_in_month year month)
]

-- The year, month and day of the month of the day that many days after 0000-01-01.
abbrev pub day_after : ℕ → DayFields
day_after days =
    let year = year_of_days days 0 days in
    let month = month_of_days 12 (pos year.0) 1 year.1 in
    record { year = year.0; month = month.0; day = month.1 + 1 }

-- The numbers of the moment that many nanoseconds after 0000-01-01T00:00:00.
abbrev pub moment_after : ℕ → MomentFields
moment_after nanoseconds = record {
  day = day_after (nanoseconds / 86_400_000_000_000);
  clock = record {
    hour = nanoseconds / 3_600_000_000_000 % 24;
    minute = nanoseconds / 60_000_000_000 % 60;
    second = nanoseconds / 1_000_000_000 % 60;
    nanosecond = nanoseconds % 1_000_000_000;
  };
  offset = pos 0;
}

-- The numbers of the moment n, in nanoseconds since 1970-01-01T00:00:00.
abbrev pub moment_at : ℤ → MomentFields
moment_at n = moment_after (unsigned_abs (n -ℤ first_day *ℤ pos 86_400_000_000_000))

-- The text of the day n, or of the moment n in seconds or in nanoseconds.
unfoldable pub day_text : ℤ → List ℕ
day_text n = let f = day_after (unsigned_abs (n -ℤ first_day)) in day_digits f.year f.month f.day

unfoldable pub utc_text : ℤ → List ℕ
utc_text n = utc_digits (moment_at (n *ℤ pos 1_000_000_000))

unfoldable pub generalized_text : ℤ → List ℕ
generalized_text n = generalized_digits (moment_at n)
