-- What a text means as a function of the text, which laws show to agree with the grammar.
use Rattle.std.specs.Prelude.{ℕ, ◌+◌, ◌*◌, Bool, not, ◌&&◌, nat_lt, int_lt, List, Option, None, Some, if◌then◌else◌, ℤ, pos, ◌+ℤ◌, ◌-ℤ◌, ◌*ℤ◌}
use Rattle.std.specs.Int.{is_in_range}
use Rattle.std.specs.Option.{option_map}
use Rattle.jiff_core.specs.Calendar.{days_from_civil, days_in_month}
use Rattle.asn_times.specs.Reading.{bind, day_fields, generalized_fields, utc_fields}
use Rattle.asn_times.specs.declared.dates.DayFields.{DayFields}
use Rattle.asn_times.specs.declared.moments.ClockFields.{ClockFields}
use Rattle.asn_times.specs.declared.moments.MomentFields.{MomentFields}

-- The calendar has the day of the fields, or the clock the time of day.
abbrev pub is_real_day : DayFields → Bool
is_real_day f =
    nat_lt f.year 10_000
    && (is_in_range 1 12 f.month && is_in_range 1 (days_in_month (pos f.year) f.month) f.day)

abbrev pub is_real_clock : ClockFields → Bool
is_real_clock f =
    nat_lt f.hour 24
    && (nat_lt f.minute 60 && (nat_lt f.second 60 && nat_lt f.nanosecond 1_000_000_000))

-- The fields, if they are those of a day.
abbrev pub real_day : DayFields → Option DayFields
real_day f = if is_real_day f then Some f else None

-- The days from 1970-01-01 to the day.
abbrev pub day_number : DayFields → ℤ
day_number f = days_from_civil (pos f.year) f.month f.day

-- The seconds of the time of day, whose fraction is left out.
abbrev pub clock_seconds : ClockFields → ℕ
clock_seconds f = f.hour * 3600 + f.minute * 60 + f.second

-- The seconds from 1970-01-01T00:00:00 to the moment in UTC, whose fraction is left out.
abbrev pub moment_seconds : MomentFields → ℤ
moment_seconds f =
    day_number f.day *ℤ pos 86_400 +ℤ pos (clock_seconds f.clock) -ℤ f.offset

-- The nanoseconds up to the moment.
abbrev pub moment_nanoseconds : MomentFields → ℤ
moment_nanoseconds f = moment_seconds f *ℤ pos 1_000_000_000 +ℤ pos f.clock.nanosecond

-- The nanoseconds up to the start of the year.
abbrev pub year_start : ℤ → ℤ
year_start year = days_from_civil year 1 1 *ℤ pos 86_400_000_000_000

-- The moment, in nanoseconds, lies in the years from first to last.
abbrev pub is_in_years : ℤ → ℤ → ℤ → Bool
is_in_years first last n =
    not (int_lt n (year_start first)) && int_lt n (year_start (last +ℤ pos 1))

-- The fields, if they are those of a moment whose year in UTC lies from first to last.
abbrev pub real_moment : ℤ → ℤ → MomentFields → Option MomentFields
real_moment first last f =
    if is_real_day f.day && (is_real_clock f.clock
    && is_in_years first last (moment_nanoseconds f))
    then Some f else None

-- The day that a text of DATE means.
unfoldable pub day_of_text : List ℕ → Option ℤ
day_of_text text =
    option_map day_number (bind (day_fields text) real_day)

-- The moment that a text of UTCTime means, in seconds.
unfoldable pub utc_of_text : List ℕ → Option ℤ
utc_of_text text =
    option_map moment_seconds (bind (utc_fields text) (real_moment (pos 1950) (pos 2049)))

-- The moment that a text of GeneralizedTime means, in nanoseconds.
unfoldable pub generalized_of_text : List ℕ → Option ℤ
generalized_of_text text =
    option_map moment_nanoseconds (bind (generalized_fields text) (real_moment (pos 0) (pos 9999)))
