-- The written texts are ASCII.
use Rattle.std.proofs.Common.{ℕ, zero, suc, ◌+◌, ◌*◌, ◌/◌, ◌%◌, ◌<◌, ◌==◌, Bool, true, false, List, [], ◌∷◌, ◌++◌, IsAscii, IsUtf8, sym, subst, arith, ℤ, pos, ◌≤ℤ◌}
use Rattle.std.specs.Prelude.{unsigned_abs}
use Rattle.std.proofs.lemmas.Str.{IsAscii-append, IsUtf8-from_ascii}
use Rattle.jiff_core.specs.declared.civil.date.Date.{Date}
use Rattle.jiff_core.specs.declared.civil.datetime.DateTime.{DateTime}
use Rattle.jiff_core.proofs.SignedLemmas.{signed_arith}
use Rattle.jiff_core.proofs.CalendarLemmas.{days_in_month_bounds}
use Rattle.asn_times.specs.Days.{DayReads}
use Rattle.asn_times.specs.Digits.{two_digits, four_digits}
use Rattle.asn_times.specs.Generalized.{GeneralizedWritten, fraction_digits, fraction_text, second_digits}
use Rattle.asn_times.specs.Moments.{IsSmallMinute, fields_of_moment, minute_digits}
use Rattle.asn_times.specs.Utc.{UtcWritten}
use Rattle.asn_times.specs.declared.moments.MomentFields.{MomentFields}
use Rattle.asn_times.proofs.ReadDays.{natural}
use Rattle.asn_times.proofs.ReadMoments.{small_minute}

ascii_nil : IsAscii []
ascii_nil i = omega arith

ascii_cons : (b : ℕ) (bs : List ℕ) → b < 128 → IsAscii bs → IsAscii (b ∷ bs)
ascii_cons b bs h others zero = h
ascii_cons b bs h others (suc i) = others i

ascii_two : (n : ℕ) → n < 100 → IsAscii (two_digits n)
ascii_two n h =
    ascii_cons (48 + n / 10) ((48 + n % 10) ∷ []) (omega arith)
    (ascii_cons (48 + n % 10) [] (omega arith) ascii_nil)

ascii_four : (n : ℕ) → n < 10_000 → IsAscii (four_digits n)
ascii_four n h =
    IsAscii-append (two_digits (n / 100)) (two_digits (n % 100)) (ascii_two (n / 100) (omega arith))
    (ascii_two (n % 100) (omega arith))

ascii_minute : (f : MomentFields) → IsSmallMinute f → IsAscii (minute_digits f)
ascii_minute f small =
    let month = two_digits f.day.month in
    let day = two_digits f.day.day in
    let hour = two_digits f.clock.hour in
    let days = IsAscii-append month day (ascii_two f.day.month small.0) (ascii_two f.day.day small.1) in
    let hours = IsAscii-append (month ++ day) hour days (ascii_two f.clock.hour small.2) in
    IsAscii-append (month ++ day ++ hour) (two_digits f.clock.minute) hours (ascii_two f.clock.minute small.3)

one_digit : (b : Bool) (c : ℕ) (rest : List ℕ) → c < 128 → IsAscii rest
    → IsAscii (elim b as (λ _. List ℕ) [ true ↦ [] | false ↦ c ∷ rest ])
one_digit true c rest h others = ascii_nil
one_digit false c rest h others = ascii_cons c rest h others

ascii_digits : (places n : ℕ) → n < 1_000_000_000 → IsAscii (fraction_digits places n)
ascii_digits zero n h = ascii_nil
ascii_digits (suc places) n h =
    one_digit (n == 0) (48 + n / 100_000_000) (fraction_digits places (n % 100_000_000 * 10)) (omega arith)
    (ascii_digits places (n % 100_000_000 * 10) (omega arith))

ascii_fraction : (n : ℕ) → n < 1_000_000_000 → IsAscii (fraction_text n)
ascii_fraction n h = one_digit (n == 0) 46 (fraction_digits 9 n) (omega arith) (ascii_digits 9 n h)

zulu : IsAscii (90 ∷ [])
zulu = ascii_cons 90 [] (omega arith) ascii_nil

year_small : (d : Date) → pos 0 ≤ℤ d.year → unsigned_abs d.year < 10_000
year_small d h = let y = natural d.year h in omega (arith, signed_arith, d.year_in)

-- `MMDDhhmmss` after the digits of the year.
ascii_second : (year : List ℕ) (utc : DateTime) → IsAscii year
    → IsAscii (year ++ minute_digits (fields_of_moment utc) ++ two_digits utc.time.second)
ascii_second year utc years =
    let minute = minute_digits (fields_of_moment utc) in
    let minutes = IsAscii-append year minute years (ascii_minute (fields_of_moment utc) (small_minute utc)) in
    IsAscii-append (year ++ minute) (two_digits utc.time.second) minutes
    (ascii_two utc.time.second (omega (arith, utc.time.second_in)))

pub utc_utf8 : (n : ℤ) (text : List ℕ) → UtcWritten n text → IsUtf8 text
utc_utf8 n text w =
    let f = fields_of_moment w.utc in
    let year = two_digits (f.day.year % 100) in
    let seconds = ascii_second year w.utc (ascii_two (f.day.year % 100) (omega arith)) in
    let all = IsAscii-append (year ++ minute_digits f ++ two_digits f.clock.second) (90 ∷ []) seconds zulu in
    IsUtf8-from_ascii text (subst IsAscii (sym w.is) all)

pub generalized_utf8 : (n : ℤ) (text : List ℕ) → GeneralizedWritten n text → IsUtf8 text
generalized_utf8 n text w =
    let f = fields_of_moment w.utc in
    let fraction = fraction_text f.clock.nanosecond in
    let seconds = ascii_second (four_digits f.day.year) w.utc (ascii_four f.day.year (year_small w.utc.date w.years.0)) in
    let end = IsAscii-append fraction (90 ∷ []) (ascii_fraction f.clock.nanosecond w.utc.time.subsec_in) zulu in
    let all = IsAscii-append (second_digits f) (fraction ++ 90 ∷ []) seconds end in
    IsUtf8-from_ascii text (subst IsAscii (sym w.is) all)

pub day_utf8 : (n : ℤ) (text : List ℕ) → DayReads text n → IsUtf8 text
day_utf8 n text r =
    let d = r.date in
    let b = days_in_month_bounds d.year d.month in
    let year = four_digits (unsigned_abs d.year) in
    let month = two_digits d.month in
    let day = two_digits d.day in
    let months = ascii_cons 45 month (omega arith) (ascii_two d.month (omega (arith, d.month_in))) in
    let days = ascii_cons 45 day (omega arith) (ascii_two d.day (omega (arith, d.day_in, b))) in
    let front = IsAscii-append year (45 ∷ month) (ascii_four (unsigned_abs d.year) (year_small d r.years.0)) months in
    IsUtf8-from_ascii text (subst IsAscii (sym r.states) (IsAscii-append (year ++ 45 ∷ month) (45 ∷ day) front days))
