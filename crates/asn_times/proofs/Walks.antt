-- The walk over the calendar comes to the day.
use Rattle.std.proofs.Common.{◌≡◌, ℕ, zero, suc, ◌+◌, ◌-◌, ◌*◌, ◌/◌, ◌%◌, ◌<◌, ◌≤◌, ◌⊎◌, inl, inr, Bool, true, false, nat_lt, List, refl, sym, ap, ◌∙◌, arith, ℤ, pos, ◌+ℤ◌, ◌-ℤ◌, ◌*ℤ◌, ◌≤ℤ◌, ◌<ℤ◌}
use Rattle.std.specs.Prelude.{unsigned_abs}
use Rattle.std.proofs.lemmas.Bool.Decides.{nat_tests}
use Rattle.jiff_core.specs.declared.civil.date.Date.{Date}
use Rattle.jiff_core.specs.declared.civil.datetime.DateTime.{DateTime}
use Rattle.jiff_core.specs.DateTime.{civil_nanos}
use Rattle.jiff_core.specs.Date.{epoch_day}
use Rattle.jiff_core.specs.Time.{time_nanos}
use Rattle.jiff_core.proofs.SignedLemmas.{signed_arith}
use Rattle.jiff_core.proofs.DateTimeLemmas.{civil_nanos-parts, time_nanos_bound}
use Rattle.jiff_core.proofs.DateLemmas.{epoch_day_injective, civil}
use Rattle.jiff_core.specs.Calendar.{days_from_civil, day_count, days_in_year, days_in_month, days_of_months, day_of_year}
use Rattle.jiff_core.proofs.CalendarLemmas.{day_count_bounds, day_count-end, day_count-later_year, day_count-next_year, day_count-day_of_year, day_count-lt_year, days_of_months_more, days_of_months_all, days_of_months-zero, days_in_year_bounds, days_in_month_bounds, days_from_civil-day_count}
use Rattle.asn_times.specs.Days.{DayReads, IsInDayYears, day_digits, fields_of_date}
use Rattle.asn_times.specs.Moments.{IsInYears, IsMomentText, fields_of_moment}
use Rattle.asn_times.specs.Utc.{IsInUtcYears, UtcReads, UtcWritten, utc_digits}
use Rattle.asn_times.specs.Generalized.{GeneralizedReads, GeneralizedWritten, IsInGeneralizedYears, generalized_digits}
use Rattle.asn_times.specs.Written.{first_day, year_of_days, month_of_days, day_after, moment_at, day_text, utc_text, generalized_text}
use Rattle.asn_times.specs.declared.moments.MomentFields.{MomentFields}
use Rattle.asn_times.proofs.ReadDigits.{below}
use Rattle.asn_times.proofs.ReadDays.{natural}
use Rattle.asn_times.proofs.ReadUtc.{utc-written-reads}
use Rattle.asn_times.proofs.ReadGeneralized.{generalized-written-reads}

above : (a b : ℕ) → nat_lt a b ≡ false → b ≤ a
above a b t = grind (arith, nat_tests)

-- Where the walk over the years ends.
record InYear (y days : ℕ) (r : ℕ × ℕ) : Type 0 where
  pub short : r.1 < days_in_year (pos r.0)
  pub same : day_count (pos y) 1 1 + days ≡ day_count (pos r.0) 1 1 + r.1

year_walk : (steps y days : ℕ) → days ≤ 365 * steps → InYear y days (year_of_days steps y days)
year_walk zero y days h = let b = days_in_year_bounds (pos y) in record { short = omega (arith, b); same = refl }
year_walk (suc steps) y days h =
    elim (nat_lt days (days_in_year (pos y))) as (λ b. nat_lt days (days_in_year (pos y)) ≡ b → InYear y days (elim b as (λ _. ℕ × ℕ) [ true ↦ (y, days) | false ↦ year_of_days steps (y + 1) (days - days_in_year (pos y)) ])) [
      | true ↦ λ t. record { short = below _ _ t; same = refl }
      | false ↦ λ t.
          let a = above days (days_in_year (pos y)) t in
          let b = days_in_year_bounds (pos y) in
          let w = year_walk steps (y + 1) (days - days_in_year (pos y)) (omega (arith, b)) in
          let n = day_count-next_year (pos y) (pos (y + 1)) (omega (arith, signed_arith)) (omega (arith, signed_arith)) in
          record { short = w.short; same = let s = w.same in omega arith }
    ] refl

-- Where the walk over the months ends.
record InMonth (y : ℤ) (m days : ℕ) (r : ℕ × ℕ) : Type 0 where
  pub short : r.1 < days_in_month y r.0
  pub same : days_of_months y (m - 1) + days ≡ days_of_months y (r.0 - 1) + r.1
  pub real : (1 ≤ r.0) × (r.0 ≤ 12)

month_walk : (steps : ℕ) (y : ℤ) (m days : ℕ) → 1 ≤ m → m + steps ≡ 13 → days_of_months y (m - 1) + days < days_in_year y → InMonth y m days (month_of_days steps y m days)
month_walk zero y m days l e h =
    let a = days_of_months_all y in
    let c : days_of_months y (m - 1) ≡ days_of_months y 12 = ap (days_of_months y) (omega arith) in
    absurd (omega arith)
month_walk (suc steps) y m days l e h =
    elim (nat_lt days (days_in_month y m)) as (λ b. nat_lt days (days_in_month y m) ≡ b → InMonth y m days (elim b as (λ _. ℕ × ℕ) [ true ↦ (m, days) | false ↦ month_of_days steps y (m + 1) (days - days_in_month y m) ])) [
      | true ↦ λ t. record { short = below _ _ t; same = refl; real = omega arith }
      | false ↦ λ t.
          let a = above days (days_in_month y m) t in
          let n = days_of_months_more y m l in
          let c : days_of_months y (m + 1 - 1) ≡ days_of_months y m = ap (days_of_months y) (omega arith) in
          let w = month_walk steps y (m + 1) (days - days_in_month y m) (omega arith) (omega arith) (omega arith) in
          record { short = w.short; same = let s = w.same in omega arith; real = w.real }
    ] refl

-- The days from 0000-01-01 to a date.
days_before : (d : Date) → pos 0 ≤ℤ d.year → pos (unsigned_abs (epoch_day d -ℤ first_day)) ≡ epoch_day d -ℤ first_day
days_before d y = natural (epoch_day d -ℤ first_day) (by (sides d.year y))
  where
    sides : (y : ℤ) → pos 0 ≤ℤ y → (y ≡ pos 0) ⊎ (pos 0 <ℤ y)
    sides y h = grind (arith, signed_arith)

    a : days_from_civil d.year d.month d.day ≡ epoch_day d
    a = refl

    by : (d.year ≡ pos 0) ⊎ (pos 0 <ℤ d.year) → pos 0 ≤ℤ (epoch_day d -ℤ first_day)
    by (inl e) =
        let o = day_count-day_of_year d.year d.month d.day (omega (arith, d.day_in)) in
        let s : day_count d.year 1 1 ≡ day_count (pos 0) 1 1 = ap (λ y. day_count y 1 1) e in
        let k = days_from_civil-day_count d.year d.month d.day in
        let f = days_from_civil-day_count (pos 0) 1 1 in
        let p : 1 ≤ day_of_year d.year d.month d.day = omega (arith, d.day_in) in
        omega (arith, signed_arith)
    by (inr l) =
        let b = days_in_month_bounds (pos 0) 1 in
        let o = day_count-lt_year (pos 0) 1 1 d.year d.month d.day (omega (arith, signed_arith), omega arith, omega (arith, b)) (omega (arith, d.day_in)) l in
        let k = days_from_civil-day_count d.year d.month d.day in
        let f = days_from_civil-day_count (pos 0) 1 1 in
        omega (arith, signed_arith)

-- The date of the day that many days after 0000-01-01, up to 9999-12-31.
module _ (days : ℕ) (within : day_count (pos 0) 1 1 + days < 7_304_850) where
  abbrev y : ℕ × ℕ
  y = year_of_days days 0 days

  abbrev m : ℕ × ℕ
  m = month_of_days 12 (pos y.0) 1 y.1

  in_year : InYear 0 days y
  in_year = year_walk days 0 days (omega arith)

  in_month : InMonth (pos y.0) 1 y.1 m
  in_month =
      let z = days_of_months-zero (pos y.0) in
      let h = in_year.short in
      month_walk 12 (pos y.0) 1 y.1 (omega arith) refl (omega arith)

  year_high : y.0 ≤ 9999
  year_high = by (nat_lt 9999 y.0) refl
    where
      by : (b : Bool) → nat_lt 9999 y.0 ≡ b → y.0 ≤ 9999
      by true t =
          let gt = below 9999 y.0 t in
          let later = day_count-later_year (pos 9999) (pos y.0) (omega (arith, signed_arith)) (omega (arith, signed_arith)) in
          let next = day_count-next_year (pos 9999) (pos 10000) (omega (arith, signed_arith)) (omega (arith, signed_arith)) in
          let end = day_count-end in
          let s = in_year.same in
          absurd (omega arith)
      by false t = above 9999 y.0 t

  pub date_after : Date
  date_after = record {
    year = pos y.0;
    month = m.0;
    day = m.1 + 1;
    year_in = (omega (arith, signed_arith, year_high), omega (arith, signed_arith, year_high));
    month_in = in_month.real;
    day_in = (omega arith, let h = in_month.short in omega arith);
  }

  pub date_after-number : epoch_day date_after ≡ first_day +ℤ pos days
  unfolding date_after
  date_after-number =
      let a = day_count-day_of_year (pos y.0) m.0 (m.1 + 1) (omega arith) in
      let e = in_year.same in
      let f = in_month.same in
      let z = days_of_months-zero (pos y.0) in
      let u = days_from_civil-day_count (pos y.0) m.0 (m.1 + 1) in
      let k = days_from_civil-day_count (pos 0) 1 1 in
      omega (arith, signed_arith)

  date_after-fields : day_after days ≡ fields_of_date date_after
  unfolding date_after
  date_after-fields = refl

module _ (d : Date) (from : pos 0 ≤ℤ d.year) where
  abbrev before : ℕ
  before = unsigned_abs (epoch_day d -ℤ first_day)

  within : day_count (pos 0) 1 1 + before < 7_304_850
  within =
      let a = days_before d from in
      let b = day_count_bounds d.year d.month d.day (civil d) in
      let k = days_from_civil-day_count d.year d.month d.day in
      let f = days_from_civil-day_count (pos 0) 1 1 in
      omega (arith, signed_arith)

  -- The walk comes to the date.
  pub day_after-date : day_after before ≡ fields_of_date d
  day_after-date =
      let number = date_after-number before within in
      let same = epoch_day_injective (date_after before within) d (let a = days_before d from in omega (arith, signed_arith)) in
      date_after-fields before within
      ∙ (λ i. record { year = unsigned_abs (same.0 i); month = same.1 i; day = same.2 i })

-- The numbers of a moment are those that the walk comes to.
pub moment_at-moment : (utc : DateTime) → pos 0 ≤ℤ utc.date.year → moment_at (civil_nanos utc) ≡ fields_of_moment utc
moment_at-moment utc from =
    let k = unsigned_abs (epoch_day utc.date -ℤ first_day) in
    let s = unsigned_abs (civil_nanos utc -ℤ first_day *ℤ pos 86_400_000_000_000) in
    let t = utc.time in
    let d : pos k ≡ epoch_day utc.date -ℤ first_day = days_before utc.date from in
    let parts = civil_nanos-parts utc in
    let b = time_nanos_bound t in
    let n : pos s ≡ civil_nanos utc -ℤ first_day *ℤ pos 86_400_000_000_000 = natural _ (omega (arith, signed_arith, d, parts)) in
    let whole : s ≡ k * 86_400_000_000_000 + time_nanos t = omega (arith, signed_arith, d, parts, n) in
    let days : s / 86_400_000_000_000 ≡ k = omega (arith, whole, b) in
    let hours : s / 3_600_000_000_000 % 24 ≡ t.hour = omega (arith, whole, t.hour_in, t.minute_in, t.second_in, t.subsec_in) in
    let minutes : s / 60_000_000_000 % 60 ≡ t.minute = omega (arith, whole, t.hour_in, t.minute_in, t.second_in, t.subsec_in) in
    let seconds : s / 1_000_000_000 % 60 ≡ t.second = omega (arith, whole, t.hour_in, t.minute_in, t.second_in, t.subsec_in) in
    let rest : s % 1_000_000_000 ≡ t.subsec_nanosecond = omega (arith, whole, t.subsec_in) in
    let date = ap day_after days ∙ day_after-date utc.date from in
    λ i. record { day = date i; clock = record { hour = hours i; minute = minutes i; second = seconds i; nanosecond = rest i }; offset = pos 0 }

moment_text : (digits : MomentFields → List ℕ) (first last n : ℤ) (text : List ℕ) → pos 0 ≤ℤ first → IsMomentText digits first last n text → text ≡ digits (moment_at n)
moment_text digits first last n text h w =
    let at = moment_at-moment w.utc (omega (arith, signed_arith, w.years)) in
    w.is ∙ ap digits (sym at ∙ ap moment_at w.number)

-- The texts that are written are the values of the functions.
pub is_day_text : (n : ℤ) (text : List ℕ) → DayReads text n → text ≡ day_text n
unfolding day_text
is_day_text n text r =
    let at = day_after-date r.date r.years.0 in
    r.states
    ∙ ap (λ f. day_digits f.year f.month f.day) (sym at)
    ∙ ap (λ n. let f = day_after (unsigned_abs (n -ℤ first_day)) in day_digits f.year f.month f.day) r.number

pub is_utc_text : (n : ℤ) (text : List ℕ) → UtcWritten n text → text ≡ utc_text n
unfolding utc_text
is_utc_text n text w = moment_text utc_digits (pos 1950) (pos 2049) (n *ℤ pos 1_000_000_000) text (omega (arith, signed_arith)) w

pub is_generalized_text : (n : ℤ) (text : List ℕ) → GeneralizedWritten n text → text ≡ generalized_text n
unfolding generalized_text
is_generalized_text n text w = moment_text generalized_digits (pos 0) (pos 9999) n text (omega (arith, signed_arith)) w

years_text : (digits : MomentFields → List ℕ) (first last n : ℤ) → pos 0 ≤ℤ first → IsInYears first last n → IsMomentText digits first last n (digits (moment_at n))
years_text digits first last n h r =
    let w : IsMomentText digits first last n (digits (fields_of_moment r.utc)) = record { utc = r.utc; years = r.years; number = r.number; is = refl } in
    record { utc = r.utc; years = r.years; number = r.number; is = sym (moment_text digits first last n (digits (fields_of_moment r.utc)) h w) }

-- The values of the functions are the texts within their years, and are read as what they were
-- written for.
pub day_text-reads : (n : ℤ) → IsInDayYears n → DayReads (day_text n) n
day_text-reads n r =
    let text = day_digits (unsigned_abs r.date.year) r.date.month r.date.day in
    let w : DayReads text n = record { date = r.date; years = r.years; states = refl; number = r.number } in
    record { date = r.date; years = r.years; states = sym (is_day_text n text w); number = r.number }

pub utc_text-written : (n : ℤ) → IsInUtcYears n → UtcWritten n (utc_text n)
unfolding utc_text
utc_text-written n r = years_text utc_digits (pos 1950) (pos 2049) (n *ℤ pos 1_000_000_000) (omega (arith, signed_arith)) r

pub utc_text-reads : (n : ℤ) → IsInUtcYears n → UtcReads (utc_text n) n
utc_text-reads n r = utc-written-reads n (utc_text n) (utc_text-written n r)

pub generalized_text-written : (n : ℤ) → IsInGeneralizedYears n → GeneralizedWritten n (generalized_text n)
unfolding generalized_text
generalized_text-written n r = years_text generalized_digits (pos 0) (pos 9999) n (omega (arith, signed_arith)) r

pub generalized_text-reads : (n : ℤ) → IsInGeneralizedYears n → GeneralizedReads (generalized_text n) n
generalized_text-reads n r = generalized-written-reads n (generalized_text n) (generalized_text-written n r)
