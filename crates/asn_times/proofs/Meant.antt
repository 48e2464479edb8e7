-- The functions that give what a text means agree with the grammar.
use Rattle.std.proofs.Common.{◌≡◌, ℕ, ◌+◌, ◌*◌, ◌/◌, ◌%◌, ◌<◌, ◌≤◌, ◌⊎◌, inl, inr, Bool, true, false, cond, not, ◌&&◌, nat_lt, List, Option, None, Some, refl, sym, ap, subst, ◌∙◌, arith, true≢false, ℤ, pos, neg_ℤ, int_lt, ◌+ℤ◌, ◌-ℤ◌, ◌*ℤ◌, ◌≤ℤ◌, ◌<ℤ◌}
use Rattle.std.specs.Prelude.{unsigned_abs}
use Rattle.std.specs.Cmp.{first_so, second_so}
use Rattle.std.specs.Int.{is_in_range}
use Rattle.std.specs.Option.{option_map}
use Rattle.std.proofs.lemmas.Bool.Decides.{nat_tests}
use Rattle.std.proofs.lemmas.Int.{ints}
use Rattle.jiff_core.specs.declared.civil.date.Date.{Date}
use Rattle.jiff_core.specs.declared.civil.datetime.DateTime.{DateTime}
use Rattle.jiff_core.specs.declared.civil.time.Time.{Time}
use Rattle.jiff_core.specs.Calendar.{IsBetween, day_count, days_from_civil, days_in_month}
use Rattle.jiff_core.specs.DateTime.{civil_nanos}
use Rattle.jiff_core.specs.Date.{epoch_day}
use Rattle.jiff_core.specs.Time.{time_nanos}
use Rattle.jiff_core.proofs.SignedLemmas.{signed_arith}
use Rattle.jiff_core.proofs.DateTimeLemmas.{civil_nanos-parts, time_nanos_bound}
use Rattle.jiff_core.proofs.CalendarLemmas.{day_count-day_of_year, day_count-later_year, day_count-lt_year, days_from_civil-day_count, days_in_month_bounds, day_count-end}
use Rattle.jiff_core.proofs.DateLemmas.{civil}
use Rattle.asn_times.specs.Days.{DayReads, HasDay, fields_of_date}
use Rattle.asn_times.specs.Generalized.{GeneralizedReads, GeneralizedStates}
use Rattle.asn_times.specs.Meanings.{clock_seconds, day_number, day_of_text, generalized_of_text, is_in_years, is_real_clock, is_real_day, moment_nanoseconds, moment_seconds, real_day, real_moment, utc_of_text, year_start}
use Rattle.asn_times.specs.Moments.{HasClock, IsMomentOf, MomentReads}
use Rattle.asn_times.specs.Reading.{bind, day_fields, generalized_fields, utc_fields}
use Rattle.asn_times.specs.Utc.{UtcReads, UtcStates}
use Rattle.asn_times.specs.declared.dates.DayFields.{DayFields}
use Rattle.asn_times.specs.declared.moments.ClockFields.{ClockFields}
use Rattle.asn_times.specs.declared.moments.MomentFields.{MomentFields}
use Rattle.asn_times.proofs.ReadDays.{date-read, day-is, has-digits, natural}
use Rattle.asn_times.proofs.ReadDigits.{below, bind-some, is_below, map-some, none_some, same_some}
use Rattle.asn_times.proofs.ReadGeneralized.{generalized-finds, generalized-states}
use Rattle.asn_times.proofs.ReadUtc.{utc-finds, utc-states}
use Rattle.asn_times.proofs.Walks.{date_after, date_after-number}

in_range : (low high n : ℕ) → is_in_range low high n ≡ true → (low ≤ n) × (n ≤ high)
in_range low high n e = grind (arith, nat_tests)

is_in_range_of : (low high n : ℕ) → low ≤ n → n ≤ high → is_in_range low high n ≡ true
is_in_range_of low high n a b = grind (arith, nat_tests)

-- The date of the fields of a day.
date_of : (f : DayFields) → is_real_day f ≡ true → Date
date_of f e =
    let rest = second_so (nat_lt f.year 10_000) _ e in
    let small = below f.year 10_000 (first_so _ _ e) in
    record {
      year = pos f.year;
      month = f.month;
      day = f.day;
      year_in = (omega (arith, signed_arith), omega (arith, signed_arith));
      month_in = in_range 1 12 f.month (first_so _ _ rest);
      day_in = in_range 1 (days_in_month (pos f.year) f.month) f.day (second_so (is_in_range 1 12 f.month) _ rest);
    }

has_date : (f : DayFields) (e : is_real_day f ≡ true) → HasDay f (date_of f e)
unfolding date_of
has_date f e = record { year = refl; month = refl; day = refl }

date_number : (f : DayFields) (e : is_real_day f ≡ true) → epoch_day (date_of f e) ≡ day_number f
unfolding date_of
date_number f e = refl

-- The time of day of the fields.
time_of : (f : ClockFields) → is_real_clock f ≡ true → Time
time_of f e =
    let minutes = second_so (nat_lt f.hour 24) _ e in
    let seconds = second_so (nat_lt f.minute 60) _ minutes in
    record {
      hour = f.hour;
      minute = f.minute;
      second = f.second;
      subsec_nanosecond = f.nanosecond;
      hour_in = below f.hour 24 (first_so _ _ e);
      minute_in = below f.minute 60 (first_so _ _ minutes);
      second_in = below f.second 60 (first_so _ _ seconds);
      subsec_in = below f.nanosecond 1_000_000_000 (second_so (nat_lt f.second 60) _ seconds);
    }

has_clock : (f : ClockFields) (e : is_real_clock f ≡ true) → HasClock f (time_of f e)
unfolding time_of
has_clock f e = record { hour = refl; minute = refl; second = refl; nanosecond = refl }

clock_number : (f : ClockFields) (e : is_real_clock f ≡ true)
    → time_nanos (time_of f e) ≡ clock_seconds f * 1_000_000_000 + f.nanosecond
unfolding time_of
clock_number f e = refl

-- The local time of the fields of a moment.
abbrev local_of : (f : MomentFields) → is_real_day f.day ≡ true → is_real_clock f.clock ≡ true → DateTime
local_of f d c = record { date = date_of f.day d; time = time_of f.clock c }

local_number : (f : MomentFields) (d : is_real_day f.day ≡ true) (c : is_real_clock f.clock ≡ true)
    → moment_nanoseconds f ≡ civil_nanos (local_of f d c) -ℤ f.offset *ℤ pos 1_000_000_000
local_number f d c =
    let parts = civil_nanos-parts (local_of f d c) in
    let day = date_number f.day d in
    let clock = clock_number f.clock c in
    omega (arith, signed_arith)

order : (a b : ℤ) → (a ≤ℤ b) ⊎ (b <ℤ a)
order a b = grind (arith, signed_arith)

same_or_less : (a b : ℤ) → a ≤ℤ b → (a ≡ b) ⊎ (a <ℤ b)
same_or_less a b h = grind (arith, signed_arith)

-- A date of a year or a later one comes after the start of the year.
year_from : (d : Date) (first : ℤ) → neg_ℤ (pos 9999) ≤ℤ first → first ≤ℤ d.year
    → day_count first 1 1 ≤ day_count d.year d.month d.day
year_from d first low h = by (same_or_less first d.year h)
  where
    by : (first ≡ d.year) ⊎ (first <ℤ d.year) → day_count first 1 1 ≤ day_count d.year d.month d.day
    by (inl e) =
        let o = day_count-day_of_year d.year d.month d.day (omega (arith, d.day_in)) in
        let s : day_count first 1 1 ≡ day_count d.year 1 1 = ap (λ y. day_count y 1 1) e in
        let k = d.day_in in
        omega arith
    by (inr l) =
        let b = days_in_month_bounds first 1 in
        let year = d.year_in in
        let o = day_count-lt_year first 1 1 d.year d.month d.day ((omega (arith, signed_arith), omega (arith, signed_arith)), omega arith, omega (arith, b)) (omega (arith, d.day_in)) l in
        omega arith

-- A date of an earlier year comes before it.
year_before : (d : Date) (next : ℤ) → d.year <ℤ next
    → day_count d.year d.month d.day < day_count next 1 1
year_before d next h = day_count-lt_year d.year d.month d.day next 1 1 (civil d) (omega arith) h

tested_below : (n low : ℤ) (b : Bool) → int_lt n low ≡ b → not b ≡ true → low ≤ℤ n
tested_below n low true e h = absurd (true≢false (sym h))
tested_below n low false e h = omega (arith, ints)

is_tested_below : (n low : ℤ) (b : Bool) → int_lt n low ≡ b → low ≤ℤ n → not b ≡ true
is_tested_below n low true e h = absurd (omega (arith, ints))
is_tested_below n low false e h = refl

tested_above : (n high : ℤ) (b : Bool) → int_lt n high ≡ b → b ≡ true → n <ℤ high
tested_above n high true e h = omega (arith, ints)
tested_above n high false e h = absurd (true≢false (sym h))

is_tested_above : (n high : ℤ) (b : Bool) → int_lt n high ≡ b → n <ℤ high → b ≡ true
is_tested_above n high true e h = refl
is_tested_above n high false e h = absurd (omega (arith, ints))

both_so : (s t : Bool) → s ≡ true → t ≡ true → (s && t) ≡ true
both_so s t a b = ap (λ s. s && t) a ∙ b

-- The test of the years of a moment.
years-is : (first last : ℤ) (dt : DateTime) → neg_ℤ (pos 9999) ≤ℤ first → first ≤ℤ last
    → is_in_years first last (civil_nanos dt) ≡ true → IsBetween first last dt.date.year
years-is first last dt low ordered e = (from (order first dt.date.year), to (order dt.date.year last))
  where
    a : year_start first ≤ℤ civil_nanos dt
    a = tested_below (civil_nanos dt) (year_start first) _ refl (first_so _ (int_lt (civil_nanos dt) (year_start (last +ℤ pos 1))) e)

    b : civil_nanos dt <ℤ year_start (last +ℤ pos 1)
    b = tested_above (civil_nanos dt) (year_start (last +ℤ pos 1)) _ refl (second_so (not (int_lt (civil_nanos dt) (year_start first))) _ e)

    from : (first ≤ℤ dt.date.year) ⊎ (dt.date.year <ℤ first) → first ≤ℤ dt.date.year
    from (inl h) = h
    from (inr l) =
        let parts = civil_nanos-parts dt in
        let bound = time_nanos_bound dt.time in
        let before = year_before dt.date first l in
        let k = days_from_civil-day_count dt.date.year dt.date.month dt.date.day in
        let s = days_from_civil-day_count first 1 1 in
        let h = a in
        absurd (omega (arith, signed_arith))

    to : (dt.date.year ≤ℤ last) ⊎ (last <ℤ dt.date.year) → dt.date.year ≤ℤ last
    to (inl h) = h
    to (inr l) =
        let parts = civil_nanos-parts dt in
        let after = year_from dt.date (last +ℤ pos 1) (omega (arith, signed_arith)) (omega (arith, signed_arith)) in
        let k = days_from_civil-day_count dt.date.year dt.date.month dt.date.day in
        let s = days_from_civil-day_count (last +ℤ pos 1) 1 1 in
        let h = b in
        absurd (omega (arith, signed_arith))

years-of : (first last : ℤ) (dt : DateTime) → neg_ℤ (pos 9999) ≤ℤ first
    → IsBetween first last dt.date.year → is_in_years first last (civil_nanos dt) ≡ true
years-of first last dt low y =
    let parts = civil_nanos-parts dt in
    let bound = time_nanos_bound dt.time in
    let after = year_from dt.date first low y.0 in
    let before = year_before dt.date (last +ℤ pos 1) (omega (arith, signed_arith, y.1)) in
    let k = days_from_civil-day_count dt.date.year dt.date.month dt.date.day in
    let s = days_from_civil-day_count first 1 1 in
    let t = days_from_civil-day_count (last +ℤ pos 1) 1 1 in
    both_so _ _ (is_tested_below (civil_nanos dt) (year_start first) _ refl (omega (arith, signed_arith)))
    (is_tested_above (civil_nanos dt) (year_start (last +ℤ pos 1)) _ refl (omega (arith, signed_arith)))

-- The time of day after so many seconds and nanoseconds.
time_after : (second nanosecond : ℕ) → second < 86_400 → nanosecond < 1_000_000_000 → Time
time_after second nanosecond s n = record {
  hour = second / 3600;
  minute = second % 3600 / 60;
  second = second % 3600 % 60;
  subsec_nanosecond = nanosecond;
  hour_in = omega arith;
  minute_in = omega arith;
  second_in = omega arith;
  subsec_in = n;
}

time_after-number : (second nanosecond : ℕ) (s : second < 86_400) (n : nanosecond < 1_000_000_000)
    → time_nanos (time_after second nanosecond s n) ≡ second * 1_000_000_000 + nanosecond
unfolding time_after
time_after-number second nanosecond s n = omega arith

-- A number from the year 0 to the year 9999 is that of a moment.
moment_of_number : (n : ℤ) → is_in_years (pos 0) (pos 9999) n ≡ true
    → (dt : DateTime) × (civil_nanos dt ≡ n)
moment_of_number n e =
    let start = year_start (pos 0) in
    let end = year_start (pos 10000) in
    let low : start ≤ℤ n = tested_below n start _ refl (first_so _ (int_lt n end) e) in
    let high : n <ℤ end = tested_above n end _ refl (second_so (not (int_lt n start)) _ e) in
    let t = unsigned_abs (n -ℤ start) in
    let number : pos t ≡ n -ℤ start = natural (n -ℤ start) (omega (arith, signed_arith)) in
    let seconds = t / 1_000_000_000 in
    let a = days_from_civil-day_count (pos 0) 1 1 in
    let b = days_from_civil-day_count (pos 10000) 1 1 in
    let c = day_count-end in
    let within : day_count (pos 0) 1 1 + seconds / 86_400 < 7_304_850 = omega (arith, signed_arith) in
    let s : seconds % 86_400 < 86_400 = omega arith in
    let k : t % 1_000_000_000 < 1_000_000_000 = omega arith in
    let dt : DateTime = record { date = date_after (seconds / 86_400) within; time = time_after (seconds % 86_400) (t % 1_000_000_000) s k } in
    let parts = civil_nanos-parts dt in
    let day = date_after-number (seconds / 86_400) within in
    let time = time_after-number (seconds % 86_400) (t % 1_000_000_000) s k in
    (dt, omega (arith, signed_arith))

where_true : {A : Type 0} (b : Bool) (f g : A) → cond b (Some f) None ≡ Some g → (b ≡ true) × (f ≡ g)
where_true true f g e = (refl, same_some f g e)
where_true false f g e = absurd (none_some g e)

-- A later year starts later.
start_order : (a b : ℤ) → neg_ℤ (pos 10000) ≤ℤ a → a ≤ℤ b → year_start a ≤ℤ year_start b
start_order a b low h = by (same_or_less a b h)
  where
    by : (a ≡ b) ⊎ (a <ℤ b) → year_start a ≤ℤ year_start b
    by (inl e) = subst (λ y. year_start a ≤ℤ year_start y) e (omega (arith, signed_arith))
    by (inr l) =
        let later = day_count-later_year a b low l in
        let s = days_from_civil-day_count a 1 1 in
        let t = days_from_civil-day_count b 1 1 in
        omega (arith, signed_arith)

-- The test of fewer years.
wider : (first last n : ℤ) → pos 0 ≤ℤ first → first ≤ℤ last → last ≤ℤ pos 9999 → is_in_years first last n ≡ true
    → is_in_years (pos 0) (pos 9999) n ≡ true
wider first last n low ordered high e =
    let a = tested_below n (year_start first) _ refl (first_so _ (int_lt n (year_start (last +ℤ pos 1))) e) in
    let b = tested_above n (year_start (last +ℤ pos 1)) _ refl (second_so (not (int_lt n (year_start first))) _ e) in
    let c = start_order (pos 0) first (omega (arith, signed_arith)) low in
    let d = start_order (last +ℤ pos 1) (pos 10000) (omega (arith, signed_arith)) (omega (arith, signed_arith)) in
    both_so _ _ (is_tested_below n (year_start (pos 0)) _ refl (omega (arith, signed_arith)))
    (is_tested_above n (year_start (pos 10000)) _ refl (omega (arith, signed_arith)))

-- The fields of a date or of a time of day pass the tests.
real_date : (d : Date) → pos 0 ≤ℤ d.year → is_real_day (fields_of_date d) ≡ true
real_date d h =
    let year = natural d.year h in
    let month = d.month_in in
    let day = subst (λ y. (1 ≤ d.day) × (d.day ≤ days_in_month y d.month)) (sym year) d.day_in in
    both_so _ _ (is_below (unsigned_abs d.year) 10_000 (omega (arith, signed_arith, year, d.year_in)))
    (both_so _ _ (is_in_range_of 1 12 d.month month.0 month.1)
    (is_in_range_of 1 (days_in_month (pos (unsigned_abs d.year)) d.month) d.day day.0 day.1))

fields_same : (f : DayFields) (d : Date) → HasDay f d → f ≡ fields_of_date d
fields_same f d h =
    let year : f.year ≡ unsigned_abs d.year = ap (λ y. unsigned_abs y) (sym h.year) in
    λ i. record { year = year i; month = sym h.month i; day = sym h.day i }

natural_year : (f : DayFields) (d : Date) → HasDay f d → pos 0 ≤ℤ d.year
natural_year f d h = let y = h.year in omega (arith, signed_arith)

real_of_day : (f : DayFields) (d : Date) → HasDay f d → is_real_day f ≡ true
real_of_day f d h =
    ap is_real_day (fields_same f d h) ∙ real_date d (natural_year f d h)

number_of_day : (f : DayFields) (d : Date) → HasDay f d → day_number f ≡ epoch_day d
number_of_day f d h =
    ap day_number (fields_same f d h)
    ∙ ap (λ y. days_from_civil y d.month d.day) (natural d.year (natural_year f d h))

real_of_clock : (f : ClockFields) (t : Time) → HasClock f t → is_real_clock f ≡ true
real_of_clock f t h =
    both_so _ _ (is_below f.hour 24 (omega (arith, h.hour, t.hour_in)))
    (both_so _ _ (is_below f.minute 60 (omega (arith, h.minute, t.minute_in)))
    (both_so _ _ (is_below f.second 60 (omega (arith, h.second, t.second_in)))
    (is_below f.nanosecond 1_000_000_000 (omega (arith, h.nanosecond, t.subsec_in)))))

number_of_moment : (f : MomentFields) (utc : DateTime) → IsMomentOf f utc
    → civil_nanos utc ≡ moment_nanoseconds f
number_of_moment f utc m =
    let parts = civil_nanos-parts m.local in
    let day = number_of_day f.day m.local.date m.day in
    let c = m.clock in
    let shifted = m.shifted in
    omega (arith, signed_arith, c.hour, c.minute, c.second, c.nanosecond)

kept : (first last : ℤ) (f : MomentFields) → is_real_day f.day ≡ true → is_real_clock f.clock ≡ true
    → is_in_years first last (moment_nanoseconds f) ≡ true → real_moment first last f ≡ Some f
kept first last f a b c = ap (λ t. cond t (Some f) None) (both_so _ _ a (both_so _ _ b c))

-- What the function makes of a text, by a grammar that the function `fields` decides.
module _ (States : List ℕ → MomentFields → Type 0) (fields : List ℕ → Option MomentFields) (first last : ℤ) (low : pos 0 ≤ℤ first) (ordered : first ≤ℤ last) (high : last ≤ℤ pos 9999)
    (finds : (text : List ℕ) (f : MomentFields) → States text f → fields text ≡ Some f) (states : (text : List ℕ) (f : MomentFields) → fields text ≡ Some f → States text f) where
  reads_meant : (text : List ℕ) (f : MomentFields) → bind (fields text) (real_moment first last) ≡ Some f
      → States text f × MomentReads States first last text (moment_nanoseconds f)
  reads_meant text f e =
      let found = bind-some (fields text) (real_moment first last) f e in
      let g = found.0 in
      let passed = where_true (is_real_day g.day && (is_real_clock g.clock && is_in_years first last (moment_nanoseconds g))) g f found.2 in
      let day = first_so (is_real_day g.day) _ passed.0 in
      let rest = second_so (is_real_day g.day) _ passed.0 in
      let clock = first_so (is_real_clock g.clock) _ rest in
      let years = second_so (is_real_clock g.clock) _ rest in
      let utc = moment_of_number (moment_nanoseconds g) (wider first last (moment_nanoseconds g) low ordered high years) in
      let reads : MomentReads States first last text (moment_nanoseconds g) = record {
        fields = g;
        states = states text g found.1;
        utc = utc.0;
        moment = record {
          local = local_of g day clock;
          day = has_date g.day day;
          clock = has_clock g.clock clock;
          shifted = utc.1 ∙ local_number g day clock;
        };
        years = years-is first last utc.0 (omega (arith, signed_arith)) ordered (ap (is_in_years first last) utc.1 ∙ years);
        number = utc.1;
      } in
      (subst (States text) passed.1 (states text g found.1), subst (λ h. MomentReads States first last text (moment_nanoseconds h)) passed.1 reads)

  meant_reads : (text : List ℕ) (n : ℤ) (r : MomentReads States first last text n)
      → (bind (fields text) (real_moment first last) ≡ Some r.fields) × (moment_nanoseconds r.fields ≡ n)
  meant_reads text n r =
      let f = r.fields in
      let m = r.moment in
      let number = number_of_moment f r.utc m in
      let years = ap (is_in_years first last) (sym number) ∙ years-of first last r.utc (omega (arith, signed_arith)) r.years in (
        ap (λ o. bind o (real_moment first last)) (finds text f r.states)
            ∙ kept first last f (real_of_day f.day m.local.date m.day) (real_of_clock f.clock m.local.time m.clock) years,
        sym number ∙ r.number,
      )

-- Nothing is meant where nothing is read.
nothing_meant : (o : Option ℤ) → ((n : ℤ) → o ≡ Some n → ⊥) → o ≡ None
nothing_meant None h = refl
nothing_meant (Some n) h = absurd (h n refl)

-- UTCTime.
pub utc_meant : (text : List ℕ) (n : ℤ) → UtcReads text n → utc_of_text text ≡ Some n
unfolding utc_of_text
utc_meant text n r =
    let m = meant_reads UtcStates utc_fields (pos 1950) (pos 2049) (omega (arith, signed_arith)) (omega (arith, signed_arith)) (omega (arith, signed_arith)) utc-finds utc-states text (n *ℤ pos 1_000_000_000) r in
    let whole = r.states.whole in
    let number = m.1 in
    let seconds : moment_seconds r.fields ≡ n = omega (arith, signed_arith) in
    ap (option_map moment_seconds) m.0 ∙ ap (λ n. Some n) seconds

pub utc_means : (text : List ℕ) (n : ℤ) → utc_of_text text ≡ Some n → UtcReads text n
unfolding utc_of_text
utc_means text n e =
    let f = map-some (bind (utc_fields text) (real_moment (pos 1950) (pos 2049))) moment_seconds n e in
    let m = reads_meant UtcStates utc_fields (pos 1950) (pos 2049) (omega (arith, signed_arith)) (omega (arith, signed_arith)) (omega (arith, signed_arith)) utc-finds utc-states text f.0 f.1 in
    let states = m.0 in
    let whole = states.whole in
    let same = f.2 in
    let number : moment_nanoseconds f.0 ≡ n *ℤ pos 1_000_000_000 = omega (arith, signed_arith) in
    subst (λ k. MomentReads UtcStates (pos 1950) (pos 2049) text k) number m.1

pub utc_unmeant : (text : List ℕ) → ((n : ℤ) → UtcReads text n → ⊥) → utc_of_text text ≡ None
utc_unmeant text h = nothing_meant (utc_of_text text) (λ n e. h n (utc_means text n e))

-- GeneralizedTime.
pub generalized_meant : (text : List ℕ) (n : ℤ) → GeneralizedReads text n → generalized_of_text text ≡ Some n
unfolding generalized_of_text
generalized_meant text n r =
    let m = meant_reads GeneralizedStates generalized_fields (pos 0) (pos 9999) (omega (arith, signed_arith)) (omega (arith, signed_arith)) (omega (arith, signed_arith)) generalized-finds generalized-states text n r in
    ap (option_map moment_nanoseconds) m.0 ∙ ap (λ n. Some n) m.1

pub generalized_means : (text : List ℕ) (n : ℤ) → generalized_of_text text ≡ Some n → GeneralizedReads text n
unfolding generalized_of_text
generalized_means text n e =
    let f = map-some (bind (generalized_fields text) (real_moment (pos 0) (pos 9999))) moment_nanoseconds n e in
    let m = reads_meant GeneralizedStates generalized_fields (pos 0) (pos 9999) (omega (arith, signed_arith)) (omega (arith, signed_arith)) (omega (arith, signed_arith)) generalized-finds generalized-states text f.0 f.1 in
    subst (λ k. GeneralizedReads text k) (sym f.2) m.1

pub generalized_unmeant : (text : List ℕ) → ((n : ℤ) → GeneralizedReads text n → ⊥) → generalized_of_text text ≡ None
generalized_unmeant text h = nothing_meant (generalized_of_text text) (λ n e. h n (generalized_means text n e))

-- DATE.
pub day_meant : (text : List ℕ) (n : ℤ) → DayReads text n → day_of_text text ≡ Some n
unfolding day_of_text
day_meant text n r =
    let f = fields_of_date r.date in
    let found : day_fields text ≡ Some f = ap day_fields r.states ∙ date-read r.date r.years in
    let number : day_number f ≡ n = ap (λ y. days_from_civil y r.date.month r.date.day) (natural r.date.year r.years.0) ∙ r.number in
    ap (λ o. option_map day_number (bind o real_day)) found
    ∙ ap (λ t. option_map day_number (cond t (Some f) None)) (real_date r.date r.years.0)
    ∙ ap (λ n. Some n) number

pub day_means : (text : List ℕ) (n : ℤ) → day_of_text text ≡ Some n → DayReads text n
unfolding day_of_text
day_means text n e =
    let f = map-some (bind (day_fields text) real_day) day_number n e in
    let g = bind-some (day_fields text) real_day f.0 f.1 in
    let passed = where_true (is_real_day g.0) g.0 f.0 g.2 in
    let small = below g.0.year 10_000 (first_so _ _ passed.0) in
    let date = date_of g.0 passed.0 in
    let has = has_date g.0 passed.0 in
    let year = has.year in
    record {
      date = date;
      years = (omega (arith, signed_arith), omega (arith, signed_arith));
      states = day-is text g.0 g.1 ∙ has-digits g.0 date has;
      number = date_number g.0 passed.0 ∙ ap day_number passed.1 ∙ sym f.2;
    }

pub day_unmeant : (text : List ℕ) → ((n : ℤ) → DayReads text n → ⊥) → day_of_text text ≡ None
day_unmeant text h = nothing_meant (day_of_text text) (λ n e. h n (day_means text n e))
