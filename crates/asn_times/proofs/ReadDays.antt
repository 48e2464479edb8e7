-- Reading `YYYY-MM-DD` gives exactly what the grammar says.
use Rattle.std.proofs.Common.{◌≡◌, ℕ, ◌<◌, true, false, cond, ◌==◌, List, [], ◌∷◌, ◌++◌, Option, None, Some, refl, sym, ap, subst, ◌∙◌, arith, ℤ, pos, ◌≤ℤ◌}
use Rattle.std.specs.Prelude.{unsigned_abs}
use Rattle.jiff_core.specs.declared.civil.date.Date.{Date}
use Rattle.jiff_core.specs.Calendar.{IsDate, IsBetween}
use Rattle.jiff_core.specs.Date.{epoch_day}
use Rattle.jiff_core.proofs.SignedLemmas.{signed_arith}
use Rattle.jiff_core.proofs.DateLemmas.{epoch_day_injective, epoch_day_same, civil}
use Rattle.jiff_core.proofs.CalendarLemmas.{days_in_month_bounds}
use Rattle.asn_times.specs.declared.dates.DayFields.{DayFields}
use Rattle.asn_times.specs.Digits.{two_digits, four_digits}
use Rattle.asn_times.specs.Reading.{bind, two, four, dash, at_end, day_fields}
use Rattle.asn_times.specs.Days.{day_digits, DayReads, StatesNoDay, IsInDayYears, IsSmallDay, IsRealDay, HasDay, fields_of_date}
use Rattle.asn_times.proofs.ReadDigits.{none_some, same_some, bind-some, same_number, two-two_digits, two-is, four-four_digits, four-is}

dash-is : (text rest : List ℕ) → dash text ≡ Some rest → text ≡ 45 ∷ rest
dash-is [] rest e = absurd (none_some rest e)
dash-is (b ∷ bs) rest e =
    elim (b == 45) as (λ t. (b == 45) ≡ t → cond t (Some bs) None ≡ Some rest → b ∷ bs ≡ 45 ∷ rest) [
      | true ↦ λ t h. let c = same_number b 45 t in let same = same_some bs rest h in λ i. c i ∷ same i
      | false ↦ λ t h. absurd (none_some rest h)
    ] refl e

at_end-is : (f g : DayFields) (text : List ℕ) → at_end f text ≡ Some g → (text ≡ []) × (f ≡ g)
at_end-is f g [] e = (refl, same_some f g e)
at_end-is f g (b ∷ bs) e = absurd (none_some g e)

abbrev fields : ℕ → ℕ → ℕ → DayFields
fields y m d = record { year = y; month = m; day = d }

-- The reading from each place on.
abbrev after_months : ℕ → ℕ × List ℕ → Option DayFields
after_months y m = bind (dash m.1) (λ t. bind (two t) (λ d. at_end (fields y m.0 d.0) d.1))

abbrev after_years : ℕ × List ℕ → Option DayFields
after_years y = bind (dash y.1) (λ s. bind (two s) (after_months y.0))

-- The digits of a day are read as its numbers.
day-digits : (y m d : ℕ) → y < 10_000 → m < 100 → d < 100 → day_fields (day_digits y m d) ≡ Some (fields y m d)
day-digits y m d a b c =
    ap (λ o. bind o after_years) (four-four_digits y a (45 ∷ two_digits m ++ 45 ∷ two_digits d))
    ∙ ap (λ o. bind o (after_months y)) (two-two_digits m b (45 ∷ two_digits d))
    ∙ ap (λ o. bind o (λ e. at_end (fields y m e.0) e.1)) (two-two_digits d c [])

-- What is read as numbers is their digits.
pub day-is : (text : List ℕ) (f : DayFields) → day_fields text ≡ Some f → text ≡ day_digits f.year f.month f.day
day-is text f e =
    let y = bind-some (four text) after_years f e in
    let s = bind-some (dash y.0.1) (λ s. bind (two s) (after_months y.0.0)) f y.2 in
    let m = bind-some (two s.0) (after_months y.0.0) f s.2 in
    let t = bind-some (dash m.0.1) (λ t. bind (two t) (λ d. at_end (fields y.0.0 m.0.0 d.0) d.1)) f m.2 in
    let d = bind-some (two t.0) (λ d. at_end (fields y.0.0 m.0.0 d.0) d.1) f t.2 in
    let end = at_end-is (fields y.0.0 m.0.0 d.0.0) f d.0.1 d.2 in
    let days = (two-is t.0 d.0.0 d.0.1 d.1).1 ∙ ap (λ l. two_digits d.0.0 ++ l) end.0 in
    let months = (two-is s.0 m.0.0 m.0.1 m.1).1 ∙ ap (λ l. two_digits m.0.0 ++ l) (dash-is m.0.1 t.0 t.1 ∙ ap (λ l. 45 ∷ l) days) in
    let years = (four-is text y.0.0 y.0.1 y.1).1 ∙ ap (λ l. four_digits y.0.0 ++ l) (dash-is y.0.1 s.0 s.1 ∙ ap (λ l. 45 ∷ l) months) in
    years ∙ ap (λ g. day_digits g.year g.month g.day) end.1

pub natural : (y : ℤ) → pos 0 ≤ℤ y → pos (unsigned_abs y) ≡ y
natural y h = grind (arith, signed_arith)

pub has_own_day : (d : Date) → pos 0 ≤ℤ d.year → HasDay (fields_of_date d) d
has_own_day d h = record { year = sym (natural d.year h); month = refl; day = refl }

-- A text of a date is read as the date's numbers.
pub date-read : (d : Date) → IsBetween (pos 0) (pos 9999) d.year → day_fields (day_digits (unsigned_abs d.year) d.month d.day) ≡ Some (fields_of_date d)
date-read d y =
    let a = natural d.year y.0 in
    let b = days_in_month_bounds d.year d.month in
    day-digits (unsigned_abs d.year) d.month d.day (omega (arith, signed_arith, a, y)) (omega (arith, d.month_in)) (omega (arith, d.day_in, b))

-- The calendar has the day of a date.
pub real-date : (d : Date) → pos 0 ≤ℤ d.year → IsRealDay (fields_of_date d)
real-date d h =
    let c = civil d in
    let P : ℤ → Type 0 = λ y. IsDate y (pos d.month) (pos d.day) in
    subst P (sym (natural d.year h)) (c.0, omega (arith, signed_arith, c.1), omega (arith, signed_arith, c.2))

-- The numbers that a date has make the text of the date.
pub has-digits : (f : DayFields) (d : Date) → HasDay f d → day_digits f.year f.month f.day ≡ day_digits (unsigned_abs d.year) d.month d.day
has-digits f d h =
    let y : f.year ≡ unsigned_abs d.year = ap (λ y. unsigned_abs y) (sym h.year) in
    λ i. day_digits (y i) (sym h.month i) (sym h.day i)

-- A text that is read as numbers which a date has states the date.
pub reads-day : (text : List ℕ) (f : DayFields) (d : Date) → Some f ≡ day_fields text → IsSmallDay f → HasDay f d → DayReads text (epoch_day d)
reads-day text f d e small h =
    let y = h.year in
    record {
      date = d;
      years = (omega (arith, signed_arith), omega (arith, signed_arith, small));
      states = day-is text f (sym e) ∙ has-digits f d h;
      number = refl;
    }

pub unread-day : (text : List ℕ) → None ≡ day_fields text → StatesNoDay text
unread-day text e n r = none_some (fields_of_date r.date) (e ∙ ap day_fields r.states ∙ date-read r.date r.years)

pub unreal-day : (text : List ℕ) (f : DayFields) → Some f ≡ day_fields text → (IsRealDay f → ⊥) → StatesNoDay text
unreal-day text f e never n r =
    let same : fields_of_date r.date ≡ f = same_some (fields_of_date r.date) f (sym (e ∙ ap day_fields r.states ∙ date-read r.date r.years)) in
    never (subst IsRealDay same (real-date r.date r.years.0))

-- The laws.
pub one_day : (text : List ℕ) (n other : ℤ) → DayReads text n → DayReads text other → n ≡ other
one_day text n other p q =
    let e = same_some (fields_of_date p.date) (fields_of_date q.date) (sym (date-read p.date p.years) ∙ ap day_fields (sym p.states ∙ q.states) ∙ date-read q.date q.years) in
    let y : p.date.year ≡ q.date.year = sym (natural p.date.year p.years.0) ∙ ap (λ f. pos f.year) e ∙ natural q.date.year q.years.0 in
    sym p.number ∙ epoch_day_same p.date q.date y (ap (λ f. f.month) e) (ap (λ f. f.day) e) ∙ q.number

pub one_day_text : (n : ℤ) (text other : List ℕ) → DayReads text n → DayReads other n → text ≡ other
one_day_text n text other p q =
    let same = epoch_day_injective p.date q.date (p.number ∙ sym q.number) in
    p.states ∙ (λ i. day_digits (unsigned_abs (same.0 i)) (same.1 i) (same.2 i)) ∙ sym q.states

-- A date's year is from 0 on where its day lies in the years of its text.
pub year_in : (d : Date) → IsInDayYears (epoch_day d) → pos 0 ≤ℤ d.year
year_in d r =
    let same = epoch_day_injective r.date d r.number in
    subst (λ y. pos 0 ≤ℤ y) same.0 r.years.0
