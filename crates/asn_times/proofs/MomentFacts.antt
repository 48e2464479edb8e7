-- What holds of moments by any grammar of their texts.
use Rattle.std.proofs.Common.{◌≡◌, ℕ, ◌<◌, List, Option, None, Some, refl, sym, ap, subst, ◌∙◌, arith, ℤ, pos, neg_ℤ, ◌+ℤ◌, ◌-ℤ◌, ◌*ℤ◌, ◌≤ℤ◌}
use Rattle.std.specs.Prelude.{unsigned_abs}
use Rattle.jiff_core.specs.declared.civil.datetime.DateTime.{DateTime}
use Rattle.jiff_core.specs.declared.civil.date.Date.{Date}
use Rattle.jiff_core.specs.declared.civil.time.Time.{Time}
use Rattle.jiff_core.specs.Calendar.{IsBetween}
use Rattle.jiff_core.specs.DateTime.{IsCivilNanos, civil_nanos, civil_seconds}
use Rattle.jiff_core.specs.Time.{time_nanos}
use Rattle.jiff_core.proofs.SignedLemmas.{signed_arith}
use Rattle.jiff_core.proofs.DateTimeLemmas.{civil_nanos-parts, civil_nanos-civil_seconds, civil_nanos_injective, civil_nanos_range, time_nanos_injective}
use Rattle.jiff_core.proofs.DateLemmas.{epoch_day_injective, epoch_day_same}
use Rattle.asn_times.specs.declared.moments.MomentFields.{MomentFields}
use Rattle.asn_times.specs.Days.{HasDay}
use Rattle.asn_times.specs.Moments.{HasClock, HasNoMoment, IsMomentOf, IsMomentText, MomentReads, fields_of_moment}
use Rattle.asn_times.proofs.ReadDigits.{none_some, same_some}
use Rattle.asn_times.proofs.ReadDays.{has_own_day}

-- Two local times with the numbers of the same fields are one.
same_local : (f : MomentFields) (a b : DateTime) → HasDay f.day a.date → HasClock f.clock a.time → HasDay f.day b.date → HasClock f.clock b.time → civil_nanos a ≡ civil_nanos b
same_local f a b d c e k =
    let days = epoch_day_same a.date b.date (d.year ∙ sym e.year) (d.month ∙ sym e.month) (d.day ∙ sym e.day) in
    let times : time_nanos a.time ≡ time_nanos b.time = omega (arith, c.hour, c.minute, c.second, c.nanosecond, k.hour, k.minute, k.second, k.nanosecond) in
    let p = civil_nanos-parts a in
    let q = civil_nanos-parts b in
    omega (arith, signed_arith, days, times, p, q)

-- Fields state at most one moment.
pub one_moment : (f : MomentFields) (a b : DateTime) → IsMomentOf f a → IsMomentOf f b → civil_nanos a ≡ civil_nanos b
one_moment f a b m k =
    m.shifted ∙ ap (λ n. n -ℤ f.offset *ℤ pos 1_000_000_000) (same_local f m.local k.local m.day m.clock k.day k.clock) ∙ sym k.shifted

-- Equal moments have equal years.
pub same_years : (first last : ℤ) (a b : DateTime) → civil_nanos a ≡ civil_nanos b → IsBetween first last a.date.year → IsBetween first last b.date.year
same_years first last a b e y =
    let same = epoch_day_injective a.date b.date (civil_nanos_injective a b e).0 in
    subst (IsBetween first last) same.0 y

-- The moment that a local time and an offset come to is that of the fields.
pub shifted_moment : (f : MomentFields) (local utc : DateTime) (date : Date) (time : Time) (offset : ℤ) → HasDay f.day date → HasClock f.clock time → local.date ≡ date → local.time ≡ time → offset ≡ f.offset *ℤ pos 1_000_000_000 → civil_nanos utc ≡ civil_nanos local +ℤ neg_ℤ offset → IsMomentOf f utc
shifted_moment f local utc date time offset d c p q o e = record {
  local = local;
  day = subst (HasDay f.day) (sym p) d;
  clock = subst (HasClock f.clock) (sym q) c;
  shifted = omega (arith, signed_arith, o, e);
}

-- A moment of the fields is one that the library has.
pub moment_in_range : (f : MomentFields) (local utc : DateTime) (date : Date) (time : Time) (offset : ℤ) → HasDay f.day date → HasClock f.clock time → local.date ≡ date → local.time ≡ time → offset ≡ f.offset *ℤ pos 1_000_000_000 → IsMomentOf f utc → IsCivilNanos (civil_nanos local +ℤ neg_ℤ offset)
moment_in_range f local utc date time offset d c p q o m =
    let same = same_local f local m.local (subst (HasDay f.day) (sym p) d) (subst (HasClock f.clock) (sym q) c) m.day m.clock in
    let e : civil_nanos local +ℤ neg_ℤ offset ≡ civil_nanos utc = let s = m.shifted in omega (arith, signed_arith, o, s, same) in
    subst IsCivilNanos (sym e) (civil_nanos_range utc)

-- A moment of whole seconds, in nanoseconds.
pub whole_nanos : (dt : DateTime) (n : ℤ) → dt.time.subsec_nanosecond ≡ 0 → civil_seconds dt ≡ n → civil_nanos dt ≡ n *ℤ pos 1_000_000_000
whole_nanos dt n w e = let s = civil_nanos-civil_seconds dt in omega (arith, signed_arith)

-- Fields without a fraction state a moment without one.
pub whole_moment : (f : MomentFields) (utc : DateTime) → f.clock.nanosecond ≡ 0 → IsMomentOf f utc → utc.time.subsec_nanosecond ≡ 0
whole_moment f utc w m =
    let n : m.local.time.subsec_nanosecond ≡ 0 = m.clock.nanosecond ∙ w in
    let a = civil_nanos-civil_seconds m.local in
    let b = civil_nanos-civil_seconds utc in
    let s = m.shifted in
    let k : utc.time.subsec_nanosecond < 1_000_000_000 = omega (arith, utc.time.subsec_in) in
    omega (arith, signed_arith, n, a, b, s, k)

-- A moment has its own numbers.
pub own_moment : (utc : DateTime) → pos 0 ≤ℤ utc.date.year → IsMomentOf (fields_of_moment utc) utc
own_moment utc y = record {
  local = utc;
  day = has_own_day utc.date y;
  clock = record { hour = refl; minute = refl; second = refl; nanosecond = refl };
  shifted = omega (arith, signed_arith);
}

-- Numbers that a moment has, with no offset, are its numbers.
pub moment_fields : (f : MomentFields) (utc : DateTime) → HasDay f.day utc.date → HasClock f.clock utc.time → f.offset ≡ pos 0 → f ≡ fields_of_moment utc
moment_fields f utc d c o =
    let y : f.day.year ≡ unsigned_abs utc.date.year = ap (λ y. unsigned_abs y) (sym d.year) in
    λ i. record {
      day = record { year = y i; month = sym d.month i; day = sym d.day i };
      clock = record { hour = sym c.hour i; minute = sym c.minute i; second = sym c.second i; nanosecond = sym c.nanosecond i };
      offset = o i;
    }

-- What the reader of a text finds, by a grammar that the function `read` decides.
module _ (States : List ℕ → MomentFields → Type 0) (read : List ℕ → Option MomentFields) (first last : ℤ) (finds : (text : List ℕ) (f : MomentFields) → States text f → read text ≡ Some f) where
  pub no_fields : (text : List ℕ) → None ≡ read text → (n : ℤ) → MomentReads States first last text n → ⊥
  no_fields text e n r = none_some r.fields (e ∙ finds text r.fields r.states)

  pub no_moment : (text : List ℕ) (f : MomentFields) → Some f ≡ read text → HasNoMoment first last f → (n : ℤ) → MomentReads States first last text n → ⊥
  no_moment text f e never n r =
      let same : r.fields ≡ f = same_some r.fields f (sym (finds text r.fields r.states) ∙ sym e) in
      never r.utc (subst (λ g. IsMomentOf g r.utc) same r.moment) r.years

  pub one_reading : (text : List ℕ) (m n : ℤ) → MomentReads States first last text m → MomentReads States first last text n → m ≡ n
  one_reading text m n p q =
      let same : q.fields ≡ p.fields = same_some q.fields p.fields (sym (finds text q.fields q.states) ∙ finds text p.fields p.states) in
      sym p.number ∙ one_moment p.fields p.utc q.utc p.moment (subst (λ g. IsMomentOf g q.utc) same q.moment) ∙ q.number

-- A moment has one text by a function from its numbers.
pub one_text : (digits : MomentFields → List ℕ) (first last n : ℤ) (text other : List ℕ) → IsMomentText digits first last n text → IsMomentText digits first last n other → text ≡ other
one_text digits first last n text other p q =
    let same = civil_nanos_injective p.utc q.utc (p.number ∙ sym q.number) in
    let d = epoch_day_injective p.utc.date q.utc.date same.0 in
    let t = time_nanos_injective p.utc.time q.utc.time same.1 in
    let fields : fields_of_moment p.utc ≡ fields_of_moment q.utc = λ i. record {
      day = record { year = unsigned_abs (d.0 i); month = d.1 i; day = d.2 i };
      clock = record { hour = t.0 i; minute = t.1 i; second = t.2 i; nanosecond = t.3 i };
      offset = pos 0;
    } in
    p.is ∙ ap digits fields ∙ sym q.is
