-- Reading a text of UTCTime gives exactly what its grammar says.
use Rattle.std.proofs.Common.{◌≡◌, ℕ, ◌+◌, ◌%◌, ◌<◌, ◌≤◌, inl, inr, Bool, true, false, cond, nat_lt, List, [], ◌∷◌, ◌++◌, Option, None, Some, refl, sym, ap, subst, ◌∙◌, arith, ℤ, pos, ◌*ℤ◌}
use Rattle.std.specs.Prelude.{unsigned_abs}
use Rattle.std.specs.Option.{option_map}
use Rattle.std.proofs.lemmas.Bool.Decides.{nat_tests}
use Rattle.jiff_core.proofs.SignedLemmas.{signed_arith}
use Rattle.jiff_core.proofs.DateTimeLemmas.{civil_nanos-civil_seconds}
use Rattle.asn_times.specs.declared.moments.MomentFields.{MomentFields}
use Rattle.asn_times.specs.Digits.{two_digits}
use Rattle.asn_times.specs.Reading.{bind, two, zone, minute_fields, minute_of, seconds_and_rest, utc_fields, with_end}
use Rattle.asn_times.specs.Moments.{IsZone, fields_of_moment, minute_digits}
use Rattle.asn_times.specs.Utc.{IsSeconds, UtcReads, UtcStates, UtcWritten, full_year, utc_digits}
use Rattle.asn_times.proofs.ReadDigits.{bind-some, map-some, two-two_digits, two-is}
use Rattle.asn_times.proofs.ReadDays.{natural}
use Rattle.asn_times.proofs.ReadMoments.{minute-of, minute-is, zone-is, zone-of, small_minute}
use Rattle.asn_times.proofs.MomentFacts.{own_moment, one_reading, one_text}

abbrev read : ℕ → List ℕ → ℕ × List ℕ
read s rest = (s, rest)

seconds-is : (text : List ℕ) → (seconds : List ℕ) × (text ≡ seconds ++ (seconds_and_rest text).1) × IsSeconds seconds (seconds_and_rest text).0
seconds-is text = by (two text) refl
  where
    by : (o : Option (ℕ × List ℕ)) → two text ≡ o → (seconds : List ℕ) × (text ≡ seconds ++ (elim o as (λ _. ℕ × List ℕ) [ None ↦ (0, text) | Some p ↦ p ]).1) × IsSeconds seconds (elim o as (λ _. ℕ × List ℕ) [ None ↦ (0, text) | Some p ↦ p ]).0
    by None t = ([], refl, inl (refl, refl))
    by (Some p) t = let is = two-is text p.0 p.1 t in (two_digits p.0, is.1, inr (refl, is.0))

-- No zone begins with two digits.
zone-two : (text : List ℕ) (z : ℤ) → IsZone text z → two text ≡ None
zone-two text z (inl p) = ap two p.0
zone-two text z (inr (h, m, p, q, inl w)) = ap two w.0
zone-two text z (inr (h, m, p, q, inr w)) = ap two w.0

seconds-of : (seconds rest : List ℕ) (s : ℕ) (z : ℤ) → IsSeconds seconds s → IsZone rest z → seconds_and_rest (seconds ++ rest) ≡ read s rest
seconds-of seconds rest s z (inl p) w =
    ap (λ l. seconds_and_rest (l ++ rest)) p.0 ∙ ap (λ o. elim o as (λ _. ℕ × List ℕ) [ None ↦ (0, rest) | Some p ↦ p ]) (zone-two rest z w) ∙ ap (λ n. read n rest) (sym p.1)
seconds-of seconds rest s z (inr p) w =
    ap (λ l. seconds_and_rest (l ++ rest)) p.0 ∙ ap (λ o. elim o as (λ _. ℕ × List ℕ) [ None ↦ (0, two_digits s ++ rest) | Some p ↦ p ]) (two-two_digits s p.1 rest)

-- The reading from each place on.
abbrev after_minutes : MomentFields × List ℕ → Option MomentFields
after_minutes m = let s = seconds_and_rest m.1 in option_map (with_end m.0 s.0 0) (zone s.1)

abbrev after_years : ℕ × List ℕ → Option MomentFields
after_years y = bind (minute_fields (full_year y.0) y.1) after_minutes

-- A text of the grammar is read as its fields.
pub utc-finds : (text : List ℕ) (f : MomentFields) → UtcStates text f → utc_fields text ≡ Some f
utc-finds text f t =
    let end = t.seconds ++ t.zone in
    let g = minute_of (full_year t.short) f.day.month f.day.day f.clock.hour f.clock.minute in
    let same : with_end g f.clock.second 0 f.offset ≡ f = λ i. record {
      day = record { year = sym t.year i; month = f.day.month; day = f.day.day };
      clock = record { hour = f.clock.hour; minute = f.clock.minute; second = f.clock.second; nanosecond = sym t.whole i };
      offset = f.offset;
    } in
    ap utc_fields t.is
    ∙ ap (λ o. bind o after_years) (two-two_digits t.short t.is_short (minute_digits f ++ end))
    ∙ ap (λ o. bind o after_minutes) (minute-of (full_year t.short) f.day.month f.day.day f.clock.hour f.clock.minute end t.small)
    ∙ ap (λ s. option_map (with_end g s.0 0) (zone s.1)) (seconds-of t.seconds t.zone f.clock.second f.offset t.is_seconds t.is_zone)
    ∙ ap (option_map (with_end g f.clock.second 0)) (zone-of t.zone f.offset t.is_zone)
    ∙ ap (λ f. Some f) same

-- What is read as fields is a text of the grammar.
pub utc-states : (text : List ℕ) (f : MomentFields) → utc_fields text ≡ Some f → UtcStates text f
utc-states text f e =
    let y = bind-some (two text) after_years f e in
    let m = bind-some (minute_fields (full_year y.0.0) y.0.1) after_minutes f y.2 in
    let z = map-some (zone (seconds_and_rest m.0.1).1) (with_end m.0.0 (seconds_and_rest m.0.1).0 0) f m.2 in
    let s = seconds-is m.0.1 in
    let w = zone-is (seconds_and_rest m.0.1).1 z.0 z.1 in
    let years = two-is text y.0.0 y.0.1 y.1 in
    let minutes = minute-is (full_year y.0.0) y.0.1 m.0.0 m.0.1 m.1 in
    let g = minute_of (full_year y.0.0) minutes.month minutes.day minutes.hour minutes.minute in
    let end = (seconds_and_rest m.0.1).1 in
    let second = (seconds_and_rest m.0.1).0 in
    let same : with_end g second 0 z.0 ≡ f = ap (λ g. with_end g second 0 z.0) minutes.fields ∙ sym z.2 in
    let all : text ≡ two_digits y.0.0 ++ minute_digits g ++ s.0 ++ end
    = years.1 ∙ ap (λ l. two_digits y.0.0 ++ l) (minutes.is ∙ ap (λ l. minute_digits g ++ l) s.1) in
    let states : UtcStates text (with_end g second 0 z.0) = record {
      short = y.0.0;
      seconds = s.0;
      zone = end;
      is = all;
      is_short = years.0;
      small = minutes.small;
      year = refl;
      is_seconds = s.2;
      whole = refl;
      is_zone = w;
    } in
    subst (UtcStates text) same states

-- The year of two digits.
short_full : (y : ℕ) → 1950 ≤ y → y ≤ 2049 → full_year (y % 100) ≡ y
short_full y p q = by (nat_lt (y % 100) 50) refl
  where
    value : (s : Bool) → nat_lt (y % 100) 50 ≡ s → full_year (y % 100) ≡ cond s (2000 + y % 100) (1900 + y % 100)
    value s t = ap (λ s. cond s (2000 + y % 100) (1900 + y % 100)) t

    by : (s : Bool) → nat_lt (y % 100) 50 ≡ s → full_year (y % 100) ≡ y
    by true t = let v = value true t in let l : y % 100 < 50 = grind (arith, nat_tests) in omega arith
    by false t = let v = value false t in let l : 50 ≤ y % 100 = grind (arith, nat_tests) in omega arith

-- The laws.
pub utc-written-reads : (n : ℤ) (text : List ℕ) → UtcWritten n text → UtcReads text n
utc-written-reads n text w =
    let d = w.utc.date in
    let a = natural d.year (omega (arith, signed_arith, w.years)) in
    record {
      fields = fields_of_moment w.utc;
      states = record {
        short = unsigned_abs d.year % 100;
        seconds = two_digits w.utc.time.second;
        zone = 90 ∷ [];
        is = w.is;
        is_short = omega arith;
        small = small_minute w.utc;
        year = sym (short_full (unsigned_abs d.year) (omega (arith, signed_arith, w.years, a)) (omega (arith, signed_arith, w.years, a)));
        is_seconds = inr (refl, omega (arith, w.utc.time.second_in));
        whole = let s = civil_nanos-civil_seconds w.utc in let k = w.number in let b : w.utc.time.subsec_nanosecond < 1_000_000_000 = omega (arith, w.utc.time.subsec_in) in omega (arith, signed_arith, s, k, b);
        is_zone = inl (refl, refl);
      };
      utc = w.utc;
      moment = own_moment w.utc (omega (arith, signed_arith, w.years));
      years = w.years;
      number = w.number;
    }

pub utc_one_reading : (text : List ℕ) (m n : ℤ) → UtcReads text m → UtcReads text n → m ≡ n
utc_one_reading text m n p q =
    let e = one_reading UtcStates utc_fields (pos 1950) (pos 2049) utc-finds text (m *ℤ pos 1_000_000_000) (n *ℤ pos 1_000_000_000) p q in
    omega (arith, signed_arith, e)

pub utc_one_text : (n : ℤ) (text other : List ℕ) → UtcWritten n text → UtcWritten n other → text ≡ other
utc_one_text n = one_text utc_digits (pos 1950) (pos 2049) (n *ℤ pos 1_000_000_000)
