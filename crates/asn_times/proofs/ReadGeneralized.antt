-- Reading a text of GeneralizedTime gives exactly what its grammar says.
use Rattle.std.proofs.Common.{◌≡◌, ℕ, inl, inr, List, [], ◌∷◌, ◌++◌, Option, Some, refl, sym, ap, subst, ◌∙◌, arith, ℤ, pos}
use Rattle.std.specs.Option.{option_map}
use Rattle.jiff_core.proofs.SignedLemmas.{signed_arith}
use Rattle.asn_times.specs.declared.moments.MomentFields.{MomentFields}
use Rattle.asn_times.specs.Digits.{two_digits, four_digits}
use Rattle.asn_times.specs.Reading.{bind, two, four, zone_or_utc, minute_fields, minute_of, fraction, generalized_fields, with_end}
use Rattle.asn_times.specs.Moments.{fields_of_moment, minute_digits}
use Rattle.asn_times.specs.Generalized.{IsZoneOrUtc, GeneralizedReads, GeneralizedStates, GeneralizedWritten, fraction_text, generalized_digits}
use Rattle.asn_times.proofs.ReadDigits.{none_some, same_some, bind-some, map-some, two-two_digits, two-is, four-four_digits, four-is}
use Rattle.asn_times.proofs.ReadDays.{natural}
use Rattle.asn_times.proofs.ReadMoments.{minute-of, minute-is, zone-is, zone-of, small_minute}
use Rattle.asn_times.proofs.ReadFractions.{fraction-of, fraction-is, written_fraction}
use Rattle.asn_times.proofs.MomentFacts.{own_moment, one_reading, one_text}

zone_or_utc-of : (text : List ℕ) (z : ℤ) → IsZoneOrUtc text z → zone_or_utc text ≡ Some z
zone_or_utc-of text z (inl p) = ap zone_or_utc p.0 ∙ ap (λ n. Some n) (sym p.1)
zone_or_utc-of [] z (inr w) = absurd (none_some z (zone-of [] z w))
zone_or_utc-of (b ∷ bs) z (inr w) = zone-of (b ∷ bs) z w

zone_or_utc-is : (text : List ℕ) (z : ℤ) → zone_or_utc text ≡ Some z → IsZoneOrUtc text z
zone_or_utc-is [] z e = inl (refl, sym (same_some (pos 0) z e))
zone_or_utc-is (b ∷ bs) z e = inr (zone-is (b ∷ bs) z e)

-- The reading from each place on.
abbrev after_fraction : MomentFields → ℕ → ℕ × List ℕ → Option MomentFields
after_fraction g second f = option_map (with_end g second f.0) (zone_or_utc f.1)

abbrev after_seconds : MomentFields → ℕ × List ℕ → Option MomentFields
after_seconds g s = bind (fraction s.1) (after_fraction g s.0)

abbrev after_minutes : MomentFields × List ℕ → Option MomentFields
after_minutes m = bind (two m.1) (after_seconds m.0)

abbrev after_years : ℕ × List ℕ → Option MomentFields
after_years y = bind (minute_fields y.0 y.1) after_minutes

-- A text of the grammar is read as its fields.
pub generalized-finds : (text : List ℕ) (f : MomentFields) → GeneralizedStates text f → generalized_fields text ≡ Some f
generalized-finds text f t =
    let end = t.fraction ++ t.zone in
    let seconds = two_digits f.clock.second ++ end in
    let g = minute_of f.day.year f.day.month f.day.day f.clock.hour f.clock.minute in
    ap generalized_fields t.is
    ∙ ap (λ o. bind o after_years) (four-four_digits f.day.year t.is_year (minute_digits f ++ seconds))
    ∙ ap (λ o. bind o after_minutes) (minute-of f.day.year f.day.month f.day.day f.clock.hour f.clock.minute seconds t.small)
    ∙ ap (λ o. bind o (after_seconds g)) (two-two_digits f.clock.second t.is_second end)
    ∙ ap (λ o. bind o (after_fraction g f.clock.second)) (fraction-of t.fraction t.zone f.clock.nanosecond f.offset t.is_fraction t.is_zone)
    ∙ ap (option_map (with_end g f.clock.second f.clock.nanosecond)) (zone_or_utc-of t.zone f.offset t.is_zone)

-- What is read as fields is a text of the grammar.
pub generalized-states : (text : List ℕ) (f : MomentFields) → generalized_fields text ≡ Some f → GeneralizedStates text f
generalized-states text f e =
    let y = bind-some (four text) after_years f e in
    let m = bind-some (minute_fields y.0.0 y.0.1) after_minutes f y.2 in
    let s = bind-some (two m.0.1) (after_seconds m.0.0) f m.2 in
    let n = bind-some (fraction s.0.1) (after_fraction m.0.0 s.0.0) f s.2 in
    let z = map-some (zone_or_utc n.0.1) (with_end m.0.0 s.0.0 n.0.0) f n.2 in
    let years = four-is text y.0.0 y.0.1 y.1 in
    let minutes = minute-is y.0.0 y.0.1 m.0.0 m.0.1 m.1 in
    let seconds = two-is m.0.1 s.0.0 s.0.1 s.1 in
    let part = fraction-is s.0.1 n.0.0 n.0.1 n.1 in
    let g = minute_of y.0.0 minutes.month minutes.day minutes.hour minutes.minute in
    let same : with_end g s.0.0 n.0.0 z.0 ≡ f = ap (λ g. with_end g s.0.0 n.0.0 z.0) minutes.fields ∙ sym z.2 in
    let end : m.0.1 ≡ two_digits s.0.0 ++ (part.0 ++ n.0.1) = seconds.1 ∙ ap (λ l. two_digits s.0.0 ++ l) part.1 in
    let all : text ≡ four_digits y.0.0 ++ minute_digits g ++ two_digits s.0.0 ++ (part.0 ++ n.0.1)
    = years.1 ∙ ap (λ l. four_digits y.0.0 ++ l) (minutes.is ∙ ap (λ l. minute_digits g ++ l) end) in
    let states : GeneralizedStates text (with_end g s.0.0 n.0.0 z.0) = record {
      fraction = part.0;
      zone = n.0.1;
      is = all;
      is_year = years.0;
      small = minutes.small;
      is_second = seconds.0;
      is_fraction = part.2;
      is_zone = zone_or_utc-is n.0.1 z.0 z.1;
    } in
    subst (GeneralizedStates text) same states

-- The laws.
pub generalized-written-reads : (n : ℤ) (text : List ℕ) → GeneralizedWritten n text → GeneralizedReads text n
generalized-written-reads n text w =
    let d = w.utc.date in
    let a = natural d.year w.years.0 in
    record {
      fields = fields_of_moment w.utc;
      states = record {
        fraction = fraction_text w.utc.time.subsec_nanosecond;
        zone = 90 ∷ [];
        is = w.is;
        is_year = omega (arith, signed_arith, w.years, a);
        small = small_minute w.utc;
        is_second = omega (arith, w.utc.time.second_in);
        is_fraction = written_fraction w.utc.time.subsec_nanosecond (omega (arith, w.utc.time.subsec_in));
        is_zone = inr (inl (refl, refl));
      };
      utc = w.utc;
      moment = own_moment w.utc w.years.0;
      years = w.years;
      number = w.number;
    }

pub generalized_one_reading : (text : List ℕ) (m n : ℤ) → GeneralizedReads text m → GeneralizedReads text n → m ≡ n
generalized_one_reading = one_reading GeneralizedStates generalized_fields (pos 0) (pos 9999) generalized-finds

pub generalized_one_text : (n : ℤ) (text other : List ℕ) → GeneralizedWritten n text → GeneralizedWritten n other → text ≡ other
generalized_one_text = one_text generalized_digits (pos 0) (pos 9999)
