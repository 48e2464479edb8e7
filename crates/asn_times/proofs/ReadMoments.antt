-- Reading `MMDDhhmm` and the zone gives exactly what the grammar says.
use Rattle.std.proofs.Common.{◌≡◌, ℕ, ◌+◌, ◌*◌, ◌<◌, inl, inr, true, false, cond, ◌&&◌, ◌==◌, nat_lt, List, [], ◌∷◌, ◌++◌, Option, None, Some, refl, sym, ap, ◌∙◌, arith, ℤ, pos, neg_ℤ}
use Rattle.std.specs.Cmp.{first_so, second_so}
use Rattle.std.specs.Option.{option_map}
use Rattle.jiff_core.specs.declared.civil.datetime.DateTime.{DateTime}
use Rattle.jiff_core.proofs.CalendarLemmas.{days_in_month_bounds}
use Rattle.asn_times.specs.declared.moments.MomentFields.{MomentFields}
use Rattle.asn_times.specs.Digits.{two_digits}
use Rattle.asn_times.specs.Reading.{bind, two, offset_end, length_of_offset, zulu_end, zone, minute_fields, minute_of}
use Rattle.asn_times.specs.Moments.{IsSmallMinute, IsZone, fields_of_moment, minute_digits}
use Rattle.asn_times.proofs.ReadDigits.{none_some, same_some, bind-some, map-some, below, is_below, same_number, two-two_digits, two-is}

-- `hhmm`.
abbrev IsOffset : List ℕ → ℕ → Type 0
IsOffset text n = (h : ℕ) × (m : ℕ) × (h < 24) × (m < 60) × (text ≡ two_digits h ++ two_digits m) × (n ≡ h * 3600 + m * 60)

end-is : (h m : ℕ) (rest : List ℕ) (n : ℕ) → offset_end h m rest ≡ Some n → (h < 24) × (m < 60) × (rest ≡ []) × (n ≡ h * 3600 + m * 60)
end-is h m [] n e =
    elim (nat_lt h 24 && nat_lt m 60) as (λ t. (nat_lt h 24 && nat_lt m 60) ≡ t → cond t (Some (h * 3600 + m * 60)) None ≡ Some n → (h < 24) × (m < 60) × (◌≡◌ {A = List ℕ} [] []) × (n ≡ h * 3600 + m * 60)) [
      | true ↦ λ t k. (below h 24 (first_so _ _ t), below m 60 (second_so (nat_lt h 24) _ t), refl, sym (same_some _ _ k))
      | false ↦ λ t k. absurd (none_some n k)
    ] refl e
end-is h m (b ∷ bs) n e = absurd (none_some n e)

end-of : (h m : ℕ) → h < 24 → m < 60 → offset_end h m [] ≡ Some (h * 3600 + m * 60)
end-of h m p q =
    let t : (nat_lt h 24 && nat_lt m 60) ≡ true = λ i. is_below h 24 p i && is_below m 60 q i in
    ap (λ t. cond t (Some (h * 3600 + m * 60)) None) t

length-is : (text : List ℕ) (n : ℕ) → length_of_offset text ≡ Some n → IsOffset text n
length-is text n e =
    let a = bind-some (two text) _ n e in
    let b = bind-some (two a.0.1) _ n a.2 in
    let c = end-is a.0.0 b.0.0 b.0.1 n b.2 in
    let one = two-is text a.0.0 a.0.1 a.1 in
    let other = two-is a.0.1 b.0.0 b.0.1 b.1 in
    let whole : a.0.1 ≡ two_digits b.0.0 = other.1 ∙ ap (λ l. two_digits b.0.0 ++ l) c.2 in
    (a.0.0, b.0.0, c.0, c.1, one.1 ∙ ap (λ l. two_digits a.0.0 ++ l) whole, c.3)

length-of : (h m : ℕ) → h < 24 → m < 60 → length_of_offset (two_digits h ++ two_digits m) ≡ Some (h * 3600 + m * 60)
length-of h m p q =
    let f : ℕ × List ℕ → Option ℕ = λ x. bind (two x.1) (λ y. offset_end x.0 y.0 y.1) in
    let g : ℕ × List ℕ → Option ℕ = λ y. offset_end h y.0 y.1 in
    ap (λ o. bind o f) (two-two_digits h (omega arith) (two_digits m)) ∙ ap (λ o. bind o g) (two-two_digits m (omega arith) []) ∙ end-of h m p q

-- What the zone is read as, it is by the grammar.
pub zone-is : (text : List ℕ) (z : ℤ) → zone text ≡ Some z → IsZone text z
zone-is [] z e = absurd (none_some z e)
zone-is (b ∷ bs) z e =
    elim (b == 43) as (λ t. (b == 43) ≡ t → cond t (option_map pos (length_of_offset bs)) (cond (b == 45) (option_map (λ n. neg_ℤ (pos n)) (length_of_offset bs)) (cond (b == 90) (zulu_end bs) None)) ≡ Some z → IsZone (b ∷ bs) z) [
      | true ↦ λ t k.
          let m = map-some (length_of_offset bs) pos z k in
          let l = length-is bs m.0 m.1 in
          let c : b ≡ 43 = same_number b 43 t in
          inr (l.0, l.1, l.2, l.3, inl ((λ i. c i ∷ l.4 i), m.2 ∙ ap pos l.5))
      | false ↦ λ _ k. elim (b == 45) as (λ t. (b == 45) ≡ t → cond t (option_map (λ n. neg_ℤ (pos n)) (length_of_offset bs)) (cond (b == 90) (zulu_end bs) None) ≡ Some z → IsZone (b ∷ bs) z) [
        | true ↦ λ t k.
            let m = map-some (length_of_offset bs) (λ n. neg_ℤ (pos n)) z k in
            let l = length-is bs m.0 m.1 in
            let c : b ≡ 45 = same_number b 45 t in
            inr (l.0, l.1, l.2, l.3, inr ((λ i. c i ∷ l.4 i), m.2 ∙ ap (λ n. neg_ℤ (pos n)) l.5))
        | false ↦ λ _ k. elim (b == 90) as (λ t. (b == 90) ≡ t → cond t (zulu_end bs) None ≡ Some z → IsZone (b ∷ bs) z) [
          | true ↦ λ t k. let c : b ≡ 90 = same_number b 90 t in zulu bs c k
          | false ↦ λ _ k. absurd (none_some z k)
        ] refl k
      ] refl k
    ] refl e
  where
    zulu : (bs : List ℕ) → b ≡ 90 → zulu_end bs ≡ Some z → IsZone (b ∷ bs) z
    zulu [] c k = inl ((λ i. c i ∷ []), sym (same_some _ _ k))
    zulu (x ∷ xs) c k = absurd (none_some z k)

-- What the zone is by the grammar, it is read as.
pub zone-of : (text : List ℕ) (z : ℤ) → IsZone text z → zone text ≡ Some z
zone-of text z (inl p) = ap zone p.0 ∙ ap (λ n. Some n) (sym p.1)
zone-of text z (inr (h, m, p, q, inl w)) = ap zone w.0 ∙ ap (option_map pos) (length-of h m p q) ∙ ap (λ n. Some n) (sym w.1)
zone-of text z (inr (h, m, p, q, inr w)) = ap zone w.0 ∙ ap (option_map (λ n. neg_ℤ (pos n))) (length-of h m p q) ∙ ap (λ n. Some n) (sym w.1)

abbrev pub minute_given : MomentFields → List ℕ → Option (MomentFields × List ℕ)
minute_given f rest = Some (f, rest)

-- The reading from each place on.
abbrev after_hours : ℕ → ℕ → ℕ → ℕ × List ℕ → Option (MomentFields × List ℕ)
after_hours y o d h = bind (two h.1) (λ m. minute_given (minute_of y o d h.0 m.0) m.1)

abbrev after_days : ℕ → ℕ → ℕ × List ℕ → Option (MomentFields × List ℕ)
after_days y o d = bind (two d.1) (after_hours y o d.0)

abbrev after_months : ℕ → ℕ × List ℕ → Option (MomentFields × List ℕ)
after_months y o = bind (two o.1) (after_days y o.0)

-- The digits of small numbers are read as those numbers.
pub minute-of : (y o d h m : ℕ) (rest : List ℕ) → IsSmallMinute (minute_of y o d h m) → minute_fields y (minute_digits (minute_of y o d h m) ++ rest) ≡ minute_given (minute_of y o d h m) rest
minute-of y o d h m rest small =
    let minutes = two_digits m ++ rest in
    let hours = two_digits h ++ minutes in
    let days = two_digits d ++ hours in
    ap (λ p. bind p (after_months y)) (two-two_digits o small.0 days)
    ∙ ap (λ p. bind p (after_days y o)) (two-two_digits d small.1 hours)
    ∙ ap (λ p. bind p (after_hours y o d)) (two-two_digits h small.2 minutes)
    ∙ ap (λ p. bind p (λ m. minute_given (minute_of y o d h m.0) m.1)) (two-two_digits m small.3 rest)

-- What is read is the digits of small numbers, and what follows.
pub record IsMinute (y : ℕ) (text : List ℕ) (f : MomentFields) (rest : List ℕ) : Type 0 where
  pub month : ℕ
  pub day : ℕ
  pub hour : ℕ
  pub minute : ℕ
  pub fields : minute_of y month day hour minute ≡ f
  pub small : IsSmallMinute (minute_of y month day hour minute)
  pub is : text ≡ minute_digits (minute_of y month day hour minute) ++ rest

pub minute-is : (y : ℕ) (text : List ℕ) (f : MomentFields) (rest : List ℕ) → minute_fields y text ≡ minute_given f rest → IsMinute y text f rest
minute-is y text f rest e =
    let o = bind-some (two text) (after_months y) (f, rest) e in
    let d = bind-some (two o.0.1) (after_days y o.0.0) (f, rest) o.2 in
    let h = bind-some (two d.0.1) (after_hours y o.0.0 d.0.0) (f, rest) d.2 in
    let m = bind-some (two h.0.1) (λ m. minute_given (minute_of y o.0.0 d.0.0 h.0.0 m.0) m.1) (f, rest) h.2 in
    let months = two-is text o.0.0 o.0.1 o.1 in
    let days = two-is o.0.1 d.0.0 d.0.1 d.1 in
    let hours = two-is d.0.1 h.0.0 h.0.1 h.1 in
    let minutes = two-is h.0.1 m.0.0 m.0.1 m.1 in
    let same : (minute_of y o.0.0 d.0.0 h.0.0 m.0.0, m.0.1) ≡ (f, rest) = same_some _ _ m.2 in
    let last : m.0.1 ≡ rest = ap (λ p. p.1) same in
    let all : text ≡ minute_digits (minute_of y o.0.0 d.0.0 h.0.0 m.0.0) ++ m.0.1
    = months.1 ∙ ap (λ l. two_digits o.0.0 ++ l) (days.1 ∙ ap (λ l. two_digits d.0.0 ++ l) (hours.1 ∙ ap (λ l. two_digits h.0.0 ++ l) minutes.1)) in
    record {
      month = o.0.0;
      day = d.0.0;
      hour = h.0.0;
      minute = m.0.0;
      fields = ap (λ p. p.0) same;
      small = (months.0, days.0, hours.0, minutes.0);
      is = all ∙ ap (λ l. minute_digits (minute_of y o.0.0 d.0.0 h.0.0 m.0.0) ++ l) last;
    }

-- The numbers of a moment fit their digits.
pub small_minute : (utc : DateTime) → IsSmallMinute (fields_of_moment utc)
small_minute utc =
    let b = days_in_month_bounds utc.date.year utc.date.month in
    (omega (arith, utc.date.month_in), omega (arith, utc.date.day_in, b), omega (arith, utc.time.hour_in), omega (arith, utc.time.minute_in))
