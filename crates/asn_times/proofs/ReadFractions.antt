-- Reading a fraction gives exactly what the grammar says, and a written one is read back.
use Rattle.std.proofs.Common.{◌≡◌, ℕ, zero, suc, ◌+◌, ◌-◌, ◌*◌, ◌/◌, ◌%◌, ◌<◌, ◌≤◌, ◌⊎◌, inl, inr, Bool, true, false, cond, ◌||◌, ◌==◌, List, [], ◌∷◌, ◌++◌, length, None, Some, refl, sym, ap, subst, ◌∙◌, arith, ℤ}
use Rattle.std.proofs.lemmas.Bool.Decides.{nat_tests}
use Rattle.asn_times.specs.Reading.{is_digit, digits, some_digits, fraction}
use Rattle.asn_times.specs.Generalized.{AreDigits, IsFraction, IsZoneOrUtc, fraction_digits, fraction_text, fraction_value}
use Rattle.asn_times.proofs.ReadDigits.{given, none_some, some_pair, digit_range, same_number}

abbrev pub read : ℕ → List ℕ → ℕ × List ℕ
read n rest = (n, rest)

is_digit_of : (b : ℕ) → 48 ≤ b → b < 58 → is_digit b ≡ true
is_digit_of b p q = grind (arith, nat_tests)

-- No digit stands at the front.
abbrev NoDigit : List ℕ → Type 0
NoDigit rest = (places : ℕ) → digits places rest ≡ read 0 rest

-- Digits are read as their value.
digits-of : (places : ℕ) (ds rest : List ℕ) → AreDigits ds → length ds ≤ places → NoDigit rest → digits places (ds ++ rest) ≡ read (fraction_value ds) rest
digits-of places [] rest a l none = none places
digits-of zero (b ∷ bs) rest a l none = absurd (omega arith)
digits-of (suc places) (b ∷ bs) rest a l none =
    let ih = digits-of places bs rest a.2 (omega arith) none in
    ap (λ t. elim t as (λ _. ℕ × List ℕ) [ true ↦ ((b - 48) * 100_000_000 + (digits places (bs ++ rest)).0 / 10, (digits places (bs ++ rest)).1) | false ↦ (0, b ∷ bs ++ rest) ]) (is_digit_of b a.0 a.1)
    ∙ ap (λ r. read ((b - 48) * 100_000_000 + r.0 / 10) r.1) ih

-- What is read has digits in front.
pub record HasDigits (places : ℕ) (text : List ℕ) (n : ℕ) (rest : List ℕ) : Type 0 where
  pub digits : List ℕ
  pub is : text ≡ digits ++ rest
  pub are_digits : AreDigits digits
  pub few : length digits ≤ places
  pub value : n ≡ fraction_value digits

digits-is : (places : ℕ) (text : List ℕ) → HasDigits places text (digits places text).0 (digits places text).1
digits-is zero text = record { digits = []; is = refl; are_digits = tt; few = omega arith; value = refl }
digits-is (suc places) [] = record { digits = []; is = refl; are_digits = tt; few = omega arith; value = refl }
digits-is (suc places) (b ∷ bs) =
    elim (is_digit b) as (λ t. is_digit b ≡ t → HasDigits (suc places) (b ∷ bs) (whole t).0 (whole t).1) [
      | true ↦ λ t.
          let ih = digits-is places bs in
          let r = digit_range b t in
          let f = ih.few in
          record {
            digits = b ∷ ih.digits;
            is = ap (λ l. b ∷ l) ih.is;
            are_digits = (r.0, r.1, ih.are_digits);
            few = omega arith;
            value = ap (λ n. (b - 48) * 100_000_000 + n / 10) ih.value;
          }
      | false ↦ λ t. record { digits = []; is = refl; are_digits = tt; few = omega arith; value = refl }
    ] refl
  where
    whole : Bool → ℕ × List ℕ
    whole t = elim t as (λ _. ℕ × List ℕ) [ true ↦ ((b - 48) * 100_000_000 + (digits places bs).0 / 10, (digits places bs).1) | false ↦ (0, b ∷ bs) ]

-- One to nine digits are read as their value.
some-of : (ds rest : List ℕ) → AreDigits ds → 1 ≤ length ds → length ds ≤ 9 → NoDigit rest → some_digits (ds ++ rest) ≡ given (fraction_value ds) rest
some-of [] rest a some nine none = absurd (omega arith)
some-of (b ∷ bs) rest a some nine none =
    ap (λ t. cond t (Some (digits 9 (b ∷ bs ++ rest))) None) (is_digit_of b a.0 a.1) ∙ ap (λ p. Some p) (digits-of 9 (b ∷ bs) rest a nine none)

some-is : (text : List ℕ) (n : ℕ) (rest : List ℕ) → some_digits text ≡ given n rest → (ds : List ℕ) × (text ≡ ds ++ rest) × AreDigits ds × (1 ≤ length ds) × (length ds ≤ 9) × (n ≡ fraction_value ds)
some-is [] n rest e = absurd (none_some (n, rest) e)
some-is (b ∷ bs) n rest e =
    elim (is_digit b) as (λ t. is_digit b ≡ t → cond t (Some (whole t)) None ≡ given n rest → (ds : List ℕ) × (b ∷ bs ≡ ds ++ rest) × AreDigits ds × (1 ≤ length ds) × (length ds ≤ 9) × (n ≡ fraction_value ds)) [
      | true ↦ λ t k.
          let ih = digits-is 8 bs in
          let r = digit_range b t in
          let f = ih.few in
          let q = some_pair _ _ _ _ k in
          (b ∷ ih.digits, ap (λ l. b ∷ l) (ih.is ∙ ap (λ l. ih.digits ++ l) q.1), (r.0, r.1, ih.are_digits), omega arith, omega arith, sym q.0 ∙ ap (λ n. (b - 48) * 100_000_000 + n / 10) ih.value)
      | false ↦ λ t k. absurd (none_some (n, rest) k)
    ] refl e
  where
    whole : Bool → ℕ × List ℕ
    whole t = elim t as (λ _. ℕ × List ℕ) [ true ↦ ((b - 48) * 100_000_000 + (digits 8 bs).0 / 10, (digits 8 bs).1) | false ↦ (0, b ∷ bs) ]

-- No zone begins with a digit, nor with the mark of a fraction.
end_no_digit : NoDigit []
end_no_digit zero = refl
end_no_digit (suc places) = refl

other_no_digit : (b : ℕ) (bs : List ℕ) → is_digit b ≡ false → NoDigit (b ∷ bs)
other_no_digit b bs e zero = refl
other_no_digit b bs e (suc places) =
    ap (λ t. elim t as (λ _. ℕ × List ℕ) [ true ↦ ((b - 48) * 100_000_000 + (digits places bs).0 / 10, (digits places bs).1) | false ↦ (0, b ∷ bs) ]) e

zone_no_digit : (text : List ℕ) (z : ℤ) → IsZoneOrUtc text z → NoDigit text
zone_no_digit text z (inl p) = subst NoDigit (sym p.0) end_no_digit
zone_no_digit text z (inr (inl p)) = subst NoDigit (sym p.0) (other_no_digit 90 [] refl)
zone_no_digit text z (inr (inr (h, m, p, q, inl w))) = subst NoDigit (sym w.0) (other_no_digit 43 _ refl)
zone_no_digit text z (inr (inr (h, m, p, q, inr w))) = subst NoDigit (sym w.0) (other_no_digit 45 _ refl)

abbrev HasNoFraction : List ℕ → Type 0
HasNoFraction text = fraction text ≡ given 0 text

zone_no_fraction : (text : List ℕ) (z : ℤ) → IsZoneOrUtc text z → HasNoFraction text
zone_no_fraction text z (inl p) = subst HasNoFraction (sym p.0) refl
zone_no_fraction text z (inr (inl p)) = subst HasNoFraction (sym p.0) refl
zone_no_fraction text z (inr (inr (h, m, p, q, inl w))) = subst HasNoFraction (sym w.0) refl
zone_no_fraction text z (inr (inr (h, m, p, q, inr w))) = subst HasNoFraction (sym w.0) refl

-- A fraction before a zone is read as its value.
pub fraction-of : (text rest : List ℕ) (n : ℕ) (z : ℤ) → IsFraction text n → IsZoneOrUtc rest z → fraction (text ++ rest) ≡ given n rest
fraction-of text rest n z (inl p) w =
    ap (λ l. fraction (l ++ rest)) p.0 ∙ zone_no_fraction rest z w ∙ ap (λ n. given n rest) (sym p.1)
fraction-of text rest n z (inr d) w =
    ap (λ l. fraction (l ++ rest)) d.is
    ∙ mark d.is_mark
    ∙ some-of d.digits rest d.are_digits d.some d.nine (zone_no_digit rest z w)
    ∙ ap (λ n. given n rest) (sym d.value)
  where
    mark : (d.mark ≡ 46) ⊎ (d.mark ≡ 44) → fraction (d.mark ∷ d.digits ++ rest) ≡ some_digits (d.digits ++ rest)
    mark (inl e) = ap (λ m. fraction (m ∷ d.digits ++ rest)) e
    mark (inr e) = ap (λ m. fraction (m ∷ d.digits ++ rest)) e

-- What is read as a fraction is one.
pub fraction-is : (text : List ℕ) (n : ℕ) (rest : List ℕ) → fraction text ≡ given n rest → (part : List ℕ) × (text ≡ part ++ rest) × IsFraction part n
fraction-is [] n rest e = let q = some_pair _ _ _ _ e in ([], q.1, inl (refl, sym q.0))
fraction-is (b ∷ bs) n rest e =
    elim (b == 46) as (λ t. (b == 46) ≡ t → cond (t || (b == 44)) (some_digits bs) (given 0 (b ∷ bs)) ≡ given n rest → (part : List ℕ) × (b ∷ bs ≡ part ++ rest) × IsFraction part n) [
      | true ↦ λ t k. marked (inl (same_number b 46 t)) k
      | false ↦ λ _ k. elim (b == 44) as (λ t. (b == 44) ≡ t → cond t (some_digits bs) (given 0 (b ∷ bs)) ≡ given n rest → (part : List ℕ) × (b ∷ bs ≡ part ++ rest) × IsFraction part n) [
        | true ↦ λ t k. marked (inr (same_number b 44 t)) k
        | false ↦ λ _ k. let q = some_pair _ _ _ _ k in ([], q.1, inl (refl, sym q.0))
      ] refl k
    ] refl e
  where
    marked : (b ≡ 46) ⊎ (b ≡ 44) → some_digits bs ≡ given n rest → (part : List ℕ) × (b ∷ bs ≡ part ++ rest) × IsFraction part n
    marked m k =
        let s = some-is bs n rest k in
        (b ∷ s.0, ap (λ l. b ∷ l) s.1, inr (record { mark = b; digits = s.0; is = refl; is_mark = m; are_digits = s.2; some = s.3; nine = s.4; value = s.5 }))

-- The written digits.
digits-are : (places n : ℕ) → n < 1_000_000_000 → AreDigits (fraction_digits places n)
digits-are zero n small = tt
digits-are (suc places) n small =
    elim (n == 0) as (λ t. AreDigits (elim t as (λ _. List ℕ) [ true ↦ [] | false ↦ (48 + n / 100_000_000) ∷ fraction_digits places (n % 100_000_000 * 10) ])) [
      | true ↦ tt
      | false ↦ (omega arith, omega arith, digits-are places (n % 100_000_000 * 10) (omega arith))
    ]

digits-few : (places n : ℕ) → length (fraction_digits places n) ≤ places
digits-few zero n = omega arith
digits-few (suc places) n =
    let ih = digits-few places (n % 100_000_000 * 10) in
    elim (n == 0) as (λ t. length (elim t as (λ _. List ℕ) [ true ↦ [] | false ↦ (48 + n / 100_000_000) ∷ fraction_digits places (n % 100_000_000 * 10) ]) ≤ suc places) [ true ↦ omega arith | false ↦ omega arith ]

-- So many digits are enough.
abbrev Fits : ℕ → ℕ → Type 0
Fits zero n = n ≡ 0
Fits (suc places) n = Fits places (n % 100_000_000 * 10)

digits-value : (places n : ℕ) → Fits places n → fraction_value (fraction_digits places n) ≡ n
digits-value zero n fits = sym fits
digits-value (suc places) n fits =
    let ih = digits-value places (n % 100_000_000 * 10) fits in
    elim (n == 0) as (λ t. (n == 0) ≡ t → fraction_value (elim t as (λ _. List ℕ) [ true ↦ [] | false ↦ (48 + n / 100_000_000) ∷ fraction_digits places (n % 100_000_000 * 10) ]) ≡ n) [
      | true ↦ λ t. sym (same_number n 0 t)
      | false ↦ λ t.
          let value : (48 + n / 100_000_000 - 48) * 100_000_000 + n % 100_000_000 * 10 / 10 ≡ n = omega arith in
          ap (λ v. (48 + n / 100_000_000 - 48) * 100_000_000 + v / 10) ih ∙ value
    ] refl

-- Nine digits are enough for each number of nanoseconds below a second: after each digit one more
-- zero stands at the end.
fits_one : (m : ℕ) → Fits 1 (100_000_000 * m)
fits_one m = omega arith

fits_two : (m : ℕ) → Fits 2 (10_000_000 * m)
fits_two m = let e : 10_000_000 * m % 100_000_000 * 10 ≡ 100_000_000 * (m % 10) = omega arith in subst (Fits 1) (sym e) (fits_one (m % 10))

fits_three : (m : ℕ) → Fits 3 (1_000_000 * m)
fits_three m = let e : 1_000_000 * m % 100_000_000 * 10 ≡ 10_000_000 * (m % 100) = omega arith in subst (Fits 2) (sym e) (fits_two (m % 100))

fits_four : (m : ℕ) → Fits 4 (100_000 * m)
fits_four m = let e : 100_000 * m % 100_000_000 * 10 ≡ 1_000_000 * (m % 1_000) = omega arith in subst (Fits 3) (sym e) (fits_three (m % 1_000))

fits_five : (m : ℕ) → Fits 5 (10_000 * m)
fits_five m = let e : 10_000 * m % 100_000_000 * 10 ≡ 100_000 * (m % 10_000) = omega arith in subst (Fits 4) (sym e) (fits_four (m % 10_000))

fits_six : (m : ℕ) → Fits 6 (1_000 * m)
fits_six m = let e : 1_000 * m % 100_000_000 * 10 ≡ 10_000 * (m % 100_000) = omega arith in subst (Fits 5) (sym e) (fits_five (m % 100_000))

fits_seven : (m : ℕ) → Fits 7 (100 * m)
fits_seven m = let e : 100 * m % 100_000_000 * 10 ≡ 1_000 * (m % 1_000_000) = omega arith in subst (Fits 6) (sym e) (fits_six (m % 1_000_000))

fits_eight : (m : ℕ) → Fits 8 (10 * m)
fits_eight m = let e : 10 * m % 100_000_000 * 10 ≡ 100 * (m % 10_000_000) = omega arith in subst (Fits 7) (sym e) (fits_seven (m % 10_000_000))

fits_nine : (n : ℕ) → Fits 9 n
fits_nine n = let e : n % 100_000_000 * 10 ≡ 10 * (n % 100_000_000) = omega arith in subst (Fits 8) (sym e) (fits_eight (n % 100_000_000))

-- The written fraction is one by the grammar.
pub written_fraction : (n : ℕ) → n < 1_000_000_000 → IsFraction (fraction_text n) n
written_fraction n small =
    elim (n == 0) as (λ t. (n == 0) ≡ t → IsFraction (elim t as (λ _. List ℕ) [ true ↦ [] | false ↦ 46 ∷ fraction_digits 9 n ]) n) [
      | true ↦ λ t. inl (refl, same_number n 0 t)
      | false ↦ λ t. inr (record {
        mark = 46;
        digits = fraction_digits 9 n;
        is = refl;
        is_mark = inl refl;
        are_digits = digits-are 9 n small;
        some = some t;
        nine = digits-few 9 n;
        value = sym (digits-value 9 n (fits_nine n));
      })
    ] refl
  where
    some : (n == 0) ≡ false → 1 ≤ length (fraction_digits 9 n)
    some t =
        let P : Bool → Type 0 = λ t. 1 ≤ length (elim t as (λ _. List ℕ) [ true ↦ [] | false ↦ (48 + n / 100_000_000) ∷ fraction_digits 8 (n % 100_000_000 * 10) ]) in
        subst P (sym t) (omega arith)
