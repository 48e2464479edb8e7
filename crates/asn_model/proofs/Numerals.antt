-- Whole numbers as AVN writes them are read as those numbers.
use Rattle.std.proofs.Common.{◌≡◌, refl, ap, sym, ◌∙◌, arith, ℕ, suc, ℤ, pos, negsuc, neg_ℤ, ◌+◌, ◌-◌, ◌*◌, ◌/◌, ◌%◌, ◌^◌, ◌<◌, ◌≤◌, ◌≤ℤ◌, List, [], ◌∷◌, ◌++◌, Bool, true, false, cond, ◌==◌, if◌then◌else◌, Option, Some, None, option_map}
use Rattle.std.specs.Fmt.{decimal, signed_decimal}
use Rattle.std.proofs.lemmas.Bool.{eqb-true, agree_below_at}
use Rattle.std.proofs.lemmas.Fmt.{decimal_by_steps_wide}
use Rattle.std.proofs.lemmas.Int.{ints}
use Rattle.avn_grammar.specs.Chars.{is_digit}
use Rattle.avn_grammar.specs.WellFormed.{is_digits, is_number, unsigned}
use Rattle.avn_grammar.proofs.Digits.{digits-decimal}
use Rattle.asn_model.specs.Digits.{digits, digits_after, signed_number}

no_number : {P : Type 0} {n : ℕ} → ◌≡◌ {A = Option ℕ} None (Some n) → P
no_number e = cc e

same_number : {m n : ℕ} → ◌≡◌ {A = Option ℕ} (Some m) (Some n) → m ≡ n
same_number e = cc e

one_more : (b : Bool) (rest more : Option ℕ) (k j : ℕ) → (rest ≡ Some k → more ≡ Some j) → (if b then rest else None) ≡ Some k → (if b then more else None) ≡ Some j
one_more true rest more k j f e = f e
one_more false rest more k j f e = no_number e

-- One more digit.
digits-more : (ds : List ℕ) (m k c : ℕ) → is_digit c ≡ true → digits_after m ds ≡ Some k → digits_after m (ds ++ (c ∷ [])) ≡ Some (k * 10 + (c - 48))
digits-more [] m k c d e = rw d (ap (λ j. Some (j * 10 + (c - 48))) (same_number e))
digits-more (x ∷ ds) m k c d e = one_more (is_digit x) _ _ k (k * 10 + (c - 48)) (λ f. digits-more ds (m * 10 + (x - 48)) k c d f) e

digit_of : (n : ℕ) → n < 10 → is_digit (48 + n) ≡ true
digit_of n l = agree_below_at (λ n. is_digit (48 + n)) (λ n. true) 10 n refl l

last_digit : (n : ℕ) (ds : List ℕ) → 10 ≤ n → digits ds ≡ Some (n / 10) → digits (ds ++ ((48 + n % 10) ∷ [])) ≡ Some n
last_digit n [] l e = no_number e
last_digit n (d ∷ ds) l e =
    let whole : n / 10 * 10 + (48 + n % 10 - 48) ≡ n = omega arith in
    digits-more (d ∷ ds) 0 (n / 10) (48 + n % 10) (digit_of (n % 10) (omega arith)) e ∙ ap Some whole

one_digit : (n : ℕ) → n < 10 → digits ((48 + n) ∷ []) ≡ Some n
one_digit n l = let same : 0 * 10 + (48 + n - 48) ≡ n = omega arith in rw (digit_of n l) (ap Some same)

-- The digits of a number are read as it.
pub digits-read : (n : ℕ) → n < 10 ^ 64 → digits (decimal n) ≡ Some n
digits-read n h = decimal_by_steps_wide (λ n ds. digits ds ≡ Some n) one_digit last_digit n h

minus_first : (c : ℕ) (cs : List ℕ) (n : ℕ) → (c == 45) ≡ true → digits (c ∷ cs) ≡ Some n → ⊥
minus_first c cs n e h = let d : digits (45 ∷ cs) ≡ Some n = ap (λ x. digits (x ∷ cs)) (sym (eqb-true c 45 e)) ∙ h in no_number d

-- Digits without a sign are the number.
signed_digits : (ds : List ℕ) (n : ℕ) → digits ds ≡ Some n → signed_number ds ≡ Some (pos n)
signed_digits [] n e = no_number e
signed_digits (c ∷ cs) n e = by_first (c == 45) refl
  where
    by_first : (b : Bool) → (c == 45) ≡ b → (if b then option_map (λ n. neg_ℤ (pos n)) (digits cs) else option_map pos (digits (c ∷ cs))) ≡ Some (pos n)
    by_first true f = absurd (minus_first c cs n f e)
    by_first false f = ap (option_map pos) e

unsigned_digits : (ds : List ℕ) (n : ℕ) → digits ds ≡ Some n → unsigned ds ≡ ds
unsigned_digits [] n e = refl
unsigned_digits (c ∷ cs) n e = by_first (c == 45) refl
  where
    by_first : (b : Bool) → (c == 45) ≡ b → cond b cs (c ∷ cs) ≡ c ∷ cs
    by_first true f = absurd (minus_first c cs n f e)
    by_first false f = refl

wide_positive : (n : ℕ) → pos n ≤ℤ pos (2 ^ 128 - 1) → n < 10 ^ 64
wide_positive n h = omega (arith, ints, h)

wide_negative : (n : ℕ) → negsuc (2 ^ 127 - 1) ≤ℤ negsuc n → suc n < 10 ^ 64
wide_negative n h = omega (arith, ints, h)

-- The text of a number of at most 128 bits is read as that number.
pub number-read : (k : ℤ) → negsuc (2 ^ 127 - 1) ≤ℤ k → k ≤ℤ pos (2 ^ 128 - 1) → signed_number (signed_decimal k) ≡ Some k
number-read (pos n) low high = signed_digits (decimal n) n (digits-read n (wide_positive n high))
number-read (negsuc n) low high = ap (option_map (λ n. neg_ℤ (pos n))) (digits-read (suc n) (wide_negative n low))

-- It is an optional `-` and digits.
pub number-form : (k : ℤ) → negsuc (2 ^ 127 - 1) ≤ℤ k → k ≤ℤ pos (2 ^ 128 - 1) → is_number (signed_decimal k) ≡ true
number-form (pos n) low high =
    let small = wide_positive n high in
    ap is_digits (unsigned_digits (decimal n) n (digits-read n small)) ∙ digits-decimal n small
number-form (negsuc n) low high = digits-decimal (suc n) (wide_negative n low)
