-- What std reads as a `u32` is an arc.
use Rattle.std.proofs.Common.{◌≡◌, refl, ap, sym, ◌∙◌, arith, ℕ, ◌+◌, ◌-◌, ◌*◌, ◌^◌, List, [], ◌∷◌, Bool, true, false, nat_le, ◌&&◌, if◌then◌else◌, Option, Some, None, Result, Ok, Err}
use Rattle.std.specs.Char.{digit_value}
use Rattle.std.specs.Result.{result_ok}
use Rattle.std.specs.Str.Parse.{AllDigits, IsNumeral, ParsesUnsigned, digits_value, digits_value_after, without_leading_plus}
use Rattle.std.proofs.lemmas.Bool.{le-leb, leb-true, lt-ltb, ltb-true}
use Rattle.std.proofs.lemmas.Str.{digit_value_digit}
use Rattle.std.proofs.lemmas.Str.Parse.{digit_from_value}
use Rattle.avn_grammar.specs.WellFormed.{is_arc}
use Rattle.asn_model.specs.Arcs.{arc_number, if_arc}
use Rattle.asn_model.specs.Digits.{digits, digits_after}
use Rattle.asn_model.proofs.Readables.{and-left, and-right, and-both}

abbrev is_decimal : ℕ → Bool
is_decimal c = nat_le 48 c && nat_le c 57

-- Decimal digits are read as the number that std reads.
digits-valued : (n : ℕ) (ds : List ℕ) → AllDigits 10 ds → digits_after n ds ≡ Some (digits_value_after 10 n ds)
digits-valued n [] h = refl
digits-valued n (c ∷ cs) h =
    let range = digit_from_value c h.0 in
    let value : c - 48 ≡ digit_value c = omega (arith, digit_value_digit c range) in
    ap (λ b. if b then digits_after (n * 10 + (c - 48)) cs else None) (and-both _ _ (le-leb 48 c range.0) (le-leb c 57 range.1))
    ∙ ap (λ k. digits_after (n * 10 + k) cs) value ∙ digits-valued (n * 10 + digit_value c) cs h.1

no_number : {P : Type 0} {n : ℕ} → ◌≡◌ {A = Option ℕ} None (Some n) → P
no_number e = cc e

-- What is read as a number is decimal digits.
all-digits : (n k : ℕ) (ds : List ℕ) → digits_after n ds ≡ Some k → AllDigits 10 ds
all-digits n k [] e = tt
all-digits n k (c ∷ cs) e = by (is_decimal c) refl e (all-digits (n * 10 + (c - 48)) k cs)
  where
    by : (b : Bool) → is_decimal c ≡ b → (if b then digits_after (n * 10 + (c - 48)) cs else None) ≡ Some k → (digits_after (n * 10 + (c - 48)) cs ≡ Some k → AllDigits 10 cs) → AllDigits 10 (c ∷ cs)
    by true is rest later =
        let low = leb-true 48 c (and-left (nat_le 48 c) (nat_le c 57) is) in
        let high = leb-true c 57 (and-right (nat_le 48 c) (nat_le c 57) is) in
        (omega (arith, digit_value_digit c (low, high), high), later rest)
    by false is rest later = no_number rest

-- One or more decimal digits are a number.
pub numeral-read : (ds : List ℕ) → IsNumeral 10 ds → digits ds ≡ Some (digits_value 10 ds)
numeral-read [] h = absurd (omega (arith, h.0))
numeral-read (c ∷ cs) h = digits-valued 0 (c ∷ cs) h.1

pub numeral-from : (ds : List ℕ) (k : ℕ) → digits ds ≡ Some k → IsNumeral 10 ds
numeral-from [] k e = no_number e
numeral-from (c ∷ cs) k e = (omega arith, all-digits 0 k (c ∷ cs) e)

pub same_number : {m n : ℕ} → ◌≡◌ {A = Option ℕ} (Some m) (Some n) → m ≡ n
same_number e = cc e

-- The answer of std's reader is the arc that the text is, if it is one.
pub parsed-arc : {E : Type 0} (text : List ℕ) (r : Result ℕ E) → ParsesUnsigned 32 10 text r → result_ok r ≡ arc_number text
parsed-arc text (Ok x) h =
    let ds = without_leading_plus text in
    let value = digits_value 10 ds in
    ap Some h.1 ∙ sym (ap if_arc (numeral-read ds h.0.0) ∙ ap (λ b. if b then Some value else None) (lt-ltb value (2 ^ 32) h.0.1))
parsed-arc text (Err e) h = none (digits (without_leading_plus text)) refl
  where
    above : (k : ℕ) (b : Bool) → digits (without_leading_plus text) ≡ Some k → is_arc k ≡ b → None ≡ (if b then Some k else None)
    above k true is small =
        let numeral = numeral-from (without_leading_plus text) k is in
        let same : digits_value 10 (without_leading_plus text) ≡ k = same_number (sym (numeral-read (without_leading_plus text) numeral) ∙ is) in
        absurd (h (numeral, omega (arith, same, ltb-true k (2 ^ 32) small)))
    above k false is small = refl

    none : (o : Option ℕ) → digits (without_leading_plus text) ≡ o → None ≡ if_arc (digits (without_leading_plus text))
    none None is = sym (ap if_arc is)
    none (Some k) is = above k (is_arc k) is refl ∙ sym (ap if_arc is)
