-- What std reads as a number.
use Rattle.std.proofs.Common.{◌≡◌, refl, ap, sym, ◌∙◌, arith, ℕ, zero, suc, ◌+◌, ◌-◌, ◌*◌, ◌^◌, List, [], ◌∷◌, Bool, true, false, nat_le, nat_lt, ◌&&◌, if◌then◌else◌, Option, Some, None, Result, Ok, Err, cond, drop, ◌==◌}
use Rattle.std.specs.Result.{result_ok}
use Rattle.std.specs.Str.{IsAscii, IsUtf8}
use Rattle.std.specs.Str.Parse.{AllDigits, ParsesUnsigned, digits_value, without_leading_plus}
use Rattle.std.proofs.lemmas.Bool.{eqb-true, lt-ltb, ltb-true}
use Rattle.std.proofs.lemmas.Str.{IsUtf8-from_ascii}
use Rattle.std.proofs.lemmas.Str.Parse.{digit_from_value}
use Rattle.asn_model.specs.Digits.{digits}
use Rattle.asn_model.proofs.ArcsParsed.{numeral-read, numeral-from, same_number}
use Rattle.asn_modules_rules.specs.numbers.Stated.{within_bits}

-- The answer of std's reader is the number of the digits, if it has so few bits.
pub parsed-number : {E : Type 0} (bits : ℕ) (text : List ℕ) (r : Result ℕ E) → ParsesUnsigned bits 10 text r → result_ok r ≡ within_bits bits (digits (without_leading_plus text))
parsed-number bits text (Ok x) h =
    let ds = without_leading_plus text in
    let value = digits_value 10 ds in
    ap Some h.1 ∙ sym (ap (within_bits bits) (numeral-read ds h.0.0) ∙ ap (λ b. if b then Some value else None) (lt-ltb value (2 ^ bits) h.0.1))
parsed-number bits text (Err e) h = none (digits (without_leading_plus text)) refl
  where
    above : (k : ℕ) (b : Bool) → digits (without_leading_plus text) ≡ Some k → nat_lt k (2 ^ bits) ≡ b → None ≡ (if b then Some k else None)
    above k true is small =
        let numeral = numeral-from (without_leading_plus text) k is in
        let same : digits_value 10 (without_leading_plus text) ≡ k = same_number (sym (numeral-read (without_leading_plus text) numeral) ∙ is) in
        absurd (h (numeral, omega (arith, same, ltb-true k (2 ^ bits) small)))
    above k false is small = refl

    none : (o : Option ℕ) → digits (without_leading_plus text) ≡ o → None ≡ within_bits bits (digits (without_leading_plus text))
    none None is = sym (ap (within_bits bits) is)
    none (Some k) is = above k (nat_lt k (2 ^ bits)) is refl ∙ sym (ap (within_bits bits) is)

digits-ascii : (ds : List ℕ) → AllDigits 10 ds → IsAscii ds
digits-ascii [] h i = omega arith
digits-ascii (c ∷ cs) h zero = let range = digit_from_value c h.0 in omega (arith, range.1)
digits-ascii (c ∷ cs) h (suc i) = digits-ascii cs h.1 i

-- What isn't UTF-8 is no number.
pub other-number : (bits : ℕ) (text : List ℕ) → (IsUtf8 text → ⊥) → None ≡ within_bits bits (digits text)
other-number bits text h = by (digits text) refl
  where
    by : (o : Option ℕ) → digits text ≡ o → None ≡ within_bits bits (digits text)
    by None e = sym (ap (within_bits bits) e)
    by (Some k) e = absurd (h (IsUtf8-from_ascii text (digits-ascii text (numeral-from text k e).1)))

-- Where no plus stands first, none is taken away.
pub no-plus : (text : List ℕ) → ((rest : List ℕ) → text ≡ 43 ∷ rest → ⊥) → without_leading_plus text ≡ text
no-plus [] h = refl
no-plus (c ∷ cs) h = by (c == 43) refl
  where
    by : (b : Bool) → (c == 43) ≡ b → drop (cond (c == 43) 1 0) (c ∷ cs) ≡ c ∷ cs
    by true e = absurd (h cs (ap (λ x. x ∷ cs) (eqb-true c 43 e)))
    by false e = ap (λ b. drop (cond b 1 0) (c ∷ cs)) e
