-- Numbers from 2^63 to 2^64-1 and their digits.
use Rattle.std.proofs.Common.{◌≡◌, ◌≤◌, ◌<◌, ◌^◌, ◌&&◌, ℕ, List, length, get_or, true, nat_le, nat_lt, decimal, refl, sym, subst}
use Rattle.std.specs.Str.{bytes_eq}
use Rattle.std.specs.Str.Parse.{AllDigits, digits_value}
use Rattle.std.proofs.lemmas.Bool.{le-leb, leb-true, lt-ltb, ltb-true}
use Rattle.std.proofs.lemmas.Fmt.{decimal-digits_value, digits_value-decimal}
use Rattle.std.proofs.lemmas.Slice.Eq.{bytes_eq-Decides}
use Rattle.std.proofs.lemmas.Str.Parse.{numerals_by_value, tells_digits}
use Rattle.asn_model.specs.Decimals.{is_decimal, is_decimal_of}
use Rattle.asn_model.proofs.Readables.{and-both, and-left, and-right}

pub is_decimal-of : (n : ℕ) (text : List ℕ) → text ≡ decimal n → 2 ^ 63 ≤ n → n < 2 ^ 64 → is_decimal_of n text ≡ true
is_decimal-of n text e low high = and-both _ _ ((bytes_eq-Decides text (decimal n)).1 e) (and-both _ _ (le-leb (2 ^ 63) n low) (lt-ltb n (2 ^ 64) high))

-- The digits of such a number are a text of the kind.
pub is_decimal-written : (n : ℕ) → 2 ^ 63 ≤ n → n < 2 ^ 64 → is_decimal (decimal n) ≡ true
is_decimal-written n low high =
    subst (λ m. is_decimal_of m (decimal n) ≡ true) (sym (digits_value-decimal (numerals_by_value (AllDigits 10) tells_digits) n high)) (is_decimal-of n (decimal n) refl low high)

-- The text is the digits of its number, which is in range.
pub record IsDecimal (text : List ℕ) : Type 0 where
  pub digits : text ≡ decimal (digits_value 10 text)
  pub least : 2 ^ 63 ≤ digits_value 10 text
  pub greatest : digits_value 10 text < 2 ^ 64

-- A text of the kind is the digits of such a number.
pub is_decimal-read : (text : List ℕ) → is_decimal text ≡ true → IsDecimal text
is_decimal-read text e =
    let n = digits_value 10 text in
    let range = and-right (bytes_eq text (decimal n)) (nat_le (2 ^ 63) n && nat_lt n (2 ^ 64)) e in
    record {
      digits = (bytes_eq-Decides text (decimal n)).0 (and-left (bytes_eq text (decimal n)) (nat_le (2 ^ 63) n && nat_lt n (2 ^ 64)) e);
      least = leb-true (2 ^ 63) n (and-left (nat_le (2 ^ 63) n) (nat_lt n (2 ^ 64)) range);
      greatest = ltb-true n (2 ^ 64) (and-right (nat_le (2 ^ 63) n) (nat_lt n (2 ^ 64)) range);
    }

-- Digits of such a number that don't begin with 0 are those that are written for it.
pub plain_digits : (text : List ℕ) → AllDigits 10 text → 0 < length text → (get_or text 0 0 ≡ 48 → ⊥) → 2 ^ 63 ≤ digits_value 10 text → digits_value 10 text < 2 ^ 64 → text ≡ decimal (digits_value 10 text)
plain_digits text digits some first low high =
    sym (decimal-digits_value (numerals_by_value (AllDigits 10) tells_digits) text digits some (λ zero. absurd (first zero)) high)
