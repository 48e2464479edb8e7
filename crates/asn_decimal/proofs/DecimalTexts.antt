-- What std reads of a text that begins with a digit other than 0.
use Rattle.std.proofs.Common.{◌≡◌, ◌≢◌, ◌≤◌, ◌<◌, ◌^◌, ℕ, List, get_or, Bool, true, false, Option, Some, None, Result, Ok, Err, decimal, is_some, IfSome, SomeIff, refl, sym, ap, ◌∙◌, subst, arith}
use Rattle.std.specs.Result.{result_ok}
use Rattle.std.specs.Str.Parse.{IsNumeral, ParsesUnsigned, digits_value}
use Rattle.std.proofs.lemmas.Fmt.{first_decimal, parse-decimal}
use Rattle.std.proofs.lemmas.Str.Parse.{without_leading_plus_none}
use Rattle.asn_model.specs.Decimals.{is_decimal}
use Rattle.asn_model.proofs.Decimals.{is_decimal-of, is_decimal-read, plain_digits}

is_false : (b : Bool) → (b ≡ true → ⊥) → false ≡ b
is_false true h = absurd (h refl)
is_false false h = refl

-- A text that begins with 0, or with a sign, is none of the kind.
pub none_at : (text : List ℕ) (first : ℕ) → first ≤ 48 → first ≡ get_or text 0 0 → false ≡ is_decimal text
none_at text first small at =
    is_false (is_decimal text) (λ is. let d = is_decimal-read text is in
    omega (arith, first_decimal (digits_value 10 text) (omega (arith, d.least)) d.greatest, small, at, ap (λ t. get_or t 0 0) d.digits))

no_value : {P : Type 0} {n : ℕ} → ◌≡◌ {A = Option ℕ} None (Some n) → P
no_value e = cc e

-- A text that std reads as no number is none of the kind.
pub none_read : {E : Type 0} (text : List ℕ) (r : Result ℕ E) → None ≡ result_ok r → ParsesUnsigned 64 10 text r → false ≡ is_decimal text
none_read text r none parses =
    is_false (is_decimal text) (λ is. let d = is_decimal-read text is in
    no_value (none ∙ ap result_ok (parse-decimal 64 (digits_value 10 text) text r d.greatest d.greatest d.digits parses)))

-- The text is the digits of the number that std reads, whose digits may be without a leading zero.
pub record IsRead (text : List ℕ) (n : ℕ) : Type 0 where
  pub value : n ≡ digits_value 10 text
  pub digits : 2 ^ 63 ≤ n → text ≡ decimal n
  pub small : n < 2 ^ 64

same_value : {m n : ℕ} → ◌≡◌ {A = Option ℕ} (Some m) (Some n) → m ≡ n
same_value e = cc e

not_plus : (text : List ℕ) (first : ℕ) → 48 < first → first ≡ get_or text 0 0 → get_or text 0 0 ≢ 43
not_plus text first large at plus = omega (arith, large, at, plus)

pub number_read : {E : Type 0} (text : List ℕ) (first n : ℕ) (r : Result ℕ E) → 48 < first → first ≡ get_or text 0 0 → Some n ≡ result_ok r → ParsesUnsigned 64 10 text r → IsRead text n
number_read text first n (Err e) large at is parses = no_value (sym is)
number_read text first n (Ok m) large at is parses =
    let plain = without_leading_plus_none text (not_plus text first large at) in
    let numeral = subst (λ ds. IsNumeral 10 ds) plain parses.0.0 in
    let value = same_value is ∙ parses.1 ∙ ap (digits_value 10) plain in
    let small = subst (λ ds. digits_value 10 ds < 2 ^ 64) plain parses.0.1 in
    record {
      value = value;
      digits = λ least. subst (λ k. text ≡ decimal k) (sym value) (plain_digits text numeral.1 numeral.0 (λ zero. omega (arith, large, at, zero)) (omega (arith, least, value)) small);
      small = omega (arith, value, small);
    }

pub digits_of : (text : List ℕ) (n : ℕ) (o : Option ℕ) → IsRead text n → SomeIff o (2 ^ 63 ≤ n) n → IfSome o (λ m. text ≡ decimal m)
digits_of text n None is h = tt
digits_of text n (Some m) is h = subst (λ k. text ≡ decimal k) (sym h.1) (is.digits h.0)

-- The number that is read is from 2^63 on exactly where the text is one of the kind.
pub decided : (text : List ℕ) (n : ℕ) (o : Option ℕ) → IsRead text n → SomeIff o (2 ^ 63 ≤ n) n → is_some o ≡ is_decimal text
decided text n (Some m) is h =
    let e = subst (λ k. text ≡ decimal k) is.value (is.digits h.0) in
    sym (is_decimal-of (digits_value 10 text) text e (omega (arith, h.0, is.value)) (omega (arith, is.small, is.value)))
decided text n None is h =
    is_false (is_decimal text) (λ holds. let d = is_decimal-read text holds in
    h (omega (arith, d.least, is.value)))
