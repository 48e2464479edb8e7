-- Bytes that are no UTF-8.
use Rattle.std.proofs.Common.{◌≡◌, refl, sym, subst, ℕ, List, Bool, true, false, decimal}
use Rattle.std.specs.Str.{IsUtf8, is_utf8}
use Rattle.std.specs.Str.Parse.{digits_value}
use Rattle.std.proofs.lemmas.Fmt.{IsAscii-decimal}
use Rattle.std.proofs.lemmas.Str.{IsUtf8-from_ascii, IsUtf8-from_is_utf8}
use Rattle.asn_model.specs.Decimals.{is_decimal}
use Rattle.asn_model.proofs.Decimals.{is_decimal-read}

not-true : (b : Bool) → (b ≡ true → ⊥) → b ≡ false
not-true true none = absurd (none refl)
not-true false none = refl

pub no-utf8 : (bytes : List ℕ) → (IsUtf8 bytes → ⊥) → is_utf8 bytes ≡ false
no-utf8 bytes none = not-true (is_utf8 bytes) (λ e. none (IsUtf8-from_is_utf8 bytes e))

digits-utf8 : (bytes : List ℕ) → is_decimal bytes ≡ true → IsUtf8 bytes
digits-utf8 bytes e = let d = is_decimal-read bytes e in subst IsUtf8 (sym d.digits) (IsUtf8-from_ascii (decimal (digits_value 10 bytes)) (IsAscii-decimal (digits_value 10 bytes) d.greatest))

-- They are no digits.
pub no-decimal : (bytes : List ℕ) → (IsUtf8 bytes → ⊥) → is_decimal bytes ≡ false
no-decimal bytes none = not-true (is_decimal bytes) (λ e. none (digits-utf8 bytes e))
