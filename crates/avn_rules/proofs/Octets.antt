-- Octets that are no text.
use Rattle.std.proofs.Common.{◌≡◌, ℕ, List, refl, Bool, true, false}
use Rattle.std.specs.Str.{is_utf8, IsUtf8}
use Rattle.std.proofs.lemmas.Str.{IsUtf8-from_is_utf8}

refused : (b : Bool) → (b ≡ true → ⊥) → b ≡ false
refused true h = absurd (h refl)
refused false h = refl

-- Octets that are no text are no UTF-8.
pub octets_are_no_text : (o : List ℕ) → (IsUtf8 o → ⊥) → is_utf8 o ≡ false
octets_are_no_text o h = refused (is_utf8 o) (λ utf8. h (IsUtf8-from_is_utf8 o utf8))
