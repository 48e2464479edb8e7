-- Strings between quotes.
use Rattle.std.proofs.Common.{◌≡◌, List, Bool, true, false, ◌&&◌, if◌then◌else◌, nat_le, length, Option, Some, None, refl, sym, ap, ℕ, ◌∙◌}
use Rattle.std.specs.List.{list_all}
use Rattle.std.specs.Str.{IsUtf8, is_utf8}
use Rattle.std.proofs.lemmas.Str.{IsUtf8-from_is_utf8, is_utf8-from_IsUtf8}
use Rattle.asn_model.proofs.Readables.{and-both}
use Rattle.asn_model.proofs.ShapeNames.{and-false}
use Rattle.asn_modules_types.specs.Defaults.{if_short, is_verbatim, verbatim}
use Rattle.asn_modules_types.specs.Strings.{joined}
use Rattle.asn_modules_types.specs.declared.limits.TheConstants.{DEFAULT_STRING_LIMIT}

abbrev kept : List ℕ → Bool → Option (List ℕ)
kept bytes b = if b then Some bytes else None

pub string_kept : (bytes : List ℕ) → list_all is_verbatim bytes ≡ true → IsUtf8 bytes → Some bytes ≡ verbatim bytes
string_kept bytes e u = sym (ap (kept bytes) (and-both (list_all is_verbatim bytes) (is_utf8 bytes) e (is_utf8-from_IsUtf8 bytes u)))

-- One with a character that isn't itself.
pub string_altered : (bytes : List ℕ) → list_all is_verbatim bytes ≡ false → None ≡ verbatim bytes
string_altered bytes e = sym (ap (λ b. kept bytes (b && is_utf8 bytes)) e)

-- One that isn't UTF-8.
pub string_other : (bytes : List ℕ) → (IsUtf8 bytes → ⊥) → None ≡ verbatim bytes
string_other bytes h = by (is_utf8 bytes) refl
  where
    by : (b : Bool) → is_utf8 bytes ≡ b → None ≡ verbatim bytes
    by true e = absurd (h (IsUtf8-from_is_utf8 bytes e))
    by false e = sym (ap (kept bytes) (and-false (list_all is_verbatim bytes) (is_utf8 bytes) e))

-- One that is long.
pub string_long : (bytes : List ℕ) → nat_le (length bytes) DEFAULT_STRING_LIMIT ≡ false → None ≡ if_short bytes
string_long bytes e = sym (ap (λ b. if b then verbatim (joined false bytes) else None) e)

-- One that is short, by its joined lines.
pub string_short : (bytes lines : List ℕ) (o : Option (List ℕ)) → nat_le (length bytes) DEFAULT_STRING_LIMIT ≡ true → lines ≡ joined false bytes → o ≡ verbatim lines → o ≡ if_short bytes
string_short bytes lines o e j v = v ∙ ap verbatim j ∙ sym (ap (λ b. if b then verbatim (joined false bytes) else None) e)
