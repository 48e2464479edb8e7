-- Which alphabets have the characters and octets past ASCII.
use Rattle.std.specs.Prelude.{◌≡◌, ◌≤◌, ℕ, false, refl}
use Rattle.std.proofs.Common.{arith, inl, inr}
use Rattle.std.proofs.lemmas.Bool.Decides.{nat_tests}
use Rattle.asn_strings.specs.Alphabets.{HasAllOrNonePastAscii, is_any, is_graphic, is_ia5, is_numeric, is_printable, is_visible, past_ascii_is_graphic}

numeric_lacks : (c : ℕ) → 128 ≤ c → is_numeric c ≡ false
numeric_lacks c h = grind (arith, nat_tests)

printable_lacks : (c : ℕ) → 128 ≤ c → is_printable c ≡ false
printable_lacks c h = grind (arith, nat_tests)

visible_lacks : (c : ℕ) → 128 ≤ c → is_visible c ≡ false
visible_lacks c h = grind (arith, nat_tests)

-- IA5String has no character past ASCII.
pub ia5_lacks : (c : ℕ) → 128 ≤ c → is_ia5 c ≡ false
ia5_lacks c h = grind (arith, nat_tests)

-- NumericString has none past ASCII.
pub numeric_past_ascii : HasAllOrNonePastAscii is_numeric
numeric_past_ascii = inr numeric_lacks

-- PrintableString has none past ASCII.
pub printable_past_ascii : HasAllOrNonePastAscii is_printable
printable_past_ascii = inr printable_lacks

-- VisibleString has none past ASCII.
pub visible_past_ascii : HasAllOrNonePastAscii is_visible
visible_past_ascii = inr visible_lacks

-- IA5String has none past ASCII.
pub ia5_past_ascii : HasAllOrNonePastAscii is_ia5
ia5_past_ascii = inr ia5_lacks

-- GraphicString has all past ASCII.
pub graphic_past_ascii : HasAllOrNonePastAscii is_graphic
graphic_past_ascii = inl past_ascii_is_graphic

-- UniversalString, GeneralString and TeletexString have all past ASCII.
pub any_past_ascii : HasAllOrNonePastAscii is_any
any_past_ascii = inl (λ _ _. refl)
