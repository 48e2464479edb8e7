-- The alphabets of the restricted character string types, and the first character outside one.
use Rattle.std.specs.Prelude.{ℕ, List, Option, Bool, true, false, ◌||◌, ◌==◌, ◌≡◌, ◌≤◌, ◌⊎◌, not, nat_lt, position, codes}
use Rattle.std.proofs.Common.{arith}
use Rattle.std.proofs.lemmas.Bool.Decides.{nat_tests}
use Rattle.std.specs.Char.{is_ascii_digit, is_ascii_alphanumeric}
use Rattle.std.specs.Int.{is_in_range}
use Rattle.std.specs.List.{list_all, list_any}

-- NumericString: the digits and space.
abbrev pub is_numeric : ℕ → Bool
is_numeric c = is_ascii_digit c || (c == 32)

-- PrintableString: the Latin letters, the digits, space and the signs `'()+,-./:=?`.
abbrev pub is_printable : ℕ → Bool
is_printable c = is_ascii_alphanumeric c || list_any (λ sign. c == sign) (codes " '()+,-./:=?")

-- VisibleString: the printing characters of ASCII, and space.
abbrev pub is_visible : ℕ → Bool
is_visible c = is_in_range 0x20 0x7E c

-- IA5String: the characters of ASCII.
abbrev pub is_ia5 : ℕ → Bool
is_ia5 c = nat_lt c 0x80

-- GraphicString: all but the control characters of ASCII.
abbrev pub is_graphic : ℕ → Bool
is_graphic c = not (nat_lt c 0x20 || (c == 0x7F))

-- BMPString: the characters of the Basic Multilingual Plane.
abbrev pub is_bmp : ℕ → Bool
is_bmp c = nat_lt c 0x10000

-- UniversalString, GeneralString and TeletexString: every character or octet.
abbrev pub is_any : ℕ → Bool
is_any c = true

-- Every character or octet of a list is in the alphabet.
abbrev pub all_within : (ℕ → Bool) → List ℕ → Bool
all_within alphabet characters = list_all alphabet characters

-- The number of characters before the first one outside the alphabet, where there is one.
abbrev pub place_outside : (ℕ → Bool) → List ℕ → Option ℕ
place_outside alphabet characters = position (λ c. not (alphabet c)) characters

-- The alphabet has every character or octet past ASCII, or none.
abbrev pub HasAllOrNonePastAscii : (ℕ → Bool) → Type 0
HasAllOrNonePastAscii alphabet =
    ((c : ℕ) → 128 ≤ c → alphabet c ≡ true) ⊎ ((c : ℕ) → 128 ≤ c → alphabet c ≡ false)

-- GraphicString has every octet and character past ASCII.
pub past_ascii_is_graphic : (octet : ℕ) → 128 ≤ octet → is_graphic octet ≡ true
past_ascii_is_graphic octet h = grind (arith, nat_tests)
