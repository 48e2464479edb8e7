-- Octets as hexadecimal and binary digits, and digits as octets.
use Rattle.std.specs.Prelude.{ℕ, List, [], ◌∷◌, Bool, true, false, cond, ◌&&◌, ◌||◌, ◌==◌, nat_le, nat_lt, ◌+◌, ◌-◌, ◌*◌, ◌/◌, ◌%◌}
use Rattle.avn_grammar.specs.Chars.{is_digit}

-- A hexadecimal digit, of either case.
abbrev pub is_hex : ℕ → Bool
is_hex c = is_digit c || (nat_le 65 c && nat_le c 70) || (nat_le 97 c && nat_le c 102)

-- The number that a hexadecimal digit stands for.
abbrev pub hex_value : ℕ → ℕ
hex_value c = cond (nat_le c 57) (c - 48) (cond (nat_le c 70) (c - 55) (c - 87))

-- The characters are pairs of hexadecimal digits.
abbrev pub are_pairs : List ℕ → Bool
are_pairs [] = true
are_pairs (a ∷ []) = false
are_pairs (a ∷ b ∷ cs) = (is_hex a && is_hex b) && are_pairs cs

-- The octets that pairs of hexadecimal digits stand for, one for each pair.
abbrev pub octets_of : List ℕ → List ℕ
octets_of [] = []
octets_of (a ∷ []) = []
octets_of (a ∷ b ∷ cs) = (16 * hex_value a + hex_value b) ∷ octets_of cs

-- A binary digit.
abbrev pub is_bit : ℕ → Bool
is_bit c = (c == 48) || (c == 49)

-- The octet of eight binary digits, the most significant first.
abbrev pub octet : ℕ → ℕ → ℕ → ℕ → ℕ → ℕ → ℕ → ℕ → ℕ
octet a b c d e f g h = 128 * (a - 48) + 64 * (b - 48) + 32 * (c - 48) + 16 * (d - 48) + 8 * (e - 48) + 4 * (f - 48) + 2 * (g - 48) + (h - 48)

-- The octets of binary digits, one for each eight, the last padded with zeros.
unfoldable pub packed : List ℕ → List ℕ
packed [] = []
packed (a ∷ []) = octet a 48 48 48 48 48 48 48 ∷ []
packed (a ∷ b ∷ []) = octet a b 48 48 48 48 48 48 ∷ []
packed (a ∷ b ∷ c ∷ []) = octet a b c 48 48 48 48 48 ∷ []
packed (a ∷ b ∷ c ∷ d ∷ []) = octet a b c d 48 48 48 48 ∷ []
packed (a ∷ b ∷ c ∷ d ∷ e ∷ []) = octet a b c d e 48 48 48 ∷ []
packed (a ∷ b ∷ c ∷ d ∷ e ∷ f ∷ []) = octet a b c d e f 48 48 ∷ []
packed (a ∷ b ∷ c ∷ d ∷ e ∷ f ∷ g ∷ []) = octet a b c d e f g 48 ∷ []
packed (a ∷ b ∷ c ∷ d ∷ e ∷ f ∷ g ∷ h ∷ cs) = octet a b c d e f g h ∷ packed cs

-- The hexadecimal digit of a number below 16, in capitals.
abbrev pub hex_digit : ℕ → ℕ
hex_digit n = cond (nat_lt n 10) (48 + n) (55 + n)

-- Two hexadecimal digits for each octet, in capitals.
abbrev pub hex_text : List ℕ → List ℕ
hex_text [] = []
hex_text (o ∷ octets) = hex_digit (o / 16) ∷ hex_digit (o % 16) ∷ hex_text octets

-- The binary digit of an octet that has the weight.
abbrev pub bit_digit : ℕ → ℕ → ℕ
bit_digit weight o = 48 + (o / weight) % 2

-- Eight binary digits for each octet, the most significant first.
unfoldable pub bit_text : List ℕ → List ℕ
bit_text [] = []
bit_text (o ∷ octets) = bit_digit 128 o ∷ bit_digit 64 o ∷ bit_digit 32 o ∷ bit_digit 16 o ∷ bit_digit 8 o ∷ bit_digit 4 o ∷ bit_digit 2 o ∷ bit_digit 1 o ∷ bit_text octets
