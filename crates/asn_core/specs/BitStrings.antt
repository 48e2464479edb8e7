-- The bits of octets, the highest bit of an octet first, and octets of bits (X.680, section 22).
use Rattle.std.specs.Prelude.{ℕ, List, [], ◌∷◌, Bool, true, false, ◌==◌, ◌≡◌, ◌+◌, ◌*◌, ◌/◌, ◌%◌, take, length}

-- The octet has the bit of this weight.
abbrev pub has_bit : ℕ → ℕ → Bool
has_bit weight octet = (octet / weight) % 2 == 1

-- All bits of octets, eight of each.
unfoldable pub all_bits : List ℕ → List Bool
all_bits [] = []
all_bits (o ∷ octets) = has_bit 128 o ∷ has_bit 64 o ∷ has_bit 32 o ∷ has_bit 16 o ∷ has_bit 8 o ∷ has_bit 4 o ∷ has_bit 2 o ∷ has_bit 1 o ∷ all_bits octets

-- The first `count` bits of octets, or all where there are fewer.
abbrev pub bits_of : List ℕ → ℕ → List Bool
bits_of octets count = take count (all_bits octets)

-- The number that a bit stands for.
abbrev pub bit_value : Bool → ℕ
bit_value false = 0
bit_value true = 1

-- The octet of eight bits.
abbrev pub octet_of : Bool → Bool → Bool → Bool → Bool → Bool → Bool → Bool → ℕ
octet_of a b c d e f g h = 128 * bit_value a + 64 * bit_value b + 32 * bit_value c + 16 * bit_value d + 8 * bit_value e + 4 * bit_value f + 2 * bit_value g + bit_value h

-- The octets of bits, one for each eight, the last padded with zeros.
unfoldable pub padded : List Bool → List ℕ
padded [] = []
padded (a ∷ []) = octet_of a false false false false false false false ∷ []
padded (a ∷ b ∷ []) = octet_of a b false false false false false false ∷ []
padded (a ∷ b ∷ c ∷ []) = octet_of a b c false false false false false ∷ []
padded (a ∷ b ∷ c ∷ d ∷ []) = octet_of a b c d false false false false ∷ []
padded (a ∷ b ∷ c ∷ d ∷ e ∷ []) = octet_of a b c d e false false false ∷ []
padded (a ∷ b ∷ c ∷ d ∷ e ∷ f ∷ []) = octet_of a b c d e f false false ∷ []
padded (a ∷ b ∷ c ∷ d ∷ e ∷ f ∷ g ∷ []) = octet_of a b c d e f g false ∷ []
padded (a ∷ b ∷ c ∷ d ∷ e ∷ f ∷ g ∷ h ∷ bits) = octet_of a b c d e f g h ∷ padded bits

-- The octets hold `count` bits, and zeros after them.
pub record IsPadded (octets : List ℕ) (count : ℕ) : Type 0 where
  pub padding : octets ≡ padded (bits_of octets count)
  pub counted : length (bits_of octets count) ≡ count
