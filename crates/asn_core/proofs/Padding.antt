-- Bits of octets, and octets of bits, padded with zeros.
use Rattle.std.proofs.Common.{◌≡◌, ℕ, zero, suc, ◌+◌, ◌*◌, ◌/◌, ◌%◌, ◌<◌, lit<, List, [], ◌∷◌, Bool, true, false, refl, sym, ap, ◌∙◌, length, get_or, arith}
use Rattle.std.specs.Prelude.{◌==◌}
use Rattle.std.specs.Int.{div_ceil}
use Rattle.asn_core.specs.BitStrings.{has_bit, all_bits, bits_of, bit_value, octet_of, padded, IsPadded}

-- A bit is one where its number is 1.
value-is-one : (bit : Bool) → (bit_value bit == 1) ≡ bit
value-is-one false = refl
value-is-one true = refl

pub value-lt : (bit : Bool) → bit_value bit < 2
value-lt false = lit< tt
value-lt true = lit< tt

-- The number of a bit is the digit that it was read from.
value-of : (digit : ℕ) → digit < 2 → bit_value (digit == 1) ≡ digit
value-of zero h = refl
value-of (suc zero) h = refl
value-of (suc (suc n)) h = absurd (omega arith)

-- The binary digits of an octet.
record Digits (o a b c d e f g h : ℕ) : Type 0 where
  first : (o / 128) % 2 ≡ a
  second : (o / 64) % 2 ≡ b
  third : (o / 32) % 2 ≡ c
  fourth : (o / 16) % 2 ≡ d
  fifth : (o / 8) % 2 ≡ e
  sixth : (o / 4) % 2 ≡ f
  seventh : (o / 2) % 2 ≡ g
  eighth : (o / 1) % 2 ≡ h

digits : (o a b c d e f g h : ℕ) → o ≡ 128 * a + 64 * b + 32 * c + 16 * d + 8 * e + 4 * f + 2 * g + h → a < 2 → b < 2 → c < 2 → d < 2 → e < 2 → f < 2 → g < 2 → h < 2 → Digits o a b c d e f g h
digits o a b c d e f g h s p q r t u v w x = record {
  first = omega arith;
  second = omega arith;
  third = omega arith;
  fourth = omega arith;
  fifth = omega arith;
  sixth = omega arith;
  seventh = omega arith;
  eighth = omega arith;
}

-- The bits of an octet.
pub record HasBits (o : ℕ) (a b c d e f g h : Bool) : Type 0 where
  pub first : has_bit 128 o ≡ a
  pub second : has_bit 64 o ≡ b
  pub third : has_bit 32 o ≡ c
  pub fourth : has_bit 16 o ≡ d
  pub fifth : has_bit 8 o ≡ e
  pub sixth : has_bit 4 o ≡ f
  pub seventh : has_bit 2 o ≡ g
  pub eighth : has_bit 1 o ≡ h

test-is : (digit : ℕ) (bit : Bool) → digit ≡ bit_value bit → (digit == 1) ≡ bit
test-is digit bit e = ap (λ x. x == 1) e ∙ value-is-one bit

-- An octet of bits has these bits.
pub has_bits : (a b c d e f g h : Bool) → HasBits (octet_of a b c d e f g h) a b c d e f g h
has_bits a b c d e f g h =
    let s = digits (octet_of a b c d e f g h) (bit_value a) (bit_value b) (bit_value c) (bit_value d) (bit_value e) (bit_value f) (bit_value g) (bit_value h) refl (value-lt a) (value-lt b) (value-lt c) (value-lt d) (value-lt e) (value-lt f) (value-lt g) (value-lt h) in
    record {
      first = test-is _ a s.first;
      second = test-is _ b s.second;
      third = test-is _ c s.third;
      fourth = test-is _ d s.fourth;
      fifth = test-is _ e s.fifth;
      sixth = test-is _ f s.sixth;
      seventh = test-is _ g s.seventh;
      eighth = test-is _ h s.eighth;
    }

-- The bits of padded octets are the bits that were padded.
pub first-padded : (bits : List Bool) → bits_of (padded bits) (length bits) ≡ bits
unfolding all_bits padded
first-padded [] = refl
first-padded (a ∷ []) = let s = has_bits a false false false false false false false in cc
first-padded (a ∷ b ∷ []) = let s = has_bits a b false false false false false false in cc
first-padded (a ∷ b ∷ c ∷ []) = let s = has_bits a b c false false false false false in cc
first-padded (a ∷ b ∷ c ∷ d ∷ []) = let s = has_bits a b c d false false false false in cc
first-padded (a ∷ b ∷ c ∷ d ∷ e ∷ []) = let s = has_bits a b c d e false false false in cc
first-padded (a ∷ b ∷ c ∷ d ∷ e ∷ f ∷ []) = let s = has_bits a b c d e f false false in cc
first-padded (a ∷ b ∷ c ∷ d ∷ e ∷ f ∷ g ∷ []) = let s = has_bits a b c d e f g false in cc
first-padded (a ∷ b ∷ c ∷ d ∷ e ∷ f ∷ g ∷ h ∷ bits) = let s = has_bits a b c d e f g h in let r = first-padded bits in cc

-- Padded octets and the number of bits give the bits.
pub bits_of-padded : (octets : List ℕ) (count : ℕ) (bits : List Bool) → octets ≡ padded bits → count ≡ length bits → bits_of octets count ≡ bits
bits_of-padded octets count bits e f = ap (λ x. bits_of x count) e ∙ ap (bits_of (padded bits)) f ∙ first-padded bits

pub is_padded : (octets : List ℕ) (count : ℕ) (bits : List Bool) → octets ≡ padded bits → count ≡ length bits → IsPadded octets count
is_padded octets count bits e f =
    let back = bits_of-padded octets count bits e f in
    record {
      padding = e ∙ ap padded (sym back);
      counted = ap (λ (x : List Bool). length x) back ∙ sym f;
    }

-- Padding takes an octet for each eight bits, the last ones of which may be fewer.
pub length-padded : (bits : List Bool) → length (padded bits) ≡ div_ceil (length bits) 8
unfolding padded
length-padded [] = refl
length-padded (a ∷ b ∷ c ∷ d ∷ e ∷ f ∷ g ∷ h ∷ bits) = omega (arith, length-padded bits)
length-padded (a ∷ _) = refl

pub length-all_bits : (octets : List ℕ) → length (all_bits octets) ≡ 8 * length octets
unfolding all_bits
length-all_bits [] = refl
length-all_bits (o ∷ octets) = omega (arith, length-all_bits octets)

-- All numbers are octets, by place.
abbrev pub AreOctets : List ℕ → Type 0
AreOctets octets = (place : ℕ) → place < length octets → get_or octets place 0 < 256

pub next : (o : ℕ) (octets : List ℕ) → AreOctets (o ∷ octets) → AreOctets octets
next o octets h place within = h (suc place) (omega arith)

-- The numbers of the bits of an octet.
pub record HasValues (o : ℕ) : Type 0 where
  pub first : bit_value (has_bit 128 o) ≡ (o / 128) % 2
  pub second : bit_value (has_bit 64 o) ≡ (o / 64) % 2
  pub third : bit_value (has_bit 32 o) ≡ (o / 32) % 2
  pub fourth : bit_value (has_bit 16 o) ≡ (o / 16) % 2
  pub fifth : bit_value (has_bit 8 o) ≡ (o / 8) % 2
  pub sixth : bit_value (has_bit 4 o) ≡ (o / 4) % 2
  pub seventh : bit_value (has_bit 2 o) ≡ (o / 2) % 2
  pub eighth : bit_value (has_bit 1 o) ≡ (o / 1) % 2

pub values : (o : ℕ) → HasValues o
values o = record {
  first = value-of _ (omega arith);
  second = value-of _ (omega arith);
  third = value-of _ (omega arith);
  fourth = value-of _ (omega arith);
  fifth = value-of _ (omega arith);
  sixth = value-of _ (omega arith);
  seventh = value-of _ (omega arith);
  eighth = value-of _ (omega arith);
}

-- An octet is that of its bits.
pub octet-bits : (o : ℕ) → o < 256 → octet_of (has_bit 128 o) (has_bit 64 o) (has_bit 32 o) (has_bit 16 o) (has_bit 8 o) (has_bit 4 o) (has_bit 2 o) (has_bit 1 o) ≡ o
octet-bits o h =
    let v = values o in
    let s : 128 * ((o / 128) % 2) + 64 * ((o / 64) % 2) + 32 * ((o / 32) % 2) + 16 * ((o / 16) % 2) + 8 * ((o / 8) % 2) + 4 * ((o / 4) % 2) + 2 * ((o / 2) % 2) + (o / 1) % 2 ≡ o = omega arith in
    omega arith

octet-lt : (a b c d e f g h : Bool) → octet_of a b c d e f g h < 256
octet-lt a b c d e f g h = omega (arith, value-lt a, value-lt b, value-lt c, value-lt d, value-lt e, value-lt f, value-lt g, value-lt h)

-- Padding gives octets.
pub AreOctets-padded : (bits : List Bool) → AreOctets (padded bits)
unfolding padded
AreOctets-padded (a ∷ b ∷ c ∷ d ∷ e ∷ f ∷ g ∷ h ∷ bits) zero within = octet-lt a b c d e f g h
AreOctets-padded (a ∷ b ∷ c ∷ d ∷ e ∷ f ∷ g ∷ h ∷ bits) (suc place) within = AreOctets-padded bits place (omega arith)
AreOctets-padded [] place within = absurd (omega arith)
AreOctets-padded (a ∷ []) zero within = octet-lt a false false false false false false false
AreOctets-padded (a ∷ b ∷ []) zero within = octet-lt a b false false false false false false
AreOctets-padded (a ∷ b ∷ c ∷ []) zero within = octet-lt a b c false false false false false
AreOctets-padded (a ∷ b ∷ c ∷ d ∷ []) zero within = octet-lt a b c d false false false false
AreOctets-padded (a ∷ b ∷ c ∷ d ∷ e ∷ []) zero within = octet-lt a b c d e false false false
AreOctets-padded (a ∷ b ∷ c ∷ d ∷ e ∷ f ∷ []) zero within = octet-lt a b c d e f false false
AreOctets-padded (a ∷ b ∷ c ∷ d ∷ e ∷ f ∷ g ∷ []) zero within = octet-lt a b c d e f g false
AreOctets-padded _ (suc place) within = absurd (omega arith)
