-- Bits packed into octets, and back.
use Rattle.std.proofs.Common.{◌≡◌, ℕ, zero, suc, ◌+◌, ◌*◌, ◌/◌, ◌%◌, ◌<◌, List, [], ◌∷◌, refl, take, arith}
use Rattle.avn_grammar.specs.Octets.{packed, octet, bit_digit, bit_text}

pub octet-sum : (a b c d e f g h : ℕ) → octet (48 + a) (48 + b) (48 + c) (48 + d) (48 + e) (48 + f) (48 + g) (48 + h) ≡ 128 * a + 64 * b + 32 * c + 16 * d + 8 * e + 4 * f + 2 * g + h
octet-sum a b c d e f g h = omega arith

pub record Eight (o a b c d e f g h : ℕ) : Type 0 where
  pub first : bit_digit 128 o ≡ 48 + a
  pub second : bit_digit 64 o ≡ 48 + b
  pub third : bit_digit 32 o ≡ 48 + c
  pub fourth : bit_digit 16 o ≡ 48 + d
  pub fifth : bit_digit 8 o ≡ 48 + e
  pub sixth : bit_digit 4 o ≡ 48 + f
  pub seventh : bit_digit 2 o ≡ 48 + g
  pub eighth : bit_digit 1 o ≡ 48 + h

eight : (o a b c d e f g h : ℕ) → o ≡ 128 * a + 64 * b + 32 * c + 16 * d + 8 * e + 4 * f + 2 * g + h → a < 2 → b < 2 → c < 2 → d < 2 → e < 2 → f < 2 → g < 2 → h < 2 → Eight o a b c d e f g h
eight o a b c d e f g h s p q r t u v w x = record {
  first = omega arith;
  second = omega arith;
  third = omega arith;
  fourth = omega arith;
  fifth = omega arith;
  sixth = omega arith;
  seventh = omega arith;
  eighth = omega arith;
}

back : (a b c d e f g h : ℕ) → a < 2 → b < 2 → c < 2 → d < 2 → e < 2 → f < 2 → g < 2 → h < 2 → Eight (octet (48 + a) (48 + b) (48 + c) (48 + d) (48 + e) (48 + f) (48 + g) (48 + h)) a b c d e f g h
back a b c d e f g h p q r t u v w x = eight (octet (48 + a) (48 + b) (48 + c) (48 + d) (48 + e) (48 + f) (48 + g) (48 + h)) a b c d e f g h (octet-sum a b c d e f g h) p q r t u v w x

-- The front of an octet's digits.
module _ (o : ℕ) where
  front-1 : (xs ys : List ℕ) → xs ≡ ys → let x = octet (bit_digit 128 o) 48 48 48 48 48 48 48 in (bit_digit 128 x ∷ xs) ≡ (bit_digit 128 o ∷ ys)
  front-1 xs ys q = let e = back ((o / 128) % 2) 0 0 0 0 0 0 0 (omega arith) (omega arith) (omega arith) (omega arith) (omega arith) (omega arith) (omega arith) (omega arith) in cc

  front-2 : (xs ys : List ℕ) → xs ≡ ys → let x = octet (bit_digit 128 o) (bit_digit 64 o) 48 48 48 48 48 48 in (bit_digit 128 x ∷ bit_digit 64 x ∷ xs) ≡ (bit_digit 128 o ∷ bit_digit 64 o ∷ ys)
  front-2 xs ys q = let e = back ((o / 128) % 2) ((o / 64) % 2) 0 0 0 0 0 0 (omega arith) (omega arith) (omega arith) (omega arith) (omega arith) (omega arith) (omega arith) (omega arith) in cc

  front-3 : (xs ys : List ℕ) → xs ≡ ys → let x = octet (bit_digit 128 o) (bit_digit 64 o) (bit_digit 32 o) 48 48 48 48 48 in (bit_digit 128 x ∷ bit_digit 64 x ∷ bit_digit 32 x ∷ xs) ≡ (bit_digit 128 o ∷ bit_digit 64 o ∷ bit_digit 32 o ∷ ys)
  front-3 xs ys q = let e = back ((o / 128) % 2) ((o / 64) % 2) ((o / 32) % 2) 0 0 0 0 0 (omega arith) (omega arith) (omega arith) (omega arith) (omega arith) (omega arith) (omega arith) (omega arith) in cc

  front-4 : (xs ys : List ℕ) → xs ≡ ys → let x = octet (bit_digit 128 o) (bit_digit 64 o) (bit_digit 32 o) (bit_digit 16 o) 48 48 48 48 in (bit_digit 128 x ∷ bit_digit 64 x ∷ bit_digit 32 x ∷ bit_digit 16 x ∷ xs) ≡ (bit_digit 128 o ∷ bit_digit 64 o ∷ bit_digit 32 o ∷ bit_digit 16 o ∷ ys)
  front-4 xs ys q = let e = back ((o / 128) % 2) ((o / 64) % 2) ((o / 32) % 2) ((o / 16) % 2) 0 0 0 0 (omega arith) (omega arith) (omega arith) (omega arith) (omega arith) (omega arith) (omega arith) (omega arith) in cc

  front-5 : (xs ys : List ℕ) → xs ≡ ys → let x = octet (bit_digit 128 o) (bit_digit 64 o) (bit_digit 32 o) (bit_digit 16 o) (bit_digit 8 o) 48 48 48 in (bit_digit 128 x ∷ bit_digit 64 x ∷ bit_digit 32 x ∷ bit_digit 16 x ∷ bit_digit 8 x ∷ xs) ≡ (bit_digit 128 o ∷ bit_digit 64 o ∷ bit_digit 32 o ∷ bit_digit 16 o ∷ bit_digit 8 o ∷ ys)
  front-5 xs ys q = let e = back ((o / 128) % 2) ((o / 64) % 2) ((o / 32) % 2) ((o / 16) % 2) ((o / 8) % 2) 0 0 0 (omega arith) (omega arith) (omega arith) (omega arith) (omega arith) (omega arith) (omega arith) (omega arith) in cc

  front-6 : (xs ys : List ℕ) → xs ≡ ys → let x = octet (bit_digit 128 o) (bit_digit 64 o) (bit_digit 32 o) (bit_digit 16 o) (bit_digit 8 o) (bit_digit 4 o) 48 48 in (bit_digit 128 x ∷ bit_digit 64 x ∷ bit_digit 32 x ∷ bit_digit 16 x ∷ bit_digit 8 x ∷ bit_digit 4 x ∷ xs) ≡ (bit_digit 128 o ∷ bit_digit 64 o ∷ bit_digit 32 o ∷ bit_digit 16 o ∷ bit_digit 8 o ∷ bit_digit 4 o ∷ ys)
  front-6 xs ys q = let e = back ((o / 128) % 2) ((o / 64) % 2) ((o / 32) % 2) ((o / 16) % 2) ((o / 8) % 2) ((o / 4) % 2) 0 0 (omega arith) (omega arith) (omega arith) (omega arith) (omega arith) (omega arith) (omega arith) (omega arith) in cc

  front-7 : (xs ys : List ℕ) → xs ≡ ys → let x = octet (bit_digit 128 o) (bit_digit 64 o) (bit_digit 32 o) (bit_digit 16 o) (bit_digit 8 o) (bit_digit 4 o) (bit_digit 2 o) 48 in (bit_digit 128 x ∷ bit_digit 64 x ∷ bit_digit 32 x ∷ bit_digit 16 x ∷ bit_digit 8 x ∷ bit_digit 4 x ∷ bit_digit 2 x ∷ xs) ≡ (bit_digit 128 o ∷ bit_digit 64 o ∷ bit_digit 32 o ∷ bit_digit 16 o ∷ bit_digit 8 o ∷ bit_digit 4 o ∷ bit_digit 2 o ∷ ys)
  front-7 xs ys q = let e = back ((o / 128) % 2) ((o / 64) % 2) ((o / 32) % 2) ((o / 16) % 2) ((o / 8) % 2) ((o / 4) % 2) ((o / 2) % 2) 0 (omega arith) (omega arith) (omega arith) (omega arith) (omega arith) (omega arith) (omega arith) (omega arith) in cc

  front-8 : (xs ys : List ℕ) → xs ≡ ys → let x = octet (bit_digit 128 o) (bit_digit 64 o) (bit_digit 32 o) (bit_digit 16 o) (bit_digit 8 o) (bit_digit 4 o) (bit_digit 2 o) (bit_digit 1 o) in (bit_digit 128 x ∷ bit_digit 64 x ∷ bit_digit 32 x ∷ bit_digit 16 x ∷ bit_digit 8 x ∷ bit_digit 4 x ∷ bit_digit 2 x ∷ bit_digit 1 x ∷ xs) ≡ (bit_digit 128 o ∷ bit_digit 64 o ∷ bit_digit 32 o ∷ bit_digit 16 o ∷ bit_digit 8 o ∷ bit_digit 4 o ∷ bit_digit 2 o ∷ bit_digit 1 o ∷ ys)
  front-8 xs ys q = let e = back ((o / 128) % 2) ((o / 64) % 2) ((o / 32) % 2) ((o / 16) % 2) ((o / 8) % 2) ((o / 4) % 2) ((o / 2) % 2) ((o / 1) % 2) (omega arith) (omega arith) (omega arith) (omega arith) (omega arith) (omega arith) (omega arith) (omega arith) in cc

-- The first digits survive.
pub kept : (n : ℕ) (os : List ℕ) → take n (bit_text (packed (take n (bit_text os)))) ≡ take n (bit_text os)
unfolding bit_text packed
kept zero os = refl
kept (suc n) [] = refl
kept (suc zero) (o ∷ os) = front-1 o [] [] refl
kept (suc (suc zero)) (o ∷ os) = front-2 o [] [] refl
kept (suc (suc (suc zero))) (o ∷ os) = front-3 o [] [] refl
kept (suc (suc (suc (suc zero)))) (o ∷ os) = front-4 o [] [] refl
kept (suc (suc (suc (suc (suc zero))))) (o ∷ os) = front-5 o [] [] refl
kept (suc (suc (suc (suc (suc (suc zero)))))) (o ∷ os) = front-6 o [] [] refl
kept (suc (suc (suc (suc (suc (suc (suc zero))))))) (o ∷ os) = front-7 o [] [] refl
kept (suc (suc (suc (suc (suc (suc (suc (suc n)))))))) (o ∷ os) = front-8 o (take n (bit_text (packed (take n (bit_text os))))) (take n (bit_text os)) (kept n os)
