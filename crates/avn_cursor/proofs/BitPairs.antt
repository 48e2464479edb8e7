-- Binary digits, of which each two are an octet in hexadecimal.
use Rattle.std.proofs.Common.{◌≡◌, ◌≢◌, ℕ, zero, suc, ◌+◌, ◌*◌, ◌/◌, ◌%◌, List, [], ◌∷◌, ◌++◌, Bool, true, false, ◌&&◌, refl, sym, ap, ◌∙◌, drop, get_or, length, arith}
use Rattle.std.proofs.lemmas.Bool.{and_parts}
use Rattle.std.proofs.lemmas.List.{append-nil}
use Rattle.avn_grammar.specs.Chars.{all}
use Rattle.avn_grammar.specs.Octets.{octet, packed}
use Rattle.avn_grammar.proofs.Packing.{octet-sum}
use Rattle.avn_cursor.specs.HexDigits.{digit_values, binary_digits, is_bit_value, is_bit_pair}

-- The number of a pair's bits.
abbrev bits : ℕ → ℕ
bits o = 2 * (o / 16) + o % 16

sum-1 : (a x : ℕ) → x ≡ bits a → octet (48 + a / 16) (48 + a % 16) 48 48 48 48 48 48 ≡ 64 * x
sum-1 a x p = let e : 128 * (a / 16) + 64 * (a % 16) + 32 * 0 + 16 * 0 + 8 * 0 + 4 * 0 + 2 * 0 + 0 ≡ 64 * x = omega (arith, p) in octet-sum (a / 16) (a % 16) 0 0 0 0 0 0 ∙ e

sum-2 : (a b x y : ℕ) → x ≡ bits a → y ≡ bits b → octet (48 + a / 16) (48 + a % 16) (48 + b / 16) (48 + b % 16) 48 48 48 48 ≡ 64 * x + 16 * y
sum-2 a b x y p q =
    let e : 128 * (a / 16) + 64 * (a % 16) + 32 * (b / 16) + 16 * (b % 16) + 8 * 0 + 4 * 0 + 2 * 0 + 0 ≡ 64 * x + 16 * y = omega (arith, p, q) in
    octet-sum (a / 16) (a % 16) (b / 16) (b % 16) 0 0 0 0 ∙ e

sum-3 : (a b c x y z : ℕ) → x ≡ bits a → y ≡ bits b → z ≡ bits c → octet (48 + a / 16) (48 + a % 16) (48 + b / 16) (48 + b % 16) (48 + c / 16) (48 + c % 16) 48 48 ≡ 64 * x + 16 * y + 4 * z
sum-3 a b c x y z p q r =
    let e : 128 * (a / 16) + 64 * (a % 16) + 32 * (b / 16) + 16 * (b % 16) + 8 * (c / 16) + 4 * (c % 16) + 2 * 0 + 0 ≡ 64 * x + 16 * y + 4 * z = omega (arith, p, q, r) in
    octet-sum (a / 16) (a % 16) (b / 16) (b % 16) (c / 16) (c % 16) 0 0 ∙ e

sum-4 : (a b c d x y z w : ℕ) → x ≡ bits a → y ≡ bits b → z ≡ bits c → w ≡ bits d → octet (48 + a / 16) (48 + a % 16) (48 + b / 16) (48 + b % 16) (48 + c / 16) (48 + c % 16) (48 + d / 16) (48 + d % 16) ≡ 64 * x + 16 * y + 4 * z + w
sum-4 a b c d x y z w p q r s =
    let e : 128 * (a / 16) + 64 * (a % 16) + 32 * (b / 16) + 16 * (b % 16) + 8 * (c / 16) + 4 * (c % 16) + 2 * (d / 16) + d % 16 ≡ 64 * x + 16 * y + 4 * z + w = omega (arith, p, q, r, s) in
    octet-sum (a / 16) (a % 16) (b / 16) (b % 16) (c / 16) (c % 16) (d / 16) (d % 16) ∙ e

-- The octet of the first four pairs, with zeros past the end.
pub packed_pairs : (ps : List ℕ) (x y z w : ℕ) → ps ≢ [] → x ≡ bits (get_or ps 0 0) → y ≡ bits (get_or ps 1 0) → z ≡ bits (get_or ps 2 0) → w ≡ bits (get_or ps 3 0)
    → packed (binary_digits (digit_values ps)) ≡ (64 * x + 16 * y + 4 * z + w) ∷ packed (binary_digits (digit_values (drop 4 ps)))
unfolding packed
packed_pairs [] x y z w n p q r s = absurd (n refl)
packed_pairs (a ∷ []) x y z w n p q r s = let e : 64 * x ≡ 64 * x + 16 * y + 4 * z + w = omega (arith, q, r, s) in ap (λ o. o ∷ []) (sum-1 a x p ∙ e)
packed_pairs (a ∷ b ∷ []) x y z w n p q r s = let e : 64 * x + 16 * y ≡ 64 * x + 16 * y + 4 * z + w = omega (arith, r, s) in ap (λ o. o ∷ []) (sum-2 a b x y p q ∙ e)
packed_pairs (a ∷ b ∷ c ∷ []) x y z w n p q r s = let e : 64 * x + 16 * y + 4 * z ≡ 64 * x + 16 * y + 4 * z + w = omega (arith, s) in ap (λ o. o ∷ []) (sum-3 a b c x y z p q r ∙ e)
packed_pairs (a ∷ b ∷ c ∷ d ∷ ps) x y z w n p q r s = ap (λ o. o ∷ packed (binary_digits (digit_values ps))) (sum-4 a b c d x y z w p q r s)

two-low : (o : ℕ) (r : Bool) → is_bit_pair o ≡ true → (is_bit_value (o / 16) && (is_bit_value (o % 16) && r)) ≡ r
two-low o r h = let k = and_parts (is_bit_value (o / 16)) (is_bit_value (o % 16)) h in ap (λ b. b && (is_bit_value (o % 16) && r)) k.0 ∙ ap (λ b. b && r) k.1

-- The first four pairs are binary digits.
pub bit_pairs : (ps : List ℕ) → is_bit_pair (get_or ps 0 0) ≡ true → is_bit_pair (get_or ps 1 0) ≡ true → is_bit_pair (get_or ps 2 0) ≡ true → is_bit_pair (get_or ps 3 0) ≡ true
    → all is_bit_value (digit_values ps) ≡ all is_bit_value (digit_values (drop 4 ps))
bit_pairs [] p q r s = refl
bit_pairs (a ∷ []) p q r s = two-low a true p
bit_pairs (a ∷ b ∷ []) p q r s = two-low a _ p ∙ two-low b true q
bit_pairs (a ∷ b ∷ c ∷ []) p q r s = two-low a _ p ∙ two-low b _ q ∙ two-low c true r
bit_pairs (a ∷ b ∷ c ∷ d ∷ ps) p q r s = two-low a _ p ∙ two-low b _ q ∙ two-low c _ r ∙ two-low d _ s

two-high : (o : ℕ) (r : Bool) → is_bit_pair o ≡ false → (is_bit_value (o / 16) && (is_bit_value (o % 16) && r)) ≡ false
two-high o r h =
    (elim (is_bit_value (o / 16)) as (λ a. (a && is_bit_value (o % 16)) ≡ false → (a && (is_bit_value (o % 16) && r)) ≡ false) [
      | true ↦ λ e. ap (λ b. b && r) e
      | false ↦ λ e. refl
    ]) h

both-false : (o : ℕ) (r : Bool) → r ≡ false → (is_bit_value (o / 16) && (is_bit_value (o % 16) && r)) ≡ false
both-false o r h = elim (is_bit_value (o / 16)) as (λ a. (a && (is_bit_value (o % 16) && r)) ≡ false) [
  | true ↦ elim (is_bit_value (o % 16)) as (λ b. (b && r) ≡ false) [ true ↦ h | false ↦ refl ]
  | false ↦ refl
]

-- A pair is no binary digits.
pub other_pair : (ps : List ℕ) (i : ℕ) → is_bit_pair (get_or ps i 0) ≡ false → all is_bit_value (digit_values ps) ≡ false
other_pair [] i h = let n : ⊥ = cc in absurd n
other_pair (o ∷ ps) zero h = two-high o _ h
other_pair (o ∷ ps) (suc i) h = both-false o _ (other_pair ps i h)

-- A digit 0 after an odd number of binary digits changes nothing.
pub packed_filled : (os : List ℕ) (v : ℕ) → packed (binary_digits (digit_values os ++ (v ∷ 0 ∷ []))) ≡ packed (binary_digits (digit_values os ++ (v ∷ [])))
unfolding packed
packed_filled [] v = refl
packed_filled (a ∷ []) v = refl
packed_filled (a ∷ b ∷ []) v = refl
packed_filled (a ∷ b ∷ c ∷ []) v = refl
packed_filled (a ∷ b ∷ c ∷ d ∷ os) v = ap (λ x. octet (48 + a / 16) (48 + a % 16) (48 + b / 16) (48 + b % 16) (48 + c / 16) (48 + c % 16) (48 + d / 16) (48 + d % 16) ∷ x) (packed_filled os v)

pub bits_filled : (vs : List ℕ) (v : ℕ) → all is_bit_value (vs ++ (v ∷ 0 ∷ [])) ≡ all is_bit_value (vs ++ (v ∷ []))
bits_filled [] v = refl
bits_filled (x ∷ vs) v = ap (λ b. is_bit_value x && b) (bits_filled vs v)

-- All pairs were packed.
pub pairs_done : (ps rest done : List ℕ) → length rest ≡ 0 → all is_bit_value (digit_values ps) ≡ all is_bit_value (digit_values rest) → done ++ packed (binary_digits (digit_values rest)) ≡ packed (binary_digits (digit_values ps))
    → (all is_bit_value (digit_values ps) ≡ true) × (done ≡ packed (binary_digits (digit_values ps)))
unfolding packed
pairs_done ps [] done h e f = (e, sym (append-nil done) ∙ f)
pairs_done ps (o ∷ rest) done h e f = absurd (omega (arith, h))
