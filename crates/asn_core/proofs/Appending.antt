-- A bit after others.
use Rattle.std.proofs.Common.{◌≡◌, ◌≢◌, ℕ, zero, suc, ◌+◌, ◌*◌, ◌/◌, ◌%◌, ◌^◌, ◌-◌, ◌<◌, lit<, List, [], ◌∷◌, ◌++◌, Bool, true, false, Some, refl, sym, ap, ◌∙◌, length, get_or, set, arith}
use Rattle.std.specs.Prelude.{bit_or}
use Rattle.std.specs.List.{slice_get}
use Rattle.std.proofs.lemmas.Nat.{or_shifted}
use Rattle.asn_core.specs.BitStrings.{has_bit, all_bits, bit_value, octet_of, padded}

-- A bit after whole octets begins a new one.
pub begun : (bits : List Bool) (bit : Bool) → length bits % 8 ≡ 0 → padded (bits ++ bit ∷ []) ≡ padded bits ++ 128 * bit_value bit ∷ []
unfolding padded
begun (a ∷ b ∷ c ∷ d ∷ e ∷ f ∷ g ∷ h ∷ bits) bit k = ap (λ (x : List ℕ). octet_of a b c d e f g h ∷ x) (begun bits bit (omega arith))
begun [] bit k = let s : octet_of bit false false false false false false false ≡ 128 * bit_value bit = omega arith in ap (λ (x : ℕ). x ∷ []) s
begun _ bit k = absurd (omega arith)

-- A zero after a part of an octet is there already.
pub zero-padded : (bits : List Bool) → length bits % 8 ≢ 0 → padded (bits ++ false ∷ []) ≡ padded bits
unfolding padded
zero-padded (a ∷ b ∷ c ∷ d ∷ e ∷ f ∷ g ∷ h ∷ bits) k = ap (λ (x : List ℕ). octet_of a b c d e f g h ∷ x) (zero-padded bits (λ e. k (omega arith)))
zero-padded [] k = absurd (k refl)
zero-padded _ k = refl

-- The last octet of a part has zeros after its bits.
pub clear : (bits : List Bool) → length bits % 8 ≢ 0 → get_or (padded bits) (length bits / 8) 0 % 2 ^ (8 - length bits % 8) ≡ 0
unfolding padded
clear (a ∷ b ∷ c ∷ d ∷ e ∷ f ∷ g ∷ h ∷ bits) k =
    let m = suc (suc (suc (suc (suc (suc (suc (suc (length bits)))))))) in
    let q : m / 8 ≡ suc (length bits / 8) = omega arith in
    let r : m % 8 ≡ length bits % 8 = omega arith in
    ap (λ (i : ℕ). get_or (octet_of a b c d e f g h ∷ padded bits) i 0 % 2 ^ (8 - m % 8)) q ∙ ap (λ (i : ℕ). get_or (padded bits) (length bits / 8) 0 % 2 ^ (8 - i)) r ∙ clear bits (λ e. k (r ∙ e))
clear [] k = absurd (k refl)
clear _ k = omega arith

-- A one after a part of an octet adds its weight.
pub one-padded : (bits : List Bool) → length bits % 8 ≢ 0 → padded (bits ++ true ∷ []) ≡ set (padded bits) (length bits / 8) (get_or (padded bits) (length bits / 8) 0 + 2 ^ (7 - length bits % 8))
unfolding padded
one-padded (a ∷ b ∷ c ∷ d ∷ e ∷ f ∷ g ∷ h ∷ bits) k =
    let o = octet_of a b c d e f g h in
    let m = suc (suc (suc (suc (suc (suc (suc (suc (length bits)))))))) in
    let q : suc (length bits / 8) ≡ m / 8 = omega arith in
    let r : length bits % 8 ≡ m % 8 = omega arith in
    ap (λ (x : List ℕ). o ∷ x) (one-padded bits (λ e. k (sym r ∙ e)))
    ∙ ap (λ (i : ℕ). set (o ∷ padded bits) i (get_or (o ∷ padded bits) i 0 + 2 ^ (7 - length bits % 8))) q
    ∙ ap (λ (i : ℕ). set (o ∷ padded bits) (m / 8) (get_or (o ∷ padded bits) (m / 8) 0 + 2 ^ (7 - i))) r
one-padded [] k = absurd (k refl)
one-padded _ k = grind arith

over : (o k b q : ℕ) → o ≡ q * 2 ^ k → b < 2 ^ k → bit_or o b ≡ o + b
over o k b q e l = ap (λ (x : ℕ). bit_or x b) e ∙ or_shifted q k b l ∙ ap (λ (x : ℕ). x + b) (sym e)

-- A one at the place of an octet that has zeros from there on.
pub with-one : (place o : ℕ) → place < 8 → o % 2 ^ (8 - place) ≡ 0 → bit_or o (128 / 2 ^ place) ≡ o + 2 ^ (7 - place)
with-one zero o l h = over o 8 128 (o / 256) (omega arith) (lit< tt)
with-one (suc zero) o l h = over o 7 64 (o / 128) (omega arith) (lit< tt)
with-one (suc (suc zero)) o l h = over o 6 32 (o / 64) (omega arith) (lit< tt)
with-one (suc (suc (suc zero))) o l h = over o 5 16 (o / 32) (omega arith) (lit< tt)
with-one (suc (suc (suc (suc zero)))) o l h = over o 4 8 (o / 16) (omega arith) (lit< tt)
with-one (suc (suc (suc (suc (suc zero))))) o l h = over o 3 4 (o / 8) (omega arith) (lit< tt)
with-one (suc (suc (suc (suc (suc (suc zero)))))) o l h = over o 2 2 (o / 4) (omega arith) (lit< tt)
with-one (suc (suc (suc (suc (suc (suc (suc zero))))))) o l h = over o 1 1 (o / 2) (omega arith) (lit< tt)
with-one (suc (suc (suc (suc (suc (suc (suc (suc n)))))))) o l h = absurd (omega arith)

-- The bit at a place is that of its octet.
pub bit-at : (place : ℕ) (octets : List ℕ) → place / 8 < length octets → slice_get (all_bits octets) place ≡ Some (has_bit (2 ^ (7 - place % 8)) (get_or octets (place / 8) 0))
unfolding all_bits
bit-at (suc (suc (suc (suc (suc (suc (suc (suc n)))))))) (o ∷ octets) l =
    let m = suc (suc (suc (suc (suc (suc (suc (suc n))))))) in
    let q : suc (n / 8) ≡ m / 8 = omega arith in
    let r : n % 8 ≡ m % 8 = omega arith in
    bit-at n octets (omega arith)
    ∙ ap (λ (i : ℕ). Some (has_bit (2 ^ (7 - n % 8)) (get_or (o ∷ octets) i 0))) q
    ∙ ap (λ (i : ℕ). Some (has_bit (2 ^ (7 - i)) (get_or (o ∷ octets) (m / 8) 0))) r
bit-at _ [] l = absurd (omega arith)
bit-at _ (o ∷ octets) l = refl
