-- The octets of the first bits of octets.
use Rattle.std.proofs.Common.{◌≡◌, ◌≢◌, ◌-◌, ◌^◌, ℕ, zero, suc, ◌+◌, ◌*◌, ◌/◌, ◌%◌, ◌<◌, ◌≤◌, List, [], ◌∷◌, ◌++◌, refl, sym, ap, ◌∙◌, take, get_or, length, arith}
use Rattle.avn_grammar.specs.Octets.{octet, packed, bit_digit, bit_text}
use Rattle.avn_grammar.proofs.Packing.{octet-sum}

octet-digits : (o : ℕ) → o < 256 → octet (bit_digit 128 o) (bit_digit 64 o) (bit_digit 32 o) (bit_digit 16 o) (bit_digit 8 o) (bit_digit 4 o) (bit_digit 2 o) (bit_digit 1 o) ≡ o
octet-digits o h =
    let s : 128 * ((o / 128) % 2) + 64 * ((o / 64) % 2) + 32 * ((o / 32) % 2) + 16 * ((o / 16) % 2) + 8 * ((o / 8) % 2) + 4 * ((o / 4) % 2) + 2 * ((o / 2) % 2) + (o / 1) % 2 ≡ o = omega arith in
    octet-sum ((o / 128) % 2) ((o / 64) % 2) ((o / 32) % 2) ((o / 16) % 2) ((o / 8) % 2) ((o / 4) % 2) ((o / 2) % 2) ((o / 1) % 2) ∙ s

-- All numbers are octets, by place.
abbrev pub AreOctets : List ℕ → Type 0
AreOctets os = (i : ℕ) → get_or os i 0 < 256

next : (o : ℕ) (os : List ℕ) → AreOctets (o ∷ os) → AreOctets os
next o os h i = h (suc i)

-- Where octets end before the bits do, all of them are kept.
pub packed-all : (n : ℕ) (os : List ℕ) → AreOctets os → length os ≤ n / 8 → packed (take n (bit_text os)) ≡ os
unfolding bit_text packed
packed-all zero [] h l = refl
packed-all (suc n) [] h l = refl
packed-all zero (o ∷ os) h l = absurd (omega arith)
packed-all (suc zero) (o ∷ os) h l = absurd (omega arith)
packed-all (suc (suc zero)) (o ∷ os) h l = absurd (omega arith)
packed-all (suc (suc (suc zero))) (o ∷ os) h l = absurd (omega arith)
packed-all (suc (suc (suc (suc zero)))) (o ∷ os) h l = absurd (omega arith)
packed-all (suc (suc (suc (suc (suc zero))))) (o ∷ os) h l = absurd (omega arith)
packed-all (suc (suc (suc (suc (suc (suc zero)))))) (o ∷ os) h l = absurd (omega arith)
packed-all (suc (suc (suc (suc (suc (suc (suc zero))))))) (o ∷ os) h l = absurd (omega arith)
packed-all (suc (suc (suc (suc (suc (suc (suc (suc n)))))))) (o ∷ os) h l =
    ap (λ x. x ∷ packed (take n (bit_text os))) (octet-digits o (h 0)) ∙ ap (λ x. o ∷ x) (packed-all n os (next o os h) (omega arith))

-- Else whole octets are kept, and the first bits of the next one.
pub packed-split : (n : ℕ) (os : List ℕ) → AreOctets os → n / 8 < length os → packed (take n (bit_text os)) ≡ take (n / 8) os ++ packed (take (n % 8) (bit_text (get_or os (n / 8) 0 ∷ [])))
unfolding bit_text packed
packed-split n [] h l = absurd (omega arith)
packed-split zero (o ∷ os) h l = refl
packed-split (suc zero) (o ∷ os) h l = refl
packed-split (suc (suc zero)) (o ∷ os) h l = refl
packed-split (suc (suc (suc zero))) (o ∷ os) h l = refl
packed-split (suc (suc (suc (suc zero)))) (o ∷ os) h l = refl
packed-split (suc (suc (suc (suc (suc zero))))) (o ∷ os) h l = refl
packed-split (suc (suc (suc (suc (suc (suc zero)))))) (o ∷ os) h l = refl
packed-split (suc (suc (suc (suc (suc (suc (suc zero))))))) (o ∷ os) h l = refl
packed-split (suc (suc (suc (suc (suc (suc (suc (suc n)))))))) (o ∷ os) h l =
    let m = suc (suc (suc (suc (suc (suc (suc (suc n))))))) in
    let q : suc (n / 8) ≡ m / 8 = omega arith in
    let r : n % 8 ≡ m % 8 = omega arith in
    ap (λ x. x ∷ packed (take n (bit_text os))) (octet-digits o (h 0)) ∙ ap (λ x. o ∷ x) (packed-split n os (next o os h) (omega arith))
    ∙ ap (λ k. take k (o ∷ os) ++ packed (take (n % 8) (bit_text (get_or (o ∷ os) k 0 ∷ [])))) q
    ∙ ap (λ k. take (m / 8) (o ∷ os) ++ packed (take k (bit_text (get_or (o ∷ os) (m / 8) 0 ∷ [])))) r

-- The first bits of an octet, with zeros after them.
pub first-bits : (n o : ℕ) → n ≢ 0 → n < 8 → o < 256 → (((o / 2 ^ (8 - n)) * 2 ^ (8 - n)) % 256) ∷ [] ≡ packed (take n (bit_text (o ∷ [])))
unfolding bit_text packed
first-bits zero o some below h = absurd (some refl)
first-bits (suc zero) o some below h =
    let s : (o / 128 * 128) % 256 ≡ 128 * ((o / 128) % 2) + 64 * 0 + 32 * 0 + 16 * 0 + 8 * 0 + 4 * 0 + 2 * 0 + 0 = omega arith in
    ap (λ x. x ∷ []) (s ∙ sym (octet-sum ((o / 128) % 2) 0 0 0 0 0 0 0))
first-bits (suc (suc zero)) o some below h =
    let s : (o / 64 * 64) % 256 ≡ 128 * ((o / 128) % 2) + 64 * ((o / 64) % 2) + 32 * 0 + 16 * 0 + 8 * 0 + 4 * 0 + 2 * 0 + 0 = omega arith in
    ap (λ x. x ∷ []) (s ∙ sym (octet-sum ((o / 128) % 2) ((o / 64) % 2) 0 0 0 0 0 0))
first-bits (suc (suc (suc zero))) o some below h =
    let s : (o / 32 * 32) % 256 ≡ 128 * ((o / 128) % 2) + 64 * ((o / 64) % 2) + 32 * ((o / 32) % 2) + 16 * 0 + 8 * 0 + 4 * 0 + 2 * 0 + 0 = omega arith in
    ap (λ x. x ∷ []) (s ∙ sym (octet-sum ((o / 128) % 2) ((o / 64) % 2) ((o / 32) % 2) 0 0 0 0 0))
first-bits (suc (suc (suc (suc zero)))) o some below h =
    let s : (o / 16 * 16) % 256 ≡ 128 * ((o / 128) % 2) + 64 * ((o / 64) % 2) + 32 * ((o / 32) % 2) + 16 * ((o / 16) % 2) + 8 * 0 + 4 * 0 + 2 * 0 + 0 = omega arith in
    ap (λ x. x ∷ []) (s ∙ sym (octet-sum ((o / 128) % 2) ((o / 64) % 2) ((o / 32) % 2) ((o / 16) % 2) 0 0 0 0))
first-bits (suc (suc (suc (suc (suc zero))))) o some below h =
    let s : (o / 8 * 8) % 256 ≡ 128 * ((o / 128) % 2) + 64 * ((o / 64) % 2) + 32 * ((o / 32) % 2) + 16 * ((o / 16) % 2) + 8 * ((o / 8) % 2) + 4 * 0 + 2 * 0 + 0 = omega arith in
    ap (λ x. x ∷ []) (s ∙ sym (octet-sum ((o / 128) % 2) ((o / 64) % 2) ((o / 32) % 2) ((o / 16) % 2) ((o / 8) % 2) 0 0 0))
first-bits (suc (suc (suc (suc (suc (suc zero)))))) o some below h =
    let s : (o / 4 * 4) % 256 ≡ 128 * ((o / 128) % 2) + 64 * ((o / 64) % 2) + 32 * ((o / 32) % 2) + 16 * ((o / 16) % 2) + 8 * ((o / 8) % 2) + 4 * ((o / 4) % 2) + 2 * 0 + 0 = omega arith in
    ap (λ x. x ∷ []) (s ∙ sym (octet-sum ((o / 128) % 2) ((o / 64) % 2) ((o / 32) % 2) ((o / 16) % 2) ((o / 8) % 2) ((o / 4) % 2) 0 0))
first-bits (suc (suc (suc (suc (suc (suc (suc zero))))))) o some below h =
    let s : (o / 2 * 2) % 256 ≡ 128 * ((o / 128) % 2) + 64 * ((o / 64) % 2) + 32 * ((o / 32) % 2) + 16 * ((o / 16) % 2) + 8 * ((o / 8) % 2) + 4 * ((o / 4) % 2) + 2 * ((o / 2) % 2) + 0 = omega arith in
    ap (λ x. x ∷ []) (s ∙ sym (octet-sum ((o / 128) % 2) ((o / 64) % 2) ((o / 32) % 2) ((o / 16) % 2) ((o / 8) % 2) ((o / 4) % 2) ((o / 2) % 2) 0))
first-bits (suc (suc (suc (suc (suc (suc (suc (suc n)))))))) o some below h = absurd (omega arith)
