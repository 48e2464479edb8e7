-- The octets of the first bits.
use Rattle.std.proofs.Common.{◌≡◌, ◌≢◌, ℕ, zero, suc, ◌*◌, ◌/◌, ◌%◌, ◌^◌, ◌-◌, ◌<◌, ◌≤◌, List, [], ◌∷◌, Bool, false, refl, sym, ap, ◌∙◌, take, length, get_or, set, arith}
use Rattle.std.specs.Int.{div_ceil}
use Rattle.asn_core.specs.BitStrings.{has_bit, all_bits, bits_of, octet_of, padded}
use Rattle.asn_core.proofs.Padding.{AreOctets, next, octet-bits, values}

no-octets : (n : ℕ) → take {A = ℕ} n [] ≡ []
no-octets zero = refl
no-octets (suc n) = refl

no-bits : (n : ℕ) → take {A = Bool} n [] ≡ []
no-bits zero = refl
no-bits (suc n) = refl

-- Eight bits more take an octet more.
ceil-more : (n : ℕ) → div_ceil (suc (suc (suc (suc (suc (suc (suc (suc n)))))))) 8 ≡ suc (div_ceil n 8)
ceil-more n = omega arith

-- Where the octets end before the last bit does, all of them stay.
pub cut-whole : (n : ℕ) (octets : List ℕ) → AreOctets octets → length (take (div_ceil n 8) octets) ≤ n / 8 → take (div_ceil n 8) octets ≡ padded (bits_of octets n)
unfolding all_bits padded
cut-whole (suc (suc (suc (suc (suc (suc (suc (suc n)))))))) [] h l = no-octets (div_ceil (suc (suc (suc (suc (suc (suc (suc (suc n)))))))) 8)
cut-whole (suc (suc (suc (suc (suc (suc (suc (suc n)))))))) (o ∷ octets) h l =
    let m = suc (suc (suc (suc (suc (suc (suc (suc n))))))) in
    let e = ap (λ (k : ℕ). take k (o ∷ octets)) (ceil-more n) in
    let r : length (take (div_ceil n 8) octets) ≤ n / 8 = omega (arith, ap (λ (x : List ℕ). length x) e) in
    e ∙ ap (λ (x : List ℕ). o ∷ x) (cut-whole n octets (next o octets h) r) ∙ ap (λ (x : ℕ). x ∷ padded (bits_of octets n)) (sym (octet-bits o (h 0 (omega arith))))
cut-whole zero octets h l = refl
cut-whole _ [] h l = refl
cut-whole _ (o ∷ octets) h l = absurd (omega arith)

-- Else the last octet has the first of its bits.
pub cut-part : (n : ℕ) (octets : List ℕ) (last : ℕ) → AreOctets octets → n / 8 < length (take (div_ceil n 8) octets)
    → last ∷ [] ≡ padded (bits_of (get_or octets (n / 8) 0 ∷ []) (n % 8))
    → set (take (div_ceil n 8) octets) (n / 8) last ≡ padded (bits_of octets n)
unfolding all_bits padded
cut-part (suc (suc (suc (suc (suc (suc (suc (suc n)))))))) [] last h l p =
    absurd (omega (arith, ap (λ (x : List ℕ). length x) (no-octets (div_ceil (suc (suc (suc (suc (suc (suc (suc (suc n)))))))) 8))))
cut-part (suc (suc (suc (suc (suc (suc (suc (suc n)))))))) (o ∷ octets) last h l p =
    let m = suc (suc (suc (suc (suc (suc (suc (suc n))))))) in
    let q : m / 8 ≡ suc (n / 8) = omega arith in
    let r : m % 8 ≡ n % 8 = omega arith in
    let e = ap (λ (k : ℕ). take k (o ∷ octets)) (ceil-more n) in
    let s : n / 8 < length (take (div_ceil n 8) octets) = omega (arith, ap (λ (x : List ℕ). length x) e) in
    let p' : last ∷ [] ≡ padded (bits_of (get_or octets (n / 8) 0 ∷ []) (n % 8)) = p ∙ ap (λ (k : ℕ). padded (bits_of (get_or (o ∷ octets) k 0 ∷ []) (m % 8))) q ∙ ap (λ (k : ℕ). padded (bits_of (get_or octets (n / 8) 0 ∷ []) k)) r in
    ap (λ (x : List ℕ). set x (m / 8) last) e ∙ ap (λ (k : ℕ). set (o ∷ take (div_ceil n 8) octets) k last) q
    ∙ ap (λ (x : List ℕ). o ∷ x) (cut-part n octets last (next o octets h) s p') ∙ ap (λ (x : ℕ). x ∷ padded (bits_of octets n)) (sym (octet-bits o (h 0 (omega arith))))
cut-part zero octets last h l p = absurd (omega arith)
cut-part _ [] last h l p = absurd (omega arith)
cut-part _ (o ∷ octets) last h l p = p

-- The first bits of an octet, with zeros after them.
pub first-bits : (n o : ℕ) → n ≢ 0 → n < 8 → (((o / 2 ^ (8 - n)) * 2 ^ (8 - n)) % 256) ∷ [] ≡ padded (bits_of (o ∷ []) n)
unfolding all_bits padded
first-bits zero o some below = absurd (some refl)
first-bits (suc zero) o some below =
    let v = values o in
    let s : (o / 128 * 128) % 256 ≡ octet_of (has_bit 128 o) false false false false false false false = omega arith in
    ap (λ (x : ℕ). x ∷ []) s
first-bits (suc (suc zero)) o some below =
    let v = values o in
    let s : (o / 64 * 64) % 256 ≡ octet_of (has_bit 128 o) (has_bit 64 o) false false false false false false = omega arith in
    ap (λ (x : ℕ). x ∷ []) s
first-bits (suc (suc (suc zero))) o some below =
    let v = values o in
    let s : (o / 32 * 32) % 256 ≡ octet_of (has_bit 128 o) (has_bit 64 o) (has_bit 32 o) false false false false false = omega arith in
    ap (λ (x : ℕ). x ∷ []) s
first-bits (suc (suc (suc (suc zero)))) o some below =
    let v = values o in
    let s : (o / 16 * 16) % 256 ≡ octet_of (has_bit 128 o) (has_bit 64 o) (has_bit 32 o) (has_bit 16 o) false false false false = omega arith in
    ap (λ (x : ℕ). x ∷ []) s
first-bits (suc (suc (suc (suc (suc zero))))) o some below =
    let v = values o in
    let s : (o / 8 * 8) % 256 ≡ octet_of (has_bit 128 o) (has_bit 64 o) (has_bit 32 o) (has_bit 16 o) (has_bit 8 o) false false false = omega arith in
    ap (λ (x : ℕ). x ∷ []) s
first-bits (suc (suc (suc (suc (suc (suc zero)))))) o some below =
    let v = values o in
    let s : (o / 4 * 4) % 256 ≡ octet_of (has_bit 128 o) (has_bit 64 o) (has_bit 32 o) (has_bit 16 o) (has_bit 8 o) (has_bit 4 o) false false = omega arith in
    ap (λ (x : ℕ). x ∷ []) s
first-bits (suc (suc (suc (suc (suc (suc (suc zero))))))) o some below =
    let v = values o in
    let s : (o / 2 * 2) % 256 ≡ octet_of (has_bit 128 o) (has_bit 64 o) (has_bit 32 o) (has_bit 16 o) (has_bit 8 o) (has_bit 4 o) (has_bit 2 o) false = omega arith in
    ap (λ (x : ℕ). x ∷ []) s
first-bits (suc (suc (suc (suc (suc (suc (suc (suc n)))))))) o some below = absurd (omega arith)
