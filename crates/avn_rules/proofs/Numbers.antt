-- Numbers of digits.
use Rattle.std.proofs.Common.{◌≡◌, ap, ℕ, zero, suc, ◌+◌, ◌-◌, ◌*◌, ◌<◌, ◌≤◌, List, [], ◌∷◌, drop, get_or, length, true, None, if◌then◌else◌, arith}
use Rattle.std.specs.Prelude.{◌&&◌, nat_le}
use Rattle.asn_traits.specs.Digits.{digits_after}

both-le : (d : ℕ) → 48 ≤ d → d ≤ 57 → (nat_le 48 d && nat_le d 57) ≡ true
both-le d low high = search (arith, low, high)

-- One digit more.
pub digit_more : (n i : ℕ) (ds : List ℕ) → i < length ds → 48 ≤ get_or ds i 0 → get_or ds i 0 ≤ 57 → digits_after n (drop i ds) ≡ digits_after (n * 10 + (get_or ds i 0 - 48)) (drop (suc i) ds)
digit_more n i [] h low high = absurd (omega (arith, h))
digit_more n zero (c ∷ ds) h low high = ap (λ b. if b then digits_after (n * 10 + (c - 48)) ds else None) (both-le c low high)
digit_more n (suc i) (c ∷ ds) h low high = digit_more n i ds (omega (arith, h)) low high
