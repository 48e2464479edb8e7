-- Bits that octets and a count hold.
use Rattle.std.proofs.Common.{◌≡◌, ◌≢◌, ℕ, zero, suc, ◌+◌, ◌*◌, ◌/◌, ◌%◌, ◌^◌, ◌-◌, ◌<◌, ◌≤◌, List, [], ◌∷◌, ◌++◌, Bool, true, false, Some, refl, sym, ap, ◌∙◌, take, length, length-append, get_or, set, arith}
use Rattle.std.specs.Prelude.{nat_eq}
use Rattle.std.specs.Bool.{beq}
use Rattle.std.specs.Cmp.{booleans_Decides}
use Rattle.std.specs.Cmp.Lexicographic.{pointwise}
use Rattle.std.specs.Int.{div_ceil}
use Rattle.std.specs.List.{slice_get}
use Rattle.std.proofs.lemmas.Bool.Decides.{Decides-eqb, Decides-like, same_from_decides}
use Rattle.std.proofs.lemmas.List.{length-take, take_more, get_or_read}
use Rattle.std.proofs.lemmas.Option.{get_or_from_slice_get}
use Rattle.std.proofs.lemmas.Slice.Eq.{slice_eq-Decides}
use Rattle.asn_core.specs.BitStrings.{all_bits, bits_of, bit_value, padded, IsPadded}
use Rattle.asn_core.proofs.Padding.{bits_of-padded, is_padded, length-padded, length-all_bits}
use Rattle.asn_core.proofs.Appending.{begun, zero-padded, one-padded, clear}

pub none-held : (octets : List ℕ) → octets ≡ [] → IsPadded octets 0
unfolding padded
none-held octets e = is_padded octets 0 [] e refl

slice_get-take : {X : Type 0} (n : ℕ) (xs : List X) (i : ℕ) → i < n → slice_get (take n xs) i ≡ slice_get xs i
slice_get-take zero xs i h = absurd (omega arith)
slice_get-take (suc n) [] i h = refl
slice_get-take (suc n) (x ∷ xs) zero h = refl
slice_get-take (suc n) (x ∷ xs) (suc i) h = slice_get-take n xs i (omega arith)

-- What octets and a count hold, seen as bits.
module _ (octets : List ℕ) (count : ℕ) (bits : List Bool) (held : IsPadded octets count) (seen : bits_of octets count ≡ bits) where
  -- The octet of a place below the count is there.
  pub octet-there : (place : ℕ) → place < count → place / 8 < length octets
  octet-there place h = omega (arith, held.counted, length-take count (all_bits octets), length-all_bits octets)

  pub bit-seen : (place : ℕ) (bit : Bool) → place < count → Some bit ≡ slice_get (all_bits octets) place → Some bit ≡ slice_get bits place
  bit-seen place bit h e = e ∙ sym (slice_get-take count (all_bits octets) place h) ∙ ap (λ x. slice_get x place) seen

  -- The octets are as many as the bits take.
  octets-long : length octets ≡ div_ceil count 8
  octets-long = ap (λ (x : List ℕ). length x) held.padding ∙ length-padded (bits_of octets count) ∙ ap (λ n. div_ceil n 8) held.counted

  -- Where the last octet is not full, it is there.
  pub part-there : count % 8 ≢ 0 → count / 8 < length octets
  part-there h = omega (arith, octets-long)

-- A bit after those that octets and a count hold.
module _ (octets : List ℕ) (count : ℕ) (held : IsPadded octets count) where
  part-of : (x : ℕ) → count % 8 ≢ 0 → x ≡ get_or octets (count / 8) x → x ≡ get_or (padded (bits_of octets count)) (length (bits_of octets count) / 8) 0
  part-of x h e =
      get_or_read octets (count / 8) x (part-there octets count (bits_of octets count) held refl h) e 0 ∙ ap (λ (o : List ℕ). get_or o (count / 8) 0) held.padding
      ∙ ap (λ (n : ℕ). get_or (padded (bits_of octets count)) (n / 8) 0) (sym held.counted)

  not-full : count % 8 ≢ 0 → length (bits_of octets count) % 8 ≢ 0
  not-full h e = h (ap (λ (n : ℕ). n % 8) (sym held.counted) ∙ e)

  pub part-clear : (x : ℕ) → count % 8 ≢ 0 → x ≡ get_or octets (count / 8) x → x % 2 ^ (8 - count % 8) ≡ 0
  part-clear x h e =
      ap (λ (n : ℕ). x % 2 ^ (8 - n % 8)) (sym held.counted) ∙ ap (λ (y : ℕ). y % 2 ^ (8 - length (bits_of octets count) % 8)) (part-of x h e) ∙ clear (bits_of octets count) (not-full h)

  pub bit-begun : (bit : Bool) → count % 8 ≡ 0 → octets ++ 128 * bit_value bit ∷ [] ≡ padded (bits_of octets count ++ bit ∷ [])
  bit-begun bit h =
      ap (λ (o : List ℕ). o ++ 128 * bit_value bit ∷ []) held.padding ∙ sym (begun (bits_of octets count) bit (ap (λ (n : ℕ). n % 8) held.counted ∙ h))

  pub zero-there : count % 8 ≢ 0 → octets ≡ padded (bits_of octets count ++ false ∷ [])
  zero-there h = held.padding ∙ sym (zero-padded (bits_of octets count) (not-full h))

  pub one-added : (x : ℕ) → count % 8 ≢ 0 → x ≡ get_or octets (count / 8) x → set octets (count / 8) (x + 2 ^ (7 - count % 8)) ≡ padded (bits_of octets count ++ true ∷ [])
  one-added x h e =
      let bits = bits_of octets count in
      ap (λ (n : ℕ). set octets (n / 8) (x + 2 ^ (7 - n % 8))) (sym held.counted)
      ∙ ap (λ (o : List ℕ). set o (length bits / 8) (x + 2 ^ (7 - length bits % 8))) held.padding
      ∙ ap (λ (y : ℕ). set (padded bits) (length bits / 8) (y + 2 ^ (7 - length bits % 8))) (part-of x h e)
      ∙ sym (one-padded bits (not-full h))

-- Octets and a count that hold one bit more.
module _ (octets : List ℕ) (count : ℕ) (bits : List Bool) (bit : Bool) (new : List ℕ) (held : IsPadded octets count) (padding : new ≡ padded (bits_of octets count ++ bit ∷ [])) where
  more-long : count + 1 ≡ length (bits_of octets count ++ bit ∷ [])
  more-long = omega (arith, held.counted, length-append (bits_of octets count) (bit ∷ []))

  pub more-held : IsPadded new (count + 1)
  more-held = is_padded new (count + 1) (bits_of octets count ++ bit ∷ []) padding more-long

  pub more-seen : bits_of octets count ≡ bits → bits_of new (count + 1) ≡ bits ++ bit ∷ []
  more-seen seen = bits_of-padded new (count + 1) (bits_of octets count ++ bit ∷ []) padding more-long ∙ ap (λ (x : List Bool). x ++ bit ∷ []) seen

-- The first bits of octets, of which there are as many.
module _ (octets : List ℕ) (at_most count : ℕ) (new : List ℕ) (padding : new ≡ padded (bits_of octets at_most)) (counted : count ≡ length (bits_of octets at_most)) where
  pub first-held : IsPadded new count
  first-held = is_padded new count (bits_of octets at_most) padding counted

  pub first-seen : bits_of new count ≡ bits_of octets at_most
  first-seen = bits_of-padded new count (bits_of octets at_most) padding counted

pub all-counted : (octets : List ℕ) (at_most : ℕ) → length octets ≤ at_most / 8 → length octets * 8 ≡ length (bits_of octets at_most)
all-counted octets at_most h = omega (arith, length-take at_most (all_bits octets), length-all_bits octets)

pub first-counted : (octets : List ℕ) (at_most : ℕ) → at_most / 8 < length octets → at_most ≡ length (bits_of octets at_most)
first-counted octets at_most h = omega (arith, length-take at_most (all_bits octets), length-all_bits octets)

-- The last bit of those that octets and a count hold.
module _ (octets : List ℕ) (count last : ℕ) (held : IsPadded octets count) (after : count ≡ last + 1) where
  last-there : last < length (all_bits octets)
  last-there = omega (arith, held.counted, length-take count (all_bits octets))

  pub front-counted : last ≡ length (bits_of octets last)
  front-counted = omega (arith, length-take last (all_bits octets), last-there)

  pub last-split : (bit : Bool) → Some bit ≡ slice_get (all_bits octets) last → bits_of octets count ≡ bits_of octets last ++ bit ∷ []
  last-split bit e =
      ap (bits_of octets) after ∙ take_more (all_bits octets) last bit last-there ∙ ap (λ (x : Bool). bits_of octets last ++ x ∷ []) (get_or_from_slice_get (all_bits octets) last bit bit (sym e))

-- Equal counts and equal octets hold the same bits.
pub same-bits : (o p : List ℕ) (n m : ℕ) (xs ys : List Bool) → IsPadded o n → IsPadded p m → bits_of o n ≡ xs → bits_of p m ≡ ys → n ≡ m → (r : Bool) → r ≡ pointwise nat_eq o p → r ≡ pointwise beq xs ys
same-bits o p n m xs ys a b v w e r t =
    same_from_decides r (pointwise beq xs ys) (Decides-like r
    (λ (q : o ≡ p). sym v ∙ ap (bits_of o) e ∙ ap (λ x. bits_of x m) q ∙ w)
    (λ (q : xs ≡ ys). a.padding ∙ ap padded (v ∙ q ∙ sym w) ∙ sym b.padding)
    (slice_eq-Decides Decides-eqb o p r t)) (slice_eq-Decides booleans_Decides xs ys (pointwise beq xs ys) refl)
