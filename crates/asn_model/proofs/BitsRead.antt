-- Bits as the notations write them are read as those bits.
use Rattle.std.proofs.Common.{◌≡◌, refl, ap, sym, ◌∙◌, arith, ℕ, zero, suc, ◌+◌, ◌/◌, ◌%◌, ◌<◌, ◌≤◌, List, [], ◌∷◌, map, take, length, Bool, true, false, cond, ◌==◌, Option, Some, None, Ok, inl, inr}
use Rattle.std.proofs.lemmas.Bool.{lt-ltb, eq-eqb, eqb-true, cases_Bool, cond-true, cond-false}
use Rattle.std.proofs.lemmas.List.{take_all, take-map}
use Rattle.avn_grammar.specs.Chars.{all}
use Rattle.avn_grammar.specs.Normal.{normal}
use Rattle.avn_grammar.specs.Octets.{bit_text, packed}
use Rattle.avn_grammar.specs.Tree.{Tree as AvnTree}
use Rattle.avn_grammar.specs.WellFormed.{is_octet}
use Rattle.avn_grammar.proofs.Packing.{octet-sum}
use Rattle.asn_core.specs.BitStrings.{all_bits, bit_value, bits_of, has_bit, octet_of, padded}
use Rattle.asn_core.proofs.Padding.{first-padded, length-all_bits, length-padded, value-lt}
use Rattle.asn_model.specs.Leaf.{as_leaf}
use Rattle.asn_model.specs.Notation.{Notation}
use Rattle.asn_model.specs.Tree.{Tree}
use Rattle.asn_model.specs.Value.{Value, is_same_size}
use Rattle.asn_model.specs.declared.leaves.LeafKind.TheVariants.{Bits}
use Rattle.asn_model.proofs.Readables.{and-both}

octet-small : (a b c d e f g h : Bool) → is_octet (octet_of a b c d e f g h) ≡ true
octet-small a b c d e f g h = lt-ltb _ 256 (omega (arith, value-lt a, value-lt b, value-lt c, value-lt d, value-lt e, value-lt f, value-lt g, value-lt h))

-- The octets of bits are octets.
pub padded-octets : (bits : List Bool) → all is_octet (padded bits) ≡ true
unfolding padded
padded-octets [] = refl
padded-octets (a ∷ []) = and-both _ _ (octet-small a false false false false false false false) refl
padded-octets (a ∷ b ∷ []) = and-both _ _ (octet-small a b false false false false false false) refl
padded-octets (a ∷ b ∷ c ∷ []) = and-both _ _ (octet-small a b c false false false false false) refl
padded-octets (a ∷ b ∷ c ∷ d ∷ []) = and-both _ _ (octet-small a b c d false false false false) refl
padded-octets (a ∷ b ∷ c ∷ d ∷ e ∷ []) = and-both _ _ (octet-small a b c d e false false false) refl
padded-octets (a ∷ b ∷ c ∷ d ∷ e ∷ f ∷ []) = and-both _ _ (octet-small a b c d e f false false) refl
padded-octets (a ∷ b ∷ c ∷ d ∷ e ∷ f ∷ g ∷ []) = and-both _ _ (octet-small a b c d e f g false) refl
padded-octets (a ∷ b ∷ c ∷ d ∷ e ∷ f ∷ g ∷ h ∷ bits) = and-both _ _ (octet-small a b c d e f g h) (padded-octets bits)

-- The digit of a bit in AVN.
abbrev digit_of : Bool → ℕ
digit_of bit = 48 + bit_value bit

digit-read : (n : ℕ) → n < 2 → 48 + n ≡ digit_of (n == 1)
digit-read zero h = refl
digit-read (suc zero) h = refl
digit-read (suc (suc n)) h = absurd (omega arith)

record Digits (o : ℕ) : Type 0 where
  first : 48 + (o / 128) % 2 ≡ digit_of (has_bit 128 o)
  second : 48 + (o / 64) % 2 ≡ digit_of (has_bit 64 o)
  third : 48 + (o / 32) % 2 ≡ digit_of (has_bit 32 o)
  fourth : 48 + (o / 16) % 2 ≡ digit_of (has_bit 16 o)
  fifth : 48 + (o / 8) % 2 ≡ digit_of (has_bit 8 o)
  sixth : 48 + (o / 4) % 2 ≡ digit_of (has_bit 4 o)
  seventh : 48 + (o / 2) % 2 ≡ digit_of (has_bit 2 o)
  eighth : 48 + (o / 1) % 2 ≡ digit_of (has_bit 1 o)

digits : (o : ℕ) → Digits o
digits o = record {
  first = digit-read _ (omega arith);
  second = digit-read _ (omega arith);
  third = digit-read _ (omega arith);
  fourth = digit-read _ (omega arith);
  fifth = digit-read _ (omega arith);
  sixth = digit-read _ (omega arith);
  seventh = digit-read _ (omega arith);
  eighth = digit-read _ (omega arith);
}

-- The digits of octets are those of their bits.
bit_text-bits : (octets : List ℕ) → bit_text octets ≡ map digit_of (all_bits octets)
unfolding bit_text all_bits
bit_text-bits [] = refl
bit_text-bits (o ∷ octets) = let s = digits o in let r = bit_text-bits octets in cc

-- Digits of bits are packed as the bits are.
packed-bits : (bits : List Bool) → packed (map digit_of bits) ≡ padded bits
unfolding packed padded
packed-bits [] = refl
packed-bits (a ∷ []) = ap (λ o. o ∷ []) (octet-sum (bit_value a) 0 0 0 0 0 0 0)
packed-bits (a ∷ b ∷ []) = ap (λ o. o ∷ []) (octet-sum (bit_value a) (bit_value b) 0 0 0 0 0 0)
packed-bits (a ∷ b ∷ c ∷ []) = ap (λ o. o ∷ []) (octet-sum (bit_value a) (bit_value b) (bit_value c) 0 0 0 0 0)
packed-bits (a ∷ b ∷ c ∷ d ∷ []) = ap (λ o. o ∷ []) (octet-sum (bit_value a) (bit_value b) (bit_value c) (bit_value d) 0 0 0 0)
packed-bits (a ∷ b ∷ c ∷ d ∷ e ∷ []) = ap (λ o. o ∷ []) (octet-sum (bit_value a) (bit_value b) (bit_value c) (bit_value d) (bit_value e) 0 0 0)
packed-bits (a ∷ b ∷ c ∷ d ∷ e ∷ f ∷ []) = ap (λ o. o ∷ []) (octet-sum (bit_value a) (bit_value b) (bit_value c) (bit_value d) (bit_value e) (bit_value f) 0 0)
packed-bits (a ∷ b ∷ c ∷ d ∷ e ∷ f ∷ g ∷ []) = ap (λ o. o ∷ []) (octet-sum (bit_value a) (bit_value b) (bit_value c) (bit_value d) (bit_value e) (bit_value f) (bit_value g) 0)
packed-bits (a ∷ b ∷ c ∷ d ∷ e ∷ f ∷ g ∷ h ∷ bits) =
    ap (λ o. o ∷ packed (map digit_of bits)) (octet-sum (bit_value a) (bit_value b) (bit_value c) (bit_value d) (bit_value e) (bit_value f) (bit_value g) (bit_value h))
    ∙ ap (λ l. octet_of a b c d e f g h ∷ l) (packed-bits bits)

-- The octets of bits, cut to these bits and packed again, are the same.
repacked : (bits : List Bool) → packed (take (length bits) (bit_text (padded bits))) ≡ padded bits
repacked bits =
    ap (λ l. packed (take (length bits) l)) (bit_text-bits (padded bits))
    ∙ ap packed (take-map digit_of (length bits) (all_bits (padded bits)))
    ∙ ap (λ l. packed (map digit_of l)) (first-padded bits)
    ∙ packed-bits bits

none : (bits : List Bool) → length bits ≡ 0 → bits ≡ []
none [] h = refl
none (b ∷ bits) h = absurd (omega (arith, h))

-- Bits that fill their octets are all bits of these.
all-padded : (bits : List Bool) → length bits % 8 ≡ 0 → all_bits (padded bits) ≡ bits
all-padded bits h =
    let whole : length (all_bits (padded bits)) ≤ length bits = omega (arith, length-all_bits (padded bits), length-padded bits, h) in
    sym (take_all (length bits) (all_bits (padded bits)) whole) ∙ first-padded bits

-- The value that the text of bits in AVN is read as has these bits.
pub bits-read : (size : Option ℕ) (bits : List Bool) → as_leaf Notation.avn (Bits size) (Tree.avn (normal (AvnTree.bit_string (padded bits) (length bits)))) ≡ Ok (Value.bits bits size)
unfolding normal all_bits
bits-read size bits =
    let n = length bits in
    let octets = padded bits in
    let odd = AvnTree.bit_string (packed (take n (bit_text octets))) n in
    let some = cond (n % 8 == 0) (AvnTree.octet_string octets) odd in
    let reads = λ (t : AvnTree). as_leaf Notation.avn (Bits size) (Tree.avn t) in
    elim (cases_Bool (n == 0)) [
      | inl k ↦ ap reads (cond-true (n == 0) (AvnTree.octet_string []) some k) ∙ ap (λ b. Ok (Value.bits b size)) (sym (none bits (eqb-true n 0 k)))
      | inr k ↦ elim (cases_Bool (n % 8 == 0)) [
        | inl q ↦ ap reads (cond-false (n == 0) (AvnTree.octet_string []) some k ∙ cond-true (n % 8 == 0) (AvnTree.octet_string octets) odd q) ∙ ap (λ b. Ok (Value.bits b size)) (all-padded bits (eqb-true (n % 8) 0 q))
        | inr q ↦ ap reads (cond-false (n == 0) (AvnTree.octet_string []) some k ∙ cond-false (n % 8 == 0) (AvnTree.octet_string octets) odd q)
            ∙ ap (λ o. Ok (Value.bits (bits_of o n) size)) (repacked bits) ∙ ap (λ b. Ok (Value.bits b size)) (first-padded bits)
      ]
    ]

-- A size is the same as itself.
pub same-itself : (size : Option ℕ) → is_same_size size size ≡ true
same-itself None = refl
same-itself (Some n) = eq-eqb n n refl
