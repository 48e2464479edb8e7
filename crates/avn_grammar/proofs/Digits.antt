-- Digits of octets, bits and arcs.
use Rattle.std.proofs.Common.{◌≡◌, inl, inr, ℕ, zero, suc, ◌+◌, ◌*◌, ◌/◌, ◌%◌, ◌^◌, ◌<◌, List, [], ◌∷◌, ◌++◌, Bool, true, false, cond, not, ◌==◌, ◌&&◌, nat_lt, refl, ap, ◌∙◌, length, take, arith}
use Rattle.std.proofs.lemmas.Bool.{eqb-true, and_parts, and_from, or_cases, ltb-true, cond-true, agree_below_at}
use Rattle.std.specs.Str.{IsAscii}
use Rattle.std.specs.Char.{is_whitespace}
use Rattle.std.specs.Fmt.{decimal}
use Rattle.std.proofs.lemmas.Fmt.{decimal_by_steps_wide}
use Rattle.avn_grammar.specs.Chars.{take_while, skip_while, is_digit, starts_with, all, is_not_apostrophe, without_whitespace}
use Rattle.avn_grammar.specs.Octets.{is_hex, hex_value, are_pairs, octets_of, is_bit, hex_digit, hex_text, bit_digit, bit_text}
use Rattle.avn_grammar.specs.WellFormed.{is_digits, is_octet, is_arc}
use Rattle.avn_grammar.proofs.RunsBefore.{ascii-every, begins-over}

pub every-weaken : (p q : ℕ → Bool) → ((c : ℕ) → p c ≡ true → q c ≡ true) → (xs : List ℕ) → all p xs ≡ true → all q xs ≡ true
every-weaken p q f [] h = refl
every-weaken p q f (c ∷ xs) h = let k = and_parts (p c) (all p xs) h in and_from (q c) (all q xs) (f c k.0) (every-weaken p q f xs k.1)

pub every-append : (p : ℕ → Bool) (xs ys : List ℕ) → all p xs ≡ true → all p ys ≡ true → all p (xs ++ ys) ≡ true
every-append p [] ys a b = b
every-append p (c ∷ xs) ys a b = let k = and_parts (p c) (all p xs) a in and_from (p c) (all p (xs ++ ys)) k.0 (every-append p xs ys k.1 b)

pub every-take : (p : ℕ → Bool) (n : ℕ) (xs : List ℕ) → all p xs ≡ true → all p (take n xs) ≡ true
every-take p zero xs h = refl
every-take p (suc n) [] h = refl
every-take p (suc n) (c ∷ xs) h = let k = and_parts (p c) (all p xs) h in and_from (p c) (all p (take n xs)) k.0 (every-take p n xs k.1)

pub every-front : (p : ℕ → Bool) (u : List ℕ) → all p (take_while p u) ≡ true
every-front p [] = refl
every-front p (c ∷ u) = elim (p c) as (λ b. p c ≡ b → all p (cond b (c ∷ take_while p u) []) ≡ true) [ true ↦ λ h. and_from (p c) (all p (take_while p u)) h (every-front p u) | false ↦ λ h. refl ] refl

pub begins-front : (p : ℕ → Bool) (u : List ℕ) → starts_with p u ≡ true → starts_with p (take_while p u) ≡ true
begins-front p [] h = h
begins-front p (c ∷ u) h = ap (starts_with p) (cond-true (p c) (c ∷ take_while p u) [] h) ∙ h

pub front-past : (p : ℕ → Bool) (u : List ℕ) → take_while p u ++ skip_while p u ≡ u
front-past p [] = refl
front-past p (c ∷ u) = elim (p c) as (λ b. cond b (c ∷ take_while p u) [] ++ cond b (skip_while p u) (c ∷ u) ≡ c ∷ u) [ true ↦ ap (λ x. c ∷ x) (front-past p u) | false ↦ refl ]

solid-every : (xs : List ℕ) → all (λ c. not (is_whitespace c)) xs ≡ true → without_whitespace xs ≡ xs
solid-every [] h = refl
solid-every (c ∷ xs) h = let k = and_parts (not (is_whitespace c)) (all (λ c. not (is_whitespace c)) xs) h in cond-true (not (is_whitespace c)) (c ∷ without_whitespace xs) (without_whitespace xs) k.0 ∙ ap (λ x. c ∷ x) (solid-every xs k.1)

low : ℕ → Bool
low c = nat_lt c 128

low-lt : (c : ℕ) → low c ≡ true → c < 128
unfolding low
low-lt c h = ltb-true c 128 h

-- Hexadecimal digits.
digit-passes : (q : ℕ → Bool) (n : ℕ) → ((n : ℕ) → n < 16 → q (hex_digit n) ≡ true) → (os : List ℕ) → all is_octet os ≡ true → all q (hex_text os) ≡ true
digit-passes q n f [] h = refl
digit-passes q n f (o ∷ os) h =
    let k = and_parts (is_octet o) (all is_octet os) h in
    let l : o < 256 = ltb-true o 256 k.0 in
    and_from (q (hex_digit (o / 16))) (q (hex_digit (o % 16)) && all q (hex_text os)) (f (o / 16) (omega (arith, l))) (and_from (q (hex_digit (o % 16))) (all q (hex_text os)) (f (o % 16) (omega arith)) (digit-passes q n f os k.1))

hex-pairs : (os : List ℕ) → all is_octet os ≡ true → are_pairs (hex_text os) ≡ true
hex-pairs [] h = refl
hex-pairs (o ∷ os) h =
    let k = and_parts (is_octet o) (all is_octet os) h in
    let l : o < 256 = ltb-true o 256 k.0 in
    and_from (is_hex (hex_digit (o / 16)) && is_hex (hex_digit (o % 16))) (are_pairs (hex_text os))
    (and_from (is_hex (hex_digit (o / 16))) (is_hex (hex_digit (o % 16))) (agree_below_at (λ n. is_hex (hex_digit n)) (λ n. true) 16 (o / 16) refl (omega (arith, l))) (agree_below_at (λ n. is_hex (hex_digit n)) (λ n. true) 16 (o % 16) refl (omega arith)))
    (hex-pairs os k.1)

hex-value : (n : ℕ) → n < 16 → hex_value (hex_digit n) ≡ n
hex-value n h = eqb-true (hex_value (hex_digit n)) n (agree_below_at (λ n. hex_value (hex_digit n) == n) (λ n. true) 16 n refl h)

hex-octets : (os : List ℕ) → all is_octet os ≡ true → octets_of (hex_text os) ≡ os
hex-octets [] h = refl
hex-octets (o ∷ os) h =
    let k = and_parts (is_octet o) (all is_octet os) h in
    let l : o < 256 = ltb-true o 256 k.0 in
    let a = hex-value (o / 16) (omega (arith, l)) in
    let b = hex-value (o % 16) (omega arith) in
    let e : 16 * hex_value (hex_digit (o / 16)) + hex_value (hex_digit (o % 16)) ≡ o = ap (λ x. 16 * x + hex_value (hex_digit (o % 16))) a ∙ ap (λ x. 16 * (o / 16) + x) b ∙ omega arith in
    ap (λ x. x ∷ octets_of (hex_text os)) e ∙ ap (λ x. o ∷ x) (hex-octets os k.1)

pub record Hex (xs os : List ℕ) : Type 0 where
  pub within : all is_not_apostrophe xs ≡ true
  pub whole : without_whitespace xs ≡ xs
  pub pairs : are_pairs xs ≡ true
  pub says : octets_of xs ≡ os
  pub ascii : IsAscii xs

pub hex_of : (os : List ℕ) → all is_octet os ≡ true → Hex (hex_text os) os
unfolding low
hex_of os h = record {
  within = digit-passes is_not_apostrophe 0 (λ n l. agree_below_at (λ n. is_not_apostrophe (hex_digit n)) (λ n. true) 16 n refl l) os h;
  whole = solid-every (hex_text os) (digit-passes (λ c. not (is_whitespace c)) 0 (λ n l. agree_below_at (λ n. not (is_whitespace (hex_digit n))) (λ n. true) 16 n refl l) os h);
  pairs = hex-pairs os h;
  says = hex-octets os h;
  ascii = ascii-every low low-lt (hex_text os) (digit-passes low 0 (λ n l. agree_below_at (λ n. low (hex_digit n)) (λ n. true) 16 n refl l) os h);
}

-- Bits.
bit-passes : (q : ℕ → Bool) → q 48 ≡ true → q 49 ≡ true → (c : ℕ) → is_bit c ≡ true → q c ≡ true
bit-passes q a b c h = elim (or_cases (c == 48) (c == 49) h) [ inl k ↦ ap q (eqb-true c 48 k) ∙ a | inr k ↦ ap q (eqb-true c 49 k) ∙ b ]

pub record Bits (xs : List ℕ) : Type 0 where
  pub within : all is_not_apostrophe xs ≡ true
  pub whole : without_whitespace xs ≡ xs
  pub ascii : IsAscii xs

pub bits_of : (xs : List ℕ) → all is_bit xs ≡ true → Bits xs
unfolding low
bits_of xs h = record {
  within = every-weaken is_bit is_not_apostrophe (bit-passes is_not_apostrophe refl refl) xs h;
  whole = solid-every xs (every-weaken is_bit (λ c. not (is_whitespace c)) (bit-passes (λ c. not (is_whitespace c)) refl refl) xs h);
  ascii = ascii-every low low-lt xs (every-weaken is_bit low (bit-passes low refl refl) xs h);
}

digit-bit : (weight o : ℕ) → is_bit (bit_digit weight o) ≡ true
digit-bit weight o = agree_below_at (λ n. is_bit (48 + n)) (λ n. true) 2 ((o / weight) % 2) refl (omega arith)

pub bit_text-bits : (os : List ℕ) → all is_bit (bit_text os) ≡ true
unfolding bit_text
bit_text-bits [] = refl
bit_text-bits (o ∷ os) =
    and_from _ _ (digit-bit 128 o) (and_from _ _ (digit-bit 64 o) (and_from _ _ (digit-bit 32 o) (and_from _ _ (digit-bit 16 o) (and_from _ _ (digit-bit 8 o) (and_from _ _ (digit-bit 4 o) (and_from _ _ (digit-bit 2 o) (and_from _ _ (digit-bit 1 o) (bit_text-bits os))))))))

pub length-bit_text : (os : List ℕ) → length (bit_text os) ≡ 8 * length os
unfolding bit_text
length-bit_text [] = omega arith
length-bit_text (o ∷ os) = omega (arith, length-bit_text os)

-- Arcs.
pub digits-decimal : (n : ℕ) → n < 10 ^ 64 → is_digits (decimal n) ≡ true
digits-decimal n h = decimal_by_steps_wide (λ n ds. is_digits ds ≡ true)
    (λ n l. agree_below_at (λ n. is_digits ((48 + n) ∷ [])) (λ n. true) 10 n refl l)
    (λ n ds l e.
    let k = and_parts (starts_with is_digit ds) (all is_digit ds) e in
    let d : is_digit (48 + n % 10) ≡ true = agree_below_at (λ n. is_digit (48 + n)) (λ n. true) 10 (n % 10) refl (omega arith) in
    and_from (starts_with is_digit (ds ++ ((48 + n % 10) ∷ []))) (all is_digit (ds ++ ((48 + n % 10) ∷ []))) (begins-over is_digit ds ((48 + n % 10) ∷ []) k.0) (every-append is_digit ds ((48 + n % 10) ∷ []) k.1 (and_from (is_digit (48 + n % 10)) true d refl)))
    n h

pub arc-lt : (a : ℕ) → is_arc a ≡ true → a < 2 ^ 64
arc-lt a h = let k = ltb-true a (2 ^ 32) h in omega (arith, k)

pub digits-arc : (a : ℕ) → is_arc a ≡ true → is_digits (decimal a) ≡ true
digits-arc a h = let l = arc-lt a h in digits-decimal a (omega (arith, l))
