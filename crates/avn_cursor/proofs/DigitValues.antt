-- Hexadecimal digits that are read, by their values.
use Rattle.std.specs.Prelude.{not, nat_lt, nat_le, is_some, IfSome, IfOk, MatchOption, Result, Ok, Err}
use Rattle.std.proofs.Common.{◌≡◌, inl, inr, ℕ, suc, ◌+◌, ◌*◌, ◌/◌, ◌%◌, ◌<◌, List, [], ◌∷◌, ◌++◌, Bool, true, false, cond, ◌==◌, ◌&&◌, ◌||◌, refl, sym, ap, ◌∙◌, length, length-append, take, set, Option, Some, None, map, arith, subst, append_assoc}
use Rattle.std.proofs.lemmas.Bool.{eqb-true, leb-true, and_parts, and_from, or_cases, cond-true, agree_below_at, false_from_ne_true}
use Rattle.std.proofs.lemmas.List.{append-nil, map-append, take_more_set}
use Rattle.std.specs.Char.{is_whitespace}
use Rattle.avn_grammar.specs.Chars.{take_while, skip_while, starts_with, is_digit, is_not_apostrophe, without_whitespace, all}
use Rattle.avn_grammar.specs.Octets.{is_hex, hex_value, are_pairs, octets_of, is_bit, packed}
use Rattle.avn_grammar.proofs.Runs.{front-stop, front-step, past-stop, past-step}
use Rattle.avn_grammar.proofs.Digits.{every-weaken}
use Rattle.avn_cursor.proofs.BitPairs.{packed_filled, bits_filled}
use Rattle.avn_cursor.specs.HexDigits.{digit_values, odd_value, binary_digits, is_bit_value, inside, TakesDigits}

-- A hexadecimal digit is ASCII.
hex-below : (c : ℕ) → is_hex c ≡ true → c < 103
hex-below c h = elim (or_cases (is_digit c || (nat_le 65 c && nat_le c 70)) (nat_le 97 c && nat_le c 102) h) [
  | inl r ↦
      elim (or_cases (is_digit c) (nat_le 65 c && nat_le c 70) r) [
        | inl d ↦ let e = leb-true c 57 (and_parts (nat_le 48 c) (nat_le c 57) d).1 in omega (arith, e)
        | inr u ↦ let e = leb-true c 70 (and_parts (nat_le 65 c) (nat_le c 70) u).1 in omega (arith, e)
      ]
  | inr l ↦ let e = leb-true c 102 (and_parts (nat_le 97 c) (nat_le c 102) l).1 in omega (arith, e)
]

hex-solid : (c : ℕ) → is_hex c ≡ true → not (is_whitespace c) ≡ true
hex-solid c h = sym (ap (λ b. b && not (is_whitespace c)) h) ∙ agree_below_at (λ n. is_hex n && not (is_whitespace n)) is_hex 103 c refl (hex-below c h) ∙ h

hex-inside : (c : ℕ) → is_hex c ≡ true → is_not_apostrophe c ≡ true
hex-inside c h = sym (ap (λ b. b && is_not_apostrophe c) h) ∙ agree_below_at (λ n. is_hex n && is_not_apostrophe n) is_hex 103 c refl (hex-below c h) ∙ h

hex-value : (c : ℕ) → is_hex c ≡ true → hex_value c < 16
hex-value c h =
    let e : nat_lt (hex_value c) 16 ≡ true = sym (ap (λ b. b && nat_lt (hex_value c) 16) h) ∙ agree_below_at (λ n. is_hex n && nat_lt (hex_value n) 16) is_hex 103 c refl (hex-below c h) ∙ h in
    leb-true (suc (hex_value c)) 16 e

hex-bit : (c : ℕ) → is_hex c ≡ true → is_bit_value (hex_value c) ≡ is_bit c
hex-bit c h =
    sym (ap (λ b. b && is_bit_value (hex_value c)) h) ∙ agree_below_at (λ n. is_hex n && is_bit_value (hex_value n)) (λ n. is_hex n && is_bit n) 103 c refl (hex-below c h) ∙ ap (λ b. b && is_bit c) h

solid-one : (c : ℕ) → not (is_whitespace c) ≡ true → without_whitespace (c ∷ []) ≡ c ∷ []
solid-one c h = cond-true (not (is_whitespace c)) (c ∷ []) [] h

solid-first : (c : ℕ) (u : List ℕ) → without_whitespace (c ∷ u) ≡ without_whitespace (c ∷ []) ++ without_whitespace u
solid-first c u = elim (not (is_whitespace c)) as (λ b. cond b (c ∷ without_whitespace u) (without_whitespace u) ≡ cond b (c ∷ []) [] ++ without_whitespace u) [ true ↦ refl | false ↦ refl ]

inside-step : (u v : List ℕ) (c : ℕ) → is_not_apostrophe c ≡ true → u ≡ c ∷ v → inside u ≡ without_whitespace (c ∷ []) ++ inside v
inside-step u v c h e = ap without_whitespace (front-step is_not_apostrophe u v c h e) ∙ solid-first c (take_while is_not_apostrophe v)

all-append : (p : ℕ → Bool) (xs ys : List ℕ) → all p xs ≡ true → all p (xs ++ ys) ≡ all p ys
all-append p [] ys h = refl
all-append p (x ∷ xs) ys h = let k = and_parts (p x) (all p xs) h in ap (λ b. b && all p (xs ++ ys)) k.0 ∙ all-append p xs ys k.1

all-fails : (p : ℕ → Bool) (xs ys : List ℕ) → all p xs ≡ false → all p (xs ++ ys) ≡ false
all-fails p [] ys h = let n : ⊥ = cc in absurd n
all-fails p (x ∷ xs) ys h = (elim (p x) as (λ b. (b && all p xs) ≡ false → (b && all p (xs ++ ys)) ≡ false) [ true ↦ λ e. all-fails p xs ys e | false ↦ λ e. refl ]) h

-- A character that is a digit or white space was taken.
pub takes_char : (old new u v : List ℕ) (c : ℕ) → is_not_apostrophe c ≡ true → u ≡ c ∷ v → all is_hex (without_whitespace (c ∷ [])) ≡ true → new ≡ old ++ map hex_value (without_whitespace (c ∷ [])) → TakesDigits old u new v
takes_char old new u v c h e g f =
    let s = inside-step u v c h e in
    let cs = without_whitespace (c ∷ []) in record {
      past = sym (past-step is_not_apostrophe u v c h e);
      valid = sym (ap (all is_hex) s ∙ all-append is_hex cs (inside v) g);
      values = ap (λ x. x ++ map hex_value (inside v)) f ∙ append_assoc old (map hex_value cs) (map hex_value (inside v)) ∙ ap (λ x. old ++ x) (sym (ap (map hex_value) s ∙ map-append hex_value cs (inside v)));
    }

-- A digit was taken.
pub takes_one : (u v : List ℕ) (c d : ℕ) → is_hex c ≡ true → d ≡ hex_value c → u ≡ c ∷ v → TakesDigits [] u (d ∷ []) v
takes_one u v c d h f e =
    let s = solid-one c (hex-solid c h) in
    takes_char [] (d ∷ []) u v c (hex-inside c h) e (ap (all is_hex) s ∙ ap (λ b. b && true) h) (ap (λ x. x ∷ []) f ∙ sym (ap (map hex_value) s))

-- Nothing was taken.
pub takes_none : (old u new v : List ℕ) → new ≡ old → v ≡ u → TakesDigits old u new v
takes_none old u new v e f = record {
  past = ap (skip_while is_not_apostrophe) f;
  valid = ap (λ x. all is_hex (inside x)) f;
  values = ap (λ x. x ++ map hex_value (inside v)) e ∙ ap (λ x. old ++ map hex_value (inside x)) f;
}

-- One taking after another.
pub takes_then : {a u b v c w : List ℕ} → TakesDigits a u b v → TakesDigits b v c w → TakesDigits a u c w
takes_then p q = record { past = q.past ∙ p.past; valid = q.valid ∙ p.valid; values = q.values ∙ p.values }

-- A taking after values that were there before.
pub takes_after : (a c d v w : List ℕ) → TakesDigits [] v c w → d ≡ a ++ c → TakesDigits a v d w
takes_after a c d v w q e = record {
  past = q.past;
  valid = q.valid;
  values = ap (λ x. x ++ map hex_value (inside w)) e ∙ append_assoc a c (map hex_value (inside w)) ∙ ap (λ x. a ++ x) q.values;
}

-- Everything up to an apostrophe was taken.
pub all_taken : (a u b v : List ℕ) → TakesDigits a u b v → starts_with is_not_apostrophe v ≡ false → (v ≡ skip_while is_not_apostrophe u) × (true ≡ all is_hex (inside u)) × (b ≡ a ++ map hex_value (inside u))
all_taken a u b v q h =
    let e : inside v ≡ [] = ap without_whitespace (front-stop is_not_apostrophe v h) in
    (sym (past-stop is_not_apostrophe v h) ∙ q.past, sym (ap (all is_hex) e) ∙ q.valid, sym (append-nil b) ∙ ap (λ x. b ++ map hex_value x) (sym e) ∙ q.values)

-- A character that is neither a digit nor white space is ahead.
pub not_taken : (a u b v w : List ℕ) (c : ℕ) → TakesDigits a u b v → is_not_apostrophe c ≡ true → v ≡ c ∷ w → all is_hex (without_whitespace (c ∷ [])) ≡ false → false ≡ all is_hex (inside u)
not_taken a u b v w c q h e g = sym (ap (all is_hex) (inside-step v w c h e) ∙ all-fails is_hex (without_whitespace (c ∷ [])) (inside w) g) ∙ q.valid

values-append : (xs ys : List ℕ) → digit_values (xs ++ ys) ≡ digit_values xs ++ digit_values ys
values-append [] ys = refl
values-append (x ∷ xs) ys = ap (λ z. x / 16 ∷ x % 16 ∷ z) (values-append xs ys)

-- The octets with one more of two digits.
pub pair_more : (os ps : List ℕ) (h l o : ℕ) → h < 16 → l < 16 → o ≡ 16 * h + l → ps ≡ os ++ (o ∷ []) → digit_values ps ≡ digit_values os ++ (h ∷ l ∷ [])
pair_more os ps h l o p q e f =
    let high : o / 16 ≡ h = omega (arith, e, p, q) in
    let low : o % 16 ≡ l = omega (arith, e, p, q) in
    ap digit_values f ∙ values-append os (o ∷ []) ∙ ap (λ x. digit_values os ++ (x ∷ o % 16 ∷ [])) high ∙ ap (λ x. digit_values os ++ (h ∷ x ∷ [])) low

-- The digits that octets of a chunk are, after others.
pub chunk_values : (os ps xs ys zs : List ℕ) → ps ≡ os ++ xs → xs ≡ ys → digit_values ps ++ zs ≡ digit_values os ++ (digit_values ys ++ zs)
chunk_values os ps xs ys zs e f = ap (λ x. digit_values x ++ zs) (e ∙ ap (λ x. os ++ x) f) ∙ ap (λ x. x ++ zs) (values-append os ys) ∙ append_assoc (digit_values os) (digit_values ys) zs

-- The digits of pairs that were written, with one pair more.
pub room_more : (room : List ℕ) (n h l o : ℕ) → n < length room → h < 16 → l < 16 → o ≡ 16 * h + l → digit_values (take (n + 1) (set room n o)) ≡ (digit_values (take n room) ++ (h ∷ [])) ++ (l ∷ [])
room_more room n h l o k p q e = pair_more (take n room) (take (n + 1) (set room n o)) h l o p q e (take_more_set room n o k) ∙ sym (append_assoc (digit_values (take n room)) (h ∷ []) (l ∷ []))

-- Two for each octet.
pub values-length : (os : List ℕ) → length (digit_values os) ≡ 2 * length os
values-length [] = omega arith
values-length (o ∷ os) = omega (arith, values-length os)

-- Digits that are octets are pairs, and no others.
pub values_pairs : (ds os : List ℕ) → all is_hex ds ≡ true → map hex_value ds ≡ digit_values os → (are_pairs ds ≡ true) × (os ≡ octets_of ds)
values_pairs [] [] h e = (refl, refl)
values_pairs [] (o ∷ os) h e = let n : ⊥ = cc in absurd n
values_pairs (a ∷ []) [] h e = let n : ⊥ = cc in absurd n
values_pairs (a ∷ []) (o ∷ os) h e = let n : ⊥ = cc in absurd n
values_pairs (a ∷ b ∷ ds) [] h e = let n : ⊥ = cc in absurd n
values_pairs (a ∷ b ∷ ds) (o ∷ os) h e =
    let k = and_parts (is_hex a) (is_hex b && all is_hex ds) h in
    let m = and_parts (is_hex b) (all is_hex ds) k.1 in
    let p : hex_value a ≡ o / 16 = cc in
    let q : hex_value b ≡ o % 16 = cc in
    let t : map hex_value ds ≡ digit_values os = cc in
    let r = values_pairs ds os m.1 t in
    let s : o ≡ 16 * hex_value a + hex_value b = omega (arith, p, q) in
    (and_from (is_hex a && is_hex b) (are_pairs ds) (and_from (is_hex a) (is_hex b) k.0 m.0) r.0, ap (λ x. x ∷ os) s ∙ ap (λ x. (16 * hex_value a + hex_value b) ∷ x) r.1)

pairs-values : (ds : List ℕ) → are_pairs ds ≡ true → map hex_value ds ≡ digit_values (octets_of ds)
pairs-values [] h = refl
pairs-values (a ∷ []) h = let n : ⊥ = cc in absurd n
pairs-values (a ∷ b ∷ ds) h =
    let k = and_parts (is_hex a && is_hex b) (are_pairs ds) h in
    let m = and_parts (is_hex a) (is_hex b) k.0 in
    let p = hex-value a m.0 in
    let q = hex-value b m.1 in
    let o = 16 * hex_value a + hex_value b in
    let high : hex_value a ≡ o / 16 = omega (arith, p, q) in
    let low : hex_value b ≡ o % 16 = omega (arith, p, q) in
    ap (λ x. x ∷ hex_value b ∷ map hex_value ds) high ∙ ap (λ x. o / 16 ∷ x ∷ map hex_value ds) low ∙ ap (λ x. o / 16 ∷ o % 16 ∷ x) (pairs-values ds k.1)

pub values_unpaired : (ds vs : List ℕ) → vs ≡ map hex_value ds → ((os : List ℕ) → vs ≡ digit_values os → ⊥) → are_pairs ds ≡ false
values_unpaired ds vs e n = false_from_ne_true (are_pairs ds) (λ p. n (octets_of ds) (e ∙ pairs-values ds p))

pairs-hex : (ds : List ℕ) → are_pairs ds ≡ true → all is_hex ds ≡ true
pairs-hex [] h = refl
pairs-hex (a ∷ []) h = let n : ⊥ = cc in absurd n
pairs-hex (a ∷ b ∷ ds) h =
    let k = and_parts (is_hex a && is_hex b) (are_pairs ds) h in
    let m = and_parts (is_hex a) (is_hex b) k.0 in
    and_from (is_hex a) (is_hex b && all is_hex ds) m.0 (and_from (is_hex b) (all is_hex ds) m.1 (pairs-hex ds k.1))

bit-hex : (c : ℕ) → is_bit c ≡ true → is_hex c ≡ true
bit-hex c h = elim (or_cases (c == 48) (c == 49) h) [ inl a ↦ ap is_hex (eqb-true c 48 a) | inr a ↦ ap is_hex (eqb-true c 49 a) ]

-- What is no hexadecimal digits is neither pairs nor bits.
pub unpaired : (ds : List ℕ) → false ≡ all is_hex ds → are_pairs ds ≡ false
unpaired ds h = false_from_ne_true (are_pairs ds) (λ p. let e = pairs-hex ds p in let n : ⊥ = cc in n)

pub no_bits : (ds : List ℕ) → false ≡ all is_hex ds → all is_bit ds ≡ false
no_bits ds h = false_from_ne_true (all is_bit ds) (λ p. let e = every-weaken is_bit is_hex bit-hex ds p in let n : ⊥ = cc in n)

-- Digits are binary where their values are.
pub values_bits : (ds : List ℕ) → all is_hex ds ≡ true → all is_bit_value (map hex_value ds) ≡ all is_bit ds
values_bits [] h = refl
values_bits (c ∷ ds) h =
    let k = and_parts (is_hex c) (all is_hex ds) h in
    ap (λ b. b && all is_bit_value (map hex_value ds)) (hex-bit c k.0) ∙ ap (λ b. is_bit c && b) (values_bits ds k.1)

bit-digit : (c : ℕ) → is_bit c ≡ true → 48 + hex_value c ≡ c
bit-digit c h = elim (or_cases (c == 48) (c == 49) h) [
  | inl a ↦ let e = eqb-true c 48 a in ap (λ x. 48 + hex_value x) e ∙ sym e
  | inr a ↦ let e = eqb-true c 49 a in ap (λ x. 48 + hex_value x) e ∙ sym e
]

pub values_digits : (ds : List ℕ) → all is_bit ds ≡ true → binary_digits (map hex_value ds) ≡ ds
values_digits [] h = refl
values_digits (c ∷ ds) h = let k = and_parts (is_bit c) (all is_bit ds) h in ap (λ x. x ∷ binary_digits (map hex_value ds)) (bit-digit c k.0) ∙ ap (λ x. c ∷ x) (values_digits ds k.1)

-- What an odd digit is below.
odd-below : (odd : Option ℕ) (h : ℕ) → odd ≡ Some h → IfSome odd (λ v. v < 16) → h < 16
odd-below odd h f b = subst (λ o. IfSome o (λ v. v < 16)) f b

-- The second digit of an octet.
pub second_added : (os ps now : List ℕ) (odd : Option ℕ) (h v : ℕ) → now ≡ digit_values os ++ odd_value odd → odd ≡ Some h → IfSome odd (λ x. x < 16) → v < 16 → ps ≡ os ++ ((16 * h + v) ∷ []) → digit_values ps ++ odd_value None ≡ now ++ (v ∷ [])
second_added os ps now odd h v e f b k g =
    append-nil (digit_values ps) ∙ pair_more os ps h v (16 * h + v) (odd-below odd h f b) k refl g ∙ sym (append_assoc (digit_values os) (h ∷ []) (v ∷ []))
    ∙ ap (λ x. x ++ (v ∷ [])) (sym (e ∙ ap (λ o. digit_values os ++ odd_value o) f))

-- The digits of a chunk after those that were read.
pub chunk_added : (os ps room now : List ℕ) (odd more : Option ℕ) (n : ℕ) → now ≡ digit_values os ++ odd_value odd → is_some odd ≡ false → ps ≡ os ++ take n room → digit_values ps ++ odd_value more ≡ now ++ (digit_values (take n room) ++ odd_value more)
chunk_added os ps room now (Some h) more n e f g = let n : ⊥ = cc in absurd n
chunk_added os ps room now None more n e f g = chunk_values os ps (take n room) (take n room) (odd_value more) g refl ∙ ap (λ x. x ++ (digit_values (take n room) ++ odd_value more)) (sym (e ∙ append-nil (digit_values os)))

-- Digits of which one is odd are no octets.
pub odd_octets : (os now : List ℕ) (odd : Option ℕ) (h : ℕ) → now ≡ digit_values os ++ odd_value odd → odd ≡ Some h → (qs : List ℕ) → now ≡ digit_values qs → ⊥
odd_octets os now odd h e f qs g =
    let l : digit_values os ++ (h ∷ []) ≡ digit_values qs = sym (e ∙ ap (λ o. digit_values os ++ odd_value o) f) ∙ g in
    omega (arith, ap length l, length-append (digit_values os) (h ∷ []), values-length os, values-length qs)

-- How many digits there are.
pub digits_length : (os now : List ℕ) (odd : Option ℕ) (n k : ℕ) → now ≡ digit_values os ++ odd_value odd → n ≡ length os → k ≡ cond (is_some odd) 1 0 → 2 * n + k ≡ length now
digits_length os now None n k e f g = omega (arith, ap length e, length-append (digit_values os) [], values-length os, f, g)
digits_length os now (Some h) n k e f g = omega (arith, ap length e, length-append (digit_values os) (h ∷ []), values-length os, f, g)

-- Digits of which an odd one was filled up with a digit 0.
pub record Filled (now : List ℕ) (ps : List ℕ) : Type 0 where
  pub bits : all is_bit_value (digit_values ps) ≡ all is_bit_value now
  pub octets : packed (binary_digits (digit_values ps)) ≡ packed (binary_digits now)

pub filled_up : (os ps now : List ℕ) (odd : Option ℕ) (h : ℕ) → now ≡ digit_values os ++ odd_value odd → odd ≡ Some h → IfSome odd (λ x. x < 16) → ps ≡ os ++ ((16 * h) ∷ []) → Filled now ps
filled_up os ps now odd h e f b g =
    let s : 16 * h ≡ 16 * h + 0 = omega arith in
    let z : 0 < 16 = omega arith in
    let p = pair_more os ps h 0 (16 * h) (odd-below odd h f b) z s g in
    let q : now ≡ digit_values os ++ (h ∷ []) = e ∙ ap (λ o. digit_values os ++ odd_value o) f in record {
      bits = ap (all is_bit_value) p ∙ bits_filled (digit_values os) h ∙ ap (all is_bit_value) (sym q);
      octets = ap (λ x. packed (binary_digits x)) p ∙ packed_filled os h ∙ ap (λ x. packed (binary_digits x)) (sym q);
    }

pub filled_already : (os now : List ℕ) (odd : Option ℕ) → now ≡ digit_values os ++ odd_value odd → odd ≡ None → Filled now os
filled_already os now odd e f =
    let q : digit_values os ≡ now = sym (e ∙ ap (λ o. digit_values os ++ odd_value o) f ∙ append-nil (digit_values os)) in record {
      bits = ap (all is_bit_value) q;
      octets = ap (λ x. packed (binary_digits x)) q;
    }

-- The octets of filled digits are those of the digits.
pub bits_found : {A E : Type 0} (now ps qs : List ℕ) (r : Result (Option A) E) (items : A → List ℕ) → Filled now ps → qs ≡ ps
    → IfOk r (λ found. MatchOption found (all is_bit_value (digit_values qs) ≡ false) (λ octets. (all is_bit_value (digit_values qs) ≡ true) × (items octets ≡ packed (binary_digits (digit_values qs)))))
    → IfOk r (λ found. MatchOption found (all is_bit_value now ≡ false) (λ octets. (all is_bit_value now ≡ true) × (items octets ≡ packed (binary_digits now))))
bits_found now ps qs (Err e) items f s h = h
bits_found now ps qs (Ok None) items f s h = sym (ap (λ x. all is_bit_value (digit_values x)) s ∙ f.bits) ∙ h
bits_found now ps qs (Ok (Some a)) items f s h = (sym (ap (λ x. all is_bit_value (digit_values x)) s ∙ f.bits) ∙ h.0, h.1 ∙ ap (λ x. packed (binary_digits (digit_values x))) s ∙ f.octets)
