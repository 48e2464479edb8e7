-- Digits of octets, an octet or a chunk at a time.
use Rattle.std.proofs.Common.{◌≡◌, ℕ, zero, suc, ◌+◌, ◌-◌, ◌*◌, ◌/◌, ◌%◌, ◌<◌, List, [], ◌∷◌, ◌++◌, true, false, cond, nat_lt, ◌==◌, inl, inr, refl, sym, ap, ◌∙◌, take, get_or, length, length-take-le, arith, append_assoc, set}
use Rattle.std.specs.Fmt.{decimal}
use Rattle.std.proofs.lemmas.List.{take_more, take_more_set, length-set, append-nil}
use Rattle.std.proofs.lemmas.Bool.{or_cases, eqb-true}
use Rattle.std.specs.Str.{IsAscii}
use Rattle.avn_grammar.proofs.RunsBefore.{ascii-every, ascii-cons, ascii-nil}
use Rattle.avn_grammar.specs.Octets.{hex_digit, hex_text, bit_digit, bit_text, is_bit}
use Rattle.avn_grammar.specs.Print.{arc_text}
use Rattle.avn_grammar.proofs.Digits.{every-take, bit_text-bits, length-bit_text}

hex-low : (n : ℕ) → n < 16 → hex_digit n < 128
hex-low n h = elim (nat_lt n 10) as (λ b. cond b (48 + n) (55 + n) < 128) [ true ↦ omega arith | false ↦ omega arith ]

-- The hexadecimal digits of octets are ASCII.
pub hex-ascii : (xs : List ℕ) → ((i : ℕ) → get_or xs i 0 < 256) → IsAscii (hex_text xs)
hex-ascii [] h = ascii-nil
hex-ascii (x ∷ xs) h = ascii-cons (hex_digit (x / 16)) (hex_digit (x % 16) ∷ hex_text xs) (hex-low (x / 16) (omega (arith, h 0))) (ascii-cons (hex_digit (x % 16)) (hex_text xs) (hex-low (x % 16) (omega arith)) (hex-ascii xs (λ i. h (suc i))))

hex_text-append : (xs ys : List ℕ) → hex_text (xs ++ ys) ≡ hex_text xs ++ hex_text ys
hex_text-append [] ys = refl
hex_text-append (x ∷ xs) ys = ap (λ z. hex_digit (x / 16) ∷ hex_digit (x % 16) ∷ z) (hex_text-append xs ys)

-- Two digits more in a buffer.
two-more : (d : List ℕ) (n a b : ℕ) → n + 1 < length d → take (n + 2) (set (set d n a) (n + 1) b) ≡ take n d ++ (a ∷ b ∷ [])
two-more d n a b h =
    let e : n + 2 ≡ (n + 1) + 1 = omega arith in
    let l : n + 1 < length (set d n a) = omega (arith, h, length-set d n a) in
    let f : n < length d = omega (arith, h) in
    ap (λ k. take k (set (set d n a) (n + 1) b)) e ∙ take_more_set (set d n a) (n + 1) b l ∙ ap (λ x. x ++ (b ∷ [])) (take_more_set d n a f) ∙ append_assoc (take n d) (a ∷ []) (b ∷ [])

pub hex-more : (xs d : List ℕ) (i n a b : ℕ) → i < length xs → n + 1 < length d → take n d ≡ hex_text (take i xs) → a ≡ hex_digit (get_or xs i 0 / 16) → b ≡ hex_digit (get_or xs i 0 % 16)
    → take (n + 2) (set (set d n a) (n + 1) b) ≡ hex_text (take (i + 1) xs)
hex-more xs d i n a b h l e p q =
    let o = get_or xs i 0 in
    two-more d n a b l ∙ ap (λ x. x ++ (a ∷ b ∷ [])) e ∙ ap (λ x. hex_text (take i xs) ++ (x ∷ b ∷ [])) p ∙ ap (λ x. hex_text (take i xs) ++ (hex_digit (o / 16) ∷ x ∷ [])) q
    ∙ sym (ap hex_text (take_more xs i 0 h) ∙ hex_text-append (take i xs) (o ∷ []))

-- The digits of octets, a chunk on.
pub chunk-next : (a r x s w : List ℕ) → a ++ hex_text r ≡ w → r ≡ x ++ s → (a ++ hex_text x) ++ hex_text s ≡ w
chunk-next a r x s w h e = append_assoc a (hex_text x) (hex_text s) ∙ ap (λ z. a ++ z) (sym (ap hex_text e ∙ hex_text-append x s)) ∙ h

bit_text-append : (xs ys : List ℕ) → bit_text (xs ++ ys) ≡ bit_text xs ++ bit_text ys
unfolding bit_text
bit_text-append [] ys = refl
bit_text-append (x ∷ xs) ys =
    ap (λ z. bit_digit 128 x ∷ bit_digit 64 x ∷ bit_digit 32 x ∷ bit_digit 16 x ∷ bit_digit 8 x ∷ bit_digit 4 x ∷ bit_digit 2 x ∷ bit_digit 1 x ∷ z) (bit_text-append xs ys)

pub take-append : (n : ℕ) (xs ys : List ℕ) → take n (xs ++ ys) ≡ take n xs ++ take (n - length xs) ys
take-append zero xs ys = let e : 0 ≡ 0 - length xs = omega arith in ap (λ k. take k ys) e
take-append (suc n) [] ys = let e : suc n ≡ suc n - 0 = omega arith in ap (λ k. take k ys) e
take-append (suc n) (x ∷ xs) ys = let e : n - length xs ≡ suc n - length (x ∷ xs) = omega arith in ap (λ z. x ∷ z) (take-append n xs ys ∙ ap (λ k. take n xs ++ take k ys) e)

pub no-bits : (n : ℕ) → [] ≡ take n (bit_text [])
unfolding bit_text
no-bits zero = refl
no-bits (suc n) = refl

pub bits-more : (n m : ℕ) (xs : List ℕ) (i : ℕ) → i < length xs → m ≡ n - 8 * i → take n (bit_text (take i xs)) ++ take m (bit_text (get_or xs i 0 ∷ [])) ≡ take n (bit_text (take (i + 1) xs))
bits-more n m xs i h e =
    let l : length (bit_text (take i xs)) ≡ 8 * i = omega (arith, length-bit_text (take i xs), length-take-le i xs) in
    let left : n - length (bit_text (take i xs)) ≡ m = omega (arith, l, e) in
    sym (ap (λ x. take n (bit_text x)) (take_more xs i 0 h) ∙ ap (take n) (bit_text-append (take i xs) (get_or xs i 0 ∷ [])) ∙ take-append n (bit_text (take i xs)) (bit_text (get_or xs i 0 ∷ []))
    ∙ ap (λ k. take n (bit_text (take i xs)) ++ take k (bit_text (get_or xs i 0 ∷ []))) left)

bit-low : (c : ℕ) → is_bit c ≡ true → c < 128
bit-low c h = elim (or_cases (c == 48) (c == 49) h) [ inl a ↦ omega (arith, eqb-true c 48 a) | inr a ↦ omega (arith, eqb-true c 49 a) ]

-- The first binary digits of an octet are ASCII.
pub bits-ascii : (n o : ℕ) → IsAscii (take n (bit_text (o ∷ [])))
bits-ascii n o = ascii-every is_bit bit-low (take n (bit_text (o ∷ []))) (every-take is_bit n (bit_text (o ∷ [])) (bit_text-bits (o ∷ [])))

arc_text-append : (xs ys : List ℕ) → arc_text (xs ++ ys) ≡ arc_text xs ++ arc_text ys
arc_text-append [] ys = refl
arc_text-append (x ∷ xs) ys = ap (λ z. (32 ∷ decimal x) ++ z) (arc_text-append xs ys) ∙ sym (append_assoc (32 ∷ decimal x) (arc_text xs) (arc_text ys))

pub arcs-more : (xs : List ℕ) (i : ℕ) → i < length xs → arc_text (take i xs) ++ (32 ∷ decimal (get_or xs i 0)) ≡ arc_text (take (i + 1) xs)
arcs-more xs i h =
    sym (ap arc_text (take_more xs i 0 h) ∙ arc_text-append (take i xs) (get_or xs i 0 ∷ []) ∙ ap (λ z. arc_text (take i xs) ++ z) (append-nil (32 ∷ decimal (get_or xs i 0))))
