-- Runs of characters before other text.
use Rattle.std.proofs.Common.{◌≡◌, ◌≢◌, ◌⊎◌, inl, inr, ℕ, zero, suc, ◌<◌, List, [], ◌∷◌, ◌++◌, Bool, true, false, cond, ◌==◌, ◌&&◌, ◌||◌, refl, ap, subst, ◌∙◌, arith, nat_le}
use Rattle.std.proofs.lemmas.Bool.{cases_Bool, eqb-true, and_parts, or_cases, leb-true, cond-true, cond-false, false_from_ne_true}
use Rattle.std.specs.Str.{IsAscii}
use Rattle.avn_grammar.specs.declared.chars.CharClass.{CharClass}
use Rattle.avn_grammar.specs.declared.chars.CharClass.TheVariants as is
use Rattle.avn_grammar.specs.Chars.{class_of_next, class_of_char, take_while, skip_while, skip, is_digit, is_name, is_letter, is_space, starts_with, has_fraction, all}
use Rattle.avn_grammar.specs.Grammar.{ComesAfterValue}
use Rattle.avn_grammar.specs.Print.{indent}
use Rattle.avn_grammar.proofs.Runs.{past-stop, front-stop, fraction-other}

pub front-over : (p : ℕ → Bool) (xs u : List ℕ) → all p xs ≡ true → take_while p (xs ++ u) ≡ xs ++ take_while p u
front-over p [] u h = refl
front-over p (c ∷ xs) u h = let k = and_parts (p c) (all p xs) h in ap (λ b. cond b (c ∷ take_while p (xs ++ u)) []) k.0 ∙ ap (λ x. c ∷ x) (front-over p xs u k.1)

pub past-over : (p : ℕ → Bool) (xs u : List ℕ) → all p xs ≡ true → skip_while p (xs ++ u) ≡ skip_while p u
past-over p [] u h = refl
past-over p (c ∷ xs) u h = let k = and_parts (p c) (all p xs) h in ap (λ b. cond b (skip_while p (xs ++ u)) (c ∷ (xs ++ u))) k.0 ∙ past-over p xs u k.1

nil-append : (xs : List ℕ) → xs ++ [] ≡ xs
nil-append [] = refl
nil-append (x ∷ xs) = ap (λ y. x ∷ y) (nil-append xs)

-- A whole run, and what stops it.
pub front-run : (p : ℕ → Bool) (xs u : List ℕ) → all p xs ≡ true → starts_with p u ≡ false → take_while p (xs ++ u) ≡ xs
front-run p xs u h s = front-over p xs u h ∙ ap (λ x. xs ++ x) (front-stop p u s) ∙ nil-append xs

pub past-run : (p : ℕ → Bool) (xs u : List ℕ) → all p xs ≡ true → starts_with p u ≡ false → skip_while p (xs ++ u) ≡ u
past-run p xs u h s = past-over p xs u h ∙ past-stop p u s

pub skip-indent : (d : ℕ) (u : List ℕ) → skip (indent d ++ u) ≡ skip u
skip-indent zero u = refl
skip-indent (suc d) u = skip-indent d u

pub skip-lead : (u : List ℕ) → class_of_next u ≢ is.Space → skip u ≡ u
unfolding class_of_char
skip-lead [] h = refl
skip-lead (c ∷ u) h = past-stop is_space (c ∷ u) (false_from_ne_true (is_space c) (λ e. h (cond-true (is_space c) _ _ e)))

-- A blank is none of the characters that a test passes which passes no blank.
space_not : (p : ℕ → Bool) (c : ℕ) → p 32 ≡ false → p 9 ≡ false → p 13 ≡ false → p 10 ≡ false → is_space c ≡ true → p c ≡ false
space_not p c a b d e h = elim (or_cases (c == 32 || c == 9 || c == 13) (c == 10) h) [
  | inl k ↦ elim (or_cases (c == 32 || c == 9) (c == 13) k) [
    | inl l ↦ elim (or_cases (c == 32) (c == 9) l) [ inl m ↦ ap p (eqb-true c 32 m) ∙ a | inr m ↦ ap p (eqb-true c 9 m) ∙ b ]
    | inr l ↦ ap p (eqb-true c 13 l) ∙ d
  ]
  | inr k ↦ ap p (eqb-true c 10 k) ∙ e
]

not_space : (p : ℕ → Bool) (c : ℕ) → p 32 ≡ false → p 9 ≡ false → p 13 ≡ false → p 10 ≡ false → p c ≡ true → is_space c ≡ false
not_space p c a b d e h = false_from_ne_true (is_space c) (λ s. let k : p c ≡ false = space_not p c a b d e s in let n : ⊥ = cc in n)

digit_letter : (c : ℕ) → is_digit c ≡ true → is_letter c ≡ true → ⊥
digit_letter c d l =
    let e = and_parts (nat_le 48 c) (nat_le c 57) d in
    let m = leb-true c 57 e.1 in
    elim (or_cases (nat_le 65 c && nat_le c 90) (nat_le 97 c && nat_le c 122) l) [ inl a ↦ let f = leb-true 65 c (and_parts (nat_le 65 c) (nat_le c 90) a).0 in absurd (omega (arith, f, m)) | inr b ↦ let f = leb-true 97 c (and_parts (nat_le 97 c) (nat_le c 122) b).0 in absurd (omega (arith, f, m)) ]

pub letter_lead : (c : ℕ) → is_letter c ≡ true → class_of_char c ≡ is.Letter
unfolding class_of_char
letter_lead c h = cond-false (is_space c) _ _ (not_space is_letter c refl refl refl refl h) ∙ cond-true (is_letter c) _ _ h

pub digit_lead : (c : ℕ) → is_digit c ≡ true → class_of_char c ≡ is.Digit
unfolding class_of_char
digit_lead c h =
    cond-false (is_space c) _ _ (not_space is_digit c refl refl refl refl h) ∙ cond-false (is_letter c) _ _ (false_from_ne_true (is_letter c) (digit_letter c h)) ∙ cond-true (is_digit c) _ _ h

at_lead : (c d : ℕ) → (c == d) ≡ true → class_of_char c ≡ class_of_char d
at_lead c d h = ap class_of_char (eqb-true c d h)

lead-minus : class_of_char 45 ≡ is.Minus
unfolding class_of_char
lead-minus = refl

lead-underscore : class_of_char 95 ≡ is.Underscore
unfolding class_of_char
lead-underscore = refl

lead-point : class_of_char 46 ≡ is.Other
unfolding class_of_char
lead-point = refl

abbrev OfName : CharClass → Type 0
OfName k = (k ≡ is.Letter) ⊎ ((k ≡ is.Digit) ⊎ ((k ≡ is.Minus) ⊎ (k ≡ is.Underscore)))

name_lead : (c : ℕ) → is_name c ≡ true → OfName (class_of_char c)
name_lead c h = elim (or_cases (is_letter c || is_digit c || (c == 45)) (c == 95) h) [
  | inl a ↦ elim (or_cases (is_letter c || is_digit c) (c == 45) a) [
    | inl b ↦ elim (or_cases (is_letter c) (is_digit c) b) [ inl d ↦ inl (letter_lead c d) | inr d ↦ inr (inl (digit_lead c d)) ]
    | inr b ↦ inr (inr (inl (at_lead c 45 b ∙ lead-minus)))
  ]
  | inr a ↦ inr (inr (inr (at_lead c 95 a ∙ lead-underscore)))
]

digit_name : (c : ℕ) → is_name c ≡ false → is_digit c ≡ false
digit_name c h = false_from_ne_true (is_digit c) (λ d. elim (cases_Bool (is_letter c)) [
  | inl l ↦ digit_letter c d l
  | inr l ↦ let e : is_name c ≡ true = ap (λ b. b || is_digit c || (c == 45) || (c == 95)) l ∙ ap (λ b. b || (c == 45) || (c == 95)) d in let n : ⊥ = cc in n
])

-- No run, number or choice goes on here.
pub record After (u : List ℕ) : Type 0 where
  pub no_name : starts_with is_name u ≡ false
  pub no_digit : starts_with is_digit u ≡ false
  pub no_fraction : has_fraction u ≡ false
  pub no_quote : class_of_next u ≢ is.Quote
  pub no_colon : class_of_next (skip u) ≢ is.Colon

not_of_name : (k : CharClass) → ComesAfterValue k → OfName k → ⊥
not_of_name k (inl a) (inl b) = cc
not_of_name k (inl a) (inr (inl b)) = cc
not_of_name k (inl a) (inr (inr (inl b))) = cc
not_of_name k (inl a) (inr (inr (inr b))) = cc
not_of_name k (inr (inl a)) (inl b) = cc
not_of_name k (inr (inl a)) (inr (inl b)) = cc
not_of_name k (inr (inl a)) (inr (inr (inl b))) = cc
not_of_name k (inr (inl a)) (inr (inr (inr b))) = cc
not_of_name k (inr (inr a)) (inl b) = cc
not_of_name k (inr (inr a)) (inr (inl b)) = cc
not_of_name k (inr (inr a)) (inr (inr (inl b))) = cc
not_of_name k (inr (inr a)) (inr (inr (inr b))) = cc

not_colon : (k : CharClass) → ComesAfterValue k → k ≡ is.Colon → ⊥
not_colon k (inl a) b = cc
not_colon k (inr (inl a)) b = cc
not_colon k (inr (inr a)) b = cc

not_quote : (k : CharClass) → ComesAfterValue k → k ≡ is.Quote → ⊥
not_quote k (inl a) b = cc
not_quote k (inr (inl a)) b = cc
not_quote k (inr (inr a)) b = cc

not_other : (k : CharClass) → ComesAfterValue k → k ≡ is.Other → ⊥
not_other k (inl a) b = cc
not_other k (inr (inl a)) b = cc
not_other k (inr (inr a)) b = cc

lead-space : (c : ℕ) → is_space c ≡ true → class_of_char c ≡ is.Space
unfolding class_of_char
lead-space c h = cond-true (is_space c) _ _ h

pub after_of : (u : List ℕ) → ComesAfterValue (class_of_next (skip u)) → After u
after_of [] h = record { no_name = refl; no_digit = refl; no_fraction = refl; no_quote = λ e. let n : ⊥ = cc in n; no_colon = not_colon _ h }
after_of (c ∷ u) h = elim (cases_Bool (is_space c)) [
  | inl s ↦
      let l = lead-space c s in
      record {
        no_name = space_not is_name c refl refl refl refl s;
        no_digit = space_not is_digit c refl refl refl refl s;
        no_fraction = fraction-other (c ∷ u) u c refl (space_not (λ x. x == 46) c refl refl refl refl s);
        no_quote = λ e. let n : ⊥ = cc in n;
        no_colon = not_colon _ h;
      }
  | inr s ↦
      let k : ComesAfterValue (class_of_char c) = subst (λ x. ComesAfterValue (class_of_next x)) (past-stop is_space (c ∷ u) s) h in
      let n : is_name c ≡ false = false_from_ne_true (is_name c) (λ e. not_of_name (class_of_char c) k (name_lead c e)) in
      record {
        no_name = n;
        no_digit = digit_name c n;
        no_fraction = fraction-other (c ∷ u) u c refl (false_from_ne_true (c == 46) (λ e. not_other _ k (at_lead c 46 e ∙ lead-point)));
        no_quote = not_quote _ k;
        no_colon = not_colon _ h;
      }
]

-- What begins a text begins it with more behind.
pub begins-over : (p : ℕ → Bool) (xs u : List ℕ) → starts_with p xs ≡ true → starts_with p (xs ++ u) ≡ true
begins-over p [] u h = let n : ⊥ = cc in absurd n
begins-over p (c ∷ xs) u h = h

pub lead-letter : (xs u : List ℕ) → starts_with is_letter xs ≡ true → class_of_next (xs ++ u) ≡ is.Letter
lead-letter [] u h = let n : ⊥ = cc in absurd n
lead-letter (c ∷ xs) u h = letter_lead c h

pub lead-digit : (xs u : List ℕ) → starts_with is_digit xs ≡ true → class_of_next (xs ++ u) ≡ is.Digit
lead-digit [] u h = let n : ⊥ = cc in absurd n
lead-digit (c ∷ xs) u h = digit_lead c h

-- ASCII.
pub ascii-cons : (c : ℕ) (xs : List ℕ) → c < 128 → IsAscii xs → IsAscii (c ∷ xs)
ascii-cons c xs h a zero = h
ascii-cons c xs h a (suc i) = a i

pub ascii-nil : IsAscii []
ascii-nil i = omega arith

pub ascii-every : (p : ℕ → Bool) → ((c : ℕ) → p c ≡ true → c < 128) → (xs : List ℕ) → all p xs ≡ true → IsAscii xs
ascii-every p h [] e = ascii-nil
ascii-every p h (c ∷ xs) e = let k = and_parts (p c) (all p xs) e in ascii-cons c xs (h c k.0) (ascii-every p h xs k.1)

pub digit-low : (c : ℕ) → is_digit c ≡ true → c < 128
digit-low c h = let m = leb-true c 57 (and_parts (nat_le 48 c) (nat_le c 57) h).1 in omega (arith, m)

pub name-low : (c : ℕ) → is_name c ≡ true → c < 128
name-low c h = elim (or_cases (is_letter c || is_digit c || (c == 45)) (c == 95) h) [
  | inl a ↦ elim (or_cases (is_letter c || is_digit c) (c == 45) a) [
    | inl b ↦ elim (or_cases (is_letter c) (is_digit c) b) [
      | inl d ↦ elim (or_cases (nat_le 65 c && nat_le c 90) (nat_le 97 c && nat_le c 122) d) [
        | inl x ↦ let m = leb-true c 90 (and_parts (nat_le 65 c) (nat_le c 90) x).1 in omega (arith, m)
        | inr x ↦ let m = leb-true c 122 (and_parts (nat_le 97 c) (nat_le c 122) x).1 in omega (arith, m)
      ]
      | inr d ↦ digit-low c d
    ]
    | inr b ↦ let e = eqb-true c 45 b in omega (arith, e)
  ]
  | inr a ↦ let e = eqb-true c 95 a in omega (arith, e)
]
