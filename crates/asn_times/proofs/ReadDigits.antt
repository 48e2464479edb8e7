-- Reading digits gives exactly the numbers that are written by those digits.
use Rattle.std.proofs.Common.{◌≡◌, ℕ, ◌+◌, ◌-◌, ◌*◌, ◌/◌, ◌%◌, ◌<◌, ◌≤◌, true, false, cond, ◌&&◌, ◌==◌, nat_lt, List, [], ◌∷◌, ◌++◌, Option, None, Some, is_some, refl, sym, ap, ◌∙◌, true≢false, arith}
use Rattle.std.proofs.lemmas.Bool.Decides.{nat_tests}
use Rattle.std.specs.Cmp.{first_so, second_so}
use Rattle.std.specs.Option.{option_map}
use Rattle.asn_times.specs.Digits.{two_digits, four_digits}
use Rattle.asn_times.specs.Reading.{bind, is_digit, two, four}

-- A number with what follows it.
abbrev pub given : ℕ → List ℕ → Option (ℕ × List ℕ)
given n rest = Some (n, rest)

pub none_some : {X : Type 0} (x : X) → None ≡ Some x → ⊥
none_some x e = true≢false (sym (ap is_some e))

value_or : {X : Type 0} → X → Option X → X
value_or d None = d
value_or d (Some x) = x

pub same_some : {X : Type 0} (x y : X) → Some x ≡ Some y → x ≡ y
unfolding value_or
same_some x y e = ap (value_or x) e

pub some_pair : (a b : ℕ) (c d : List ℕ) → given a c ≡ given b d → (a ≡ b) × (c ≡ d)
some_pair a b c d e = (ap (λ o. first o) e, ap (λ o. second o) e)
  where
    first : Option (ℕ × List ℕ) → ℕ
    first None = 0
    first (Some p) = p.0

    second : Option (ℕ × List ℕ) → List ℕ
    second None = []
    second (Some p) = p.1

pub bind-some : {A B : Type 0} (o : Option A) (f : A → Option B) (b : B) → bind o f ≡ Some b → (a : A) × (o ≡ Some a) × (f a ≡ Some b)
bind-some None f b e = absurd (none_some b e)
bind-some (Some a) f b e = (a, refl, e)

pub map-some : {A B : Type 0} (o : Option A) (f : A → B) (b : B) → option_map f o ≡ Some b → (a : A) × (o ≡ Some a) × (b ≡ f a)
map-some None f b e = absurd (none_some b e)
map-some (Some a) f b e = (a, refl, sym (same_some (f a) b e))

-- Tests on numbers, as orders and equations.
pub below : (a b : ℕ) → nat_lt a b ≡ true → a < b
below a b t = grind (arith, nat_tests)

pub is_below : (a b : ℕ) → a < b → nat_lt a b ≡ true
is_below a b t = grind (arith, nat_tests)

pub same_number : (a b : ℕ) → (a == b) ≡ true → a ≡ b
same_number a b t = grind (arith, nat_tests)

pub digit_range : (b : ℕ) → is_digit b ≡ true → (48 ≤ b) × (b < 58)
digit_range b h = grind (arith, nat_tests)

-- Two digits give their number back.
pub two-two_digits : (n : ℕ) → n < 100 → (rest : List ℕ) → two (two_digits n ++ rest) ≡ Some (n, rest)
two-two_digits n small rest =
    let first : is_digit (48 + n / 10) ≡ true = grind (arith, nat_tests) in
    let second : is_digit (48 + n % 10) ≡ true = grind (arith, nat_tests) in
    let both : (is_digit (48 + n / 10) && is_digit (48 + n % 10)) ≡ true = λ i. first i && second i in
    let value : ((48 + n / 10) - 48) * 10 + ((48 + n % 10) - 48) ≡ n = omega arith in
    (λ i. cond (both i) (Some (((48 + n / 10) - 48) * 10 + ((48 + n % 10) - 48), rest)) None) ∙ ap (λ m. Some (m, rest)) value

-- What two digits give stands there.
pub two-is : (text : List ℕ) (n : ℕ) (rest : List ℕ) → two text ≡ given n rest → (n < 100) × (text ≡ two_digits n ++ rest)
two-is [] n rest e = absurd (true≢false (sym (ap is_some e)))
two-is (a ∷ []) n rest e = absurd (true≢false (sym (ap is_some e)))
two-is (a ∷ b ∷ bs) n rest e =
    elim (is_digit a && is_digit b) as (λ t. (is_digit a && is_digit b) ≡ t → cond t (given ((a - 48) * 10 + (b - 48)) bs) None ≡ given n rest → (n < 100) × (a ∷ b ∷ bs ≡ two_digits n ++ rest)) [
      | true ↦ λ t h.
          let p = digits t in
          let q = some_pair _ _ _ _ h in
          let is : (a - 48) * 10 + (b - 48) ≡ n = q.0 in
          let x : a ≡ 48 + n / 10 = omega (arith, p.0, p.1) in
          let y : b ≡ 48 + n % 10 = omega (arith, p.0, p.1) in
          (omega (arith, p.0, p.1), λ i. x i ∷ y i ∷ q.1 i)
      | false ↦ λ t h. absurd (true≢false (sym (ap is_some h)))
    ] refl e
  where
    digits : (is_digit a && is_digit b) ≡ true → ((48 ≤ a) × (a < 58)) × ((48 ≤ b) × (b < 58))
    digits t = (digit_range a (first_so (is_digit a) (is_digit b) t), digit_range b (second_so (is_digit a) (is_digit b) t))

abbrev after_hundreds : ℕ × List ℕ → Option (ℕ × List ℕ)
after_hundreds hundreds = bind (two hundreds.1) (λ ones. given (hundreds.0 * 100 + ones.0) ones.1)

-- Four digits give their number back.
pub four-four_digits : (n : ℕ) → n < 10_000 → (rest : List ℕ) → four (four_digits n ++ rest) ≡ Some (n, rest)
four-four_digits n small rest =
    let value : n / 100 * 100 + n % 100 ≡ n = omega arith in
    ap (λ o. bind o after_hundreds) (two-two_digits (n / 100) (omega arith) (two_digits (n % 100) ++ rest))
    ∙ ap (λ o. bind o (λ ones. given (n / 100 * 100 + ones.0) ones.1)) (two-two_digits (n % 100) (omega arith) rest)
    ∙ ap (λ m. given m rest) value

-- What four digits give stands there.
pub four-is : (text : List ℕ) (n : ℕ) (rest : List ℕ) → four text ≡ given n rest → (n < 10_000) × (text ≡ four_digits n ++ rest)
four-is text n rest e =
    let a = bind-some (two text) after_hundreds (n, rest) e in
    let b = bind-some (two a.0.1) (λ ones. given (a.0.0 * 100 + ones.0) ones.1) (n, rest) a.2 in
    let hundreds = two-is text a.0.0 a.0.1 a.1 in
    let ones = two-is a.0.1 b.0.0 b.0.1 b.1 in
    let q = some_pair _ _ _ _ b.2 in
    let is : a.0.0 * 100 + b.0.0 ≡ n = q.0 in
    let x : a.0.0 ≡ n / 100 = omega (arith, hundreds.0, ones.0) in
    let y : b.0.0 ≡ n % 100 = omega (arith, hundreds.0, ones.0) in
    (omega (arith, hundreds.0, ones.0), hundreds.1 ∙ ap (λ l. two_digits a.0.0 ++ l) ones.1 ∙ (λ i. two_digits (x i) ++ (two_digits (y i) ++ q.1 i)))
