-- What the functions of texts give, in the words of the tokens.
use Rattle.std.proofs.Common.{◌≡◌, ◌≢◌, ◌≤◌, ◌<◌, ◌+◌, ◌∙◌, ℕ, zero, suc, List, [], ◌∷◌, ◌++◌, Bool, true, false, ◌==◌, ◌&&◌, ap, arith, drop, drop-cons, eqb-true, get_or, if◌then◌else◌, length, eq-eqb, not, refl, sym, cond, IsCharBoundary, IsUtf8, MatchOption, Option, Some, None}
use Rattle.std.proofs.lemmas.Bool.Decides.{nat_tests}
use Rattle.std.specs.Borrow.{Bor}
use Rattle.std.specs.Option.{option_map}
use Rattle.std.specs.Str.Pattern.{FindsChar, FindsCharPrefix}
use Rattle.std.proofs.lemmas.Str.{IsCharBoundary-after_ascii, IsCharBoundary-start}
use Rattle.std.proofs.lemmas.Str.Pattern.{IsSplitOnceResult, split_parts, strip_prefix_char}
use Rattle.avn_grammar.proofs.Runs.{past-step}
use Rattle.avn_grammar.specs.Chars.{has_fraction, is_digit, is_name, is_not_apostrophe, is_space, skip_while, starts_with, tail, take_while}
use Rattle.avn_places.specs.Tokens.{passes, past_apostrophe, past_sign, past_string}
use Rattle.avn_places.specs.declared.tokens.Run.{Run}
use Rattle.avn_places.specs.declared.tokens.Run.TheVariants as run

-- Whether a number is the character.
pub by_equal : {A : Type 0} (P : A → Type 0) (d c : ℕ) (x y : A) → (d ≡ c → P x) → (d ≢ c → P y) → P (if d == c then x else y)
by_equal P d c x y f g =
    elim (d == c) as (λ b. (d == c) ≡ b → P (if b then x else y)) [
      | true ↦ λ e. f (eqb-true d c e)
      | false ↦ λ e. g (λ h. let n : true ≡ false = sym (eq-eqb d c h) ∙ e in cc n)
    ] refl

sign_from : (c : ℕ) (bs : List ℕ) (r : Option (Bor (List ℕ))) → MatchOption r ((rest : List ℕ) → bs ≢ c ∷ rest) (λ x. bs ≡ c ∷ x.now) → option_map (λ x. x.now) r ≡ past_sign c bs
sign_from c [] None h = refl
sign_from c (d ∷ u) None h = by_equal (λ o. None ≡ o) d c (Some u) None (λ e. absurd (h u (ap (λ x. x ∷ u) e))) (λ _. refl)
sign_from c [] (Some x) h = let n : ⊥ = cc in absurd n
sign_from c (d ∷ u) (Some x) h =
    let same : x.now ≡ u = sym (ap tail h) in
    by_equal (λ o. Some x.now ≡ o) d c (Some u) None (λ _. ap (λ v. Some v) same) (λ n. let e : d ≡ c = cc in absurd (n e))

pub sign_strips : (c : ℕ) (bs : List ℕ) (r : Option (Bor (List ℕ))) → c < 128 → MatchOption r (FindsCharPrefix c bs None) (λ x. (n : ℕ) × FindsCharPrefix c bs (Some n) × (x.now ≡ drop n bs) × (length x.now + n ≡ length bs)) → option_map (λ x. x.now) r ≡ past_sign c bs
sign_strips c bs r small h = sign_from c bs r (strip_prefix_char c bs r h small)

-- The bytes of a run are ASCII.
passes_small : (r : Run) (b : ℕ) → passes r b ≡ true → b < 128
passes_small run.Spaces b h = grind (arith, nat_tests)
passes_small run.Name b h = grind (arith, nat_tests)
passes_small run.Digits b h = grind (arith, nat_tests)

pub run_boundary : (r : Run) (bs : List ℕ) (i : ℕ) → IsUtf8 bs → i < length bs → passes r (get_or bs i 0) ≡ true → IsCharBoundary bs (i + 1)
run_boundary r bs i utf8 inside h = IsCharBoundary-after_ascii bs i utf8 inside (passes_small r (get_or bs i 0) h)

pub run_steps : (r : Run) (bs : List ℕ) (i : ℕ) → IsUtf8 bs → i < length bs → passes r (get_or bs i 0) ≡ true → skip_while (passes r) (drop i bs) ≡ skip_while (passes r) bs
    → (i + 1 ≤ length bs) × (skip_while (passes r) (drop (i + 1) bs) ≡ skip_while (passes r) bs) × IsCharBoundary bs (i + 1)
run_steps r bs i utf8 inside h e =
    let one : suc i ≡ i + 1 = omega arith in
    (omega (arith, inside), sym (past-step (passes r) (drop i bs) (drop (i + 1) bs) (get_or bs i 0) h (drop-cons bs i 0 inside ∙ ap (λ n. get_or bs i 0 ∷ drop n bs) one)) ∙ e, run_boundary r bs i utf8 inside h)

pub ruleset runs = (run_boundary, IsCharBoundary-start)

-- No byte is this one.
abbrev HasNo : ℕ → List ℕ → Type 0
HasNo c bs = (i : ℕ) → i < length bs → get_or bs i 0 ≢ c

no_head : (c b : ℕ) (bs : List ℕ) → HasNo c (b ∷ bs) → b ≢ c
no_head c b bs h = h 0 (omega arith)

no_tail : (c b : ℕ) (bs : List ℕ) → HasNo c (b ∷ bs) → HasNo c bs
no_tail c b bs h i l = h (suc i) (omega (arith, l))

not_quote : {A : Type 0} (b c : ℕ) (x y : A) → b ≢ c → (if b == c then x else y) ≡ y
not_quote b c x y n = by_equal (λ o. o ≡ y) b c x y (λ e. absurd (n e)) (λ _. refl)

string_on : (b : ℕ) (u : List ℕ) → b ≢ 34 → past_string (b ∷ u) ≡ past_string u
string_on b [] n = not_quote b 34 (Some []) None n
string_on b (d ∷ u) n = not_quote b 34 (if d == 34 then past_string u else Some (d ∷ u)) (past_string (d ∷ u)) n

string_front : (front behind : List ℕ) → HasNo 34 front → past_string (front ++ 34 ∷ behind) ≡ past_string (34 ∷ behind)
string_front [] behind h = refl
string_front (b ∷ bs) behind h = string_on b (bs ++ 34 ∷ behind) (no_head 34 b bs h) ∙ string_front bs behind (no_tail 34 b bs h)

string_none : (bs : List ℕ) → HasNo 34 bs → past_string bs ≡ None
string_none [] h = refl
string_none (b ∷ bs) h = string_on b bs (no_head 34 b bs h) ∙ string_none bs (no_tail 34 b bs h)

-- A string goes on after a second quote, and ends else.
abbrev pub string_behind : List ℕ → Option (List ℕ) → Option (List ℕ)
string_behind v None = Some v
string_behind v (Some more) = past_string more

string_quote : (v : List ℕ) → past_string (34 ∷ v) ≡ string_behind v (past_sign 34 v)
string_quote [] = refl
string_quote (d ∷ u) = by_equal (λ o. (if d == 34 then past_string u else Some (d ∷ u)) ≡ string_behind (d ∷ u) o) d 34 (Some u) None (λ e. ap (λ x. if x == 34 then past_string u else Some (x ∷ u)) e) (λ n. not_quote d 34 (past_string u) (Some (d ∷ u)) n)

pub string_no_end : (bs : List ℕ) (r : Option (Bor (List ℕ) × Bor (List ℕ))) → IsSplitOnceResult 34 bs r → r ≡ None → past_string bs ≡ None
string_no_end bs None h e = string_none bs (split_parts 34 bs None h (omega arith))
string_no_end bs (Some x) h e = let n : ⊥ = cc in absurd n

pub string_at : (bs : List ℕ) (r : Option (Bor (List ℕ) × Bor (List ℕ))) (x : Bor (List ℕ) × Bor (List ℕ)) (o : Option (List ℕ)) → IsSplitOnceResult 34 bs r → r ≡ Some x → past_sign 34 x.1.now ≡ o → past_string bs ≡ string_behind x.1.now o
string_at bs None x o h e f = let n : ⊥ = cc in absurd n
string_at bs (Some y) x o h e f =
    let same : y ≡ x = cc in
    let parts = split_parts 34 bs (Some y) h (omega arith) in
    ap past_string parts.0 ∙ string_front y.0.now y.1.now parts.1 ∙ string_quote y.1.now ∙ ap (λ z. string_behind z.1.now (past_sign 34 z.1.now)) same ∙ ap (string_behind x.1.now) f

pub ruleset strings = (string_no_end, string_at)

neq_false : (b c : ℕ) → b ≢ c → (b == c) ≡ false
neq_false b c n = elim (b == c) as (λ x. (b == c) ≡ x → x ≡ false) [ true ↦ λ e. absurd (n (eqb-true b c e)) | false ↦ λ e. refl ] refl

mapped : (b : ℕ) (front : List ℕ) (o : Option (List ℕ)) → option_map {U = List ℕ × List ℕ} (λ rest. (b ∷ front, rest)) o ≡ option_map {U = List ℕ × List ℕ} (λ p. (b ∷ p.0, p.1)) (option_map {U = List ℕ × List ℕ} (λ rest. (front, rest)) o)
mapped b front None = refl
mapped b front (Some x) = refl

-- What is found after one more byte.
abbrev further : ℕ → Option (List ℕ × List ℕ) → Option (List ℕ × List ℕ)
further b o = option_map {U = List ℕ × List ℕ} (λ p. (b ∷ p.0, p.1)) o

apostrophe_on : (b : ℕ) (w : List ℕ) → b ≢ 39 → past_apostrophe (b ∷ w) ≡ further b (past_apostrophe w)
apostrophe_on b w n =
    ap (λ x. option_map {U = List ℕ × List ℕ} (λ rest. (cond (not x) (b ∷ take_while is_not_apostrophe w) [], rest)) (past_sign 39 (cond (not x) (skip_while is_not_apostrophe w) (b ∷ w)))) (neq_false b 39 n)
    ∙ mapped b (take_while is_not_apostrophe w) (past_sign 39 (skip_while is_not_apostrophe w))

apostrophe_front : (front behind : List ℕ) → HasNo 39 front → past_apostrophe (front ++ 39 ∷ behind) ≡ Some (front, behind)
apostrophe_front [] behind h = refl
apostrophe_front (b ∷ bs) behind h = apostrophe_on b (bs ++ 39 ∷ behind) (no_head 39 b bs h) ∙ ap (further b) (apostrophe_front bs behind (no_tail 39 b bs h))

apostrophe_none : (bs : List ℕ) → HasNo 39 bs → past_apostrophe bs ≡ None
apostrophe_none [] h = refl
apostrophe_none (b ∷ bs) h = apostrophe_on b bs (no_head 39 b bs h) ∙ ap (further b) (apostrophe_none bs (no_tail 39 b bs h))

pub apostrophe_splits : (bs : List ℕ) (r : Option (Bor (List ℕ) × Bor (List ℕ))) → IsSplitOnceResult 39 bs r → option_map {U = List ℕ × List ℕ} (λ p. (p.0.now, p.1.now)) r ≡ past_apostrophe bs
apostrophe_splits bs None h = sym (apostrophe_none bs (split_parts 39 bs None h (omega arith)))
apostrophe_splits bs (Some x) h =
    let parts = split_parts 39 bs (Some x) h (omega arith) in
    sym (ap past_apostrophe parts.0 ∙ apostrophe_front x.0.now x.1.now parts.1)

-- A point and a digit are a fraction.
pub fraction_point : (u v : List ℕ) → past_sign 46 u ≡ Some v → (has_fraction u ≡ starts_with is_digit v) × (tail u ≡ v)
fraction_point [] v h = let n : ⊥ = cc in absurd n
fraction_point (c ∷ []) v h = by_equal (λ o. o ≡ Some v → (false ≡ starts_with is_digit v) × ([] ≡ v)) c 46 (Some []) None (λ e f. let s : [] ≡ v = cc in (ap (starts_with is_digit) s, s)) (λ n f. let x : ⊥ = cc in absurd x) h
fraction_point (c ∷ d ∷ u) v h =
    by_equal (λ o. o ≡ Some v → (has_fraction (c ∷ d ∷ u) ≡ starts_with is_digit v) × (d ∷ u ≡ v)) c 46 (Some (d ∷ u)) None (λ e f. let s : d ∷ u ≡ v = cc in (ap (λ x. (x == 46) && is_digit d) e ∙ ap (starts_with is_digit) s, s)) (λ n f. let x : ⊥ = cc in absurd x) h

pub fraction_none : (u : List ℕ) → past_sign 46 u ≡ None → has_fraction u ≡ false
fraction_none [] h = refl
fraction_none (c ∷ []) h = refl
fraction_none (c ∷ d ∷ u) h =
    by_equal (λ o. o ≡ None → has_fraction (c ∷ d ∷ u) ≡ false) c 46 (Some (d ∷ u)) None (λ e f. let x : ⊥ = cc in absurd x) (λ n f. ap (λ x. x && is_digit d) (neq_false c 46 n)) h

pub ruleset fractions = (fraction_point, fraction_none)
