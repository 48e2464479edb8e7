-- Runs of characters.
use Rattle.std.proofs.Common.{◌≡◌, ℕ, ◌≤◌, List, [], ◌∷◌, ◌++◌, Bool, true, false, cond, ◌==◌, ◌&&◌, refl, sym, ap, ◌∙◌, length, arith, append_assoc}
use Rattle.std.specs.Str.{encode_utf8_all}
use Rattle.std.specs.Char.{encode_utf8}
use Rattle.avn_grammar.specs.Chars.{take_while, skip_while, skip, is_digit, is_space, starts_with, has_fraction}

pub past-stop : (p : ℕ → Bool) (u : List ℕ) → starts_with p u ≡ false → skip_while p u ≡ u
past-stop p [] h = refl
past-stop p (c ∷ u) h = ap (λ b. cond b (skip_while p u) (c ∷ u)) h

pub front-stop : (p : ℕ → Bool) (u : List ℕ) → starts_with p u ≡ false → take_while p u ≡ []
front-stop p [] h = refl
front-stop p (c ∷ u) h = ap (λ b. cond b (c ∷ take_while p u) []) h

pub past-step : (p : ℕ → Bool) (u v : List ℕ) (c : ℕ) → p c ≡ true → u ≡ c ∷ v → skip_while p u ≡ skip_while p v
past-step p u v c h e = ap (skip_while p) e ∙ ap (λ b. cond b (skip_while p v) (c ∷ v)) h

pub front-step : (p : ℕ → Bool) (u v : List ℕ) (c : ℕ) → p c ≡ true → u ≡ c ∷ v → take_while p u ≡ c ∷ take_while p v
front-step p u v c h e = ap (take_while p) e ∙ ap (λ b. cond b (c ∷ take_while p v) []) h

pub past-le : (p : ℕ → Bool) (u : List ℕ) → length (skip_while p u) ≤ length u
past-le p [] = omega arith
past-le p (c ∷ u) = elim (p c) as (λ b. length (cond b (skip_while p u) (c ∷ u)) ≤ length (c ∷ u)) [ true ↦ omega (arith, past-le p u) | false ↦ omega arith ]

-- What was read before a step, and what is ahead then.
pub front-moved : (p : ℕ → Bool) (u v w a b : List ℕ) (c : ℕ) → p c ≡ true → u ≡ c ∷ v → a ++ encode_utf8_all (take_while p u) ≡ w → b ≡ a ++ encode_utf8 c → b ++ encode_utf8_all (take_while p v) ≡ w
front-moved p u v w a b c h e f g =
    ap (λ x. x ++ encode_utf8_all (take_while p v)) g ∙ append_assoc a (encode_utf8 c) (encode_utf8_all (take_while p v)) ∙ ap (λ x. a ++ encode_utf8_all x) (sym (front-step p u v c h e)) ∙ f

pub fraction-none : (u : List ℕ) → u ≡ [] → has_fraction u ≡ false
fraction-none u e = ap has_fraction e

pub fraction-other : (u v : List ℕ) (c : ℕ) → u ≡ c ∷ v → (c == 46) ≡ false → has_fraction u ≡ false
fraction-other u [] c e h = ap has_fraction e
fraction-other u (d ∷ v) c e h = ap has_fraction e ∙ ap (λ b. b && is_digit d) h

pub fraction-yes : (u v w : List ℕ) (d : ℕ) → u ≡ 46 ∷ v → v ≡ d ∷ w → has_fraction u ≡ is_digit d
fraction-yes u v w d e f = ap has_fraction (e ∙ ap (λ x. 46 ∷ x) f)

pub fraction-end : (u v : List ℕ) → u ≡ 46 ∷ v → v ≡ [] → has_fraction u ≡ false
fraction-end u v e f = ap has_fraction (e ∙ ap (λ x. 46 ∷ x) f)

pub ruleset runs = (past-stop, front-stop, past-step, front-step, front-moved)

pub ruleset fractions = (fraction-none, fraction-other, fraction-yes, fraction-end)

pub skip-le : (u : List ℕ) → length (skip u) ≤ length u
skip-le u = past-le is_space u

pub past-past : (p : ℕ → Bool) (u : List ℕ) → skip_while p (skip_while p u) ≡ skip_while p u
past-past p [] = refl
past-past p (c ∷ u) = elim (p c) as (λ b. p c ≡ b → skip_while p (cond b (skip_while p u) (c ∷ u)) ≡ cond b (skip_while p u) (c ∷ u)) [ true ↦ λ h. past-past p u | false ↦ λ h. ap (λ b. cond b (skip_while p u) (c ∷ u)) h ] refl
