-- How white space is passed over, a step at a time.
use Rattle.std.proofs.Common.{◌≡◌, ◌≤◌, ◌<◌, ℕ, suc, List, [], ◌∷◌, Bool, true, false, drop, length, arith, if◌then◌else◌, refl, ap, sym, ◌∙◌}
use Rattle.asn_lexer.specs.Blanks.{no_break_space, past_spaced}
use Rattle.asn_lexer.specs.Fronts.{begins}
use Rattle.asn_lexer.proofs.Fronts.{one_begins}

spaced_two : (p : ℕ → Bool) (c d : ℕ) (u : List ℕ) (a b : Bool) → begins no_break_space (c ∷ d ∷ u) ≡ a → p c ≡ b
    → past_spaced p (c ∷ d ∷ u) ≡ (if a then past_spaced p u else if b then past_spaced p (d ∷ u) else c ∷ d ∷ u)
spaced_two p c d u a b e f =
    ap (λ x. if x then past_spaced p u else if p c then past_spaced p (d ∷ u) else c ∷ d ∷ u) e
    ∙ ap (λ y. if a then past_spaced p u else if y then past_spaced p (d ∷ u) else c ∷ d ∷ u) f

pub spaced_skips : (p : ℕ → Bool) (v : List ℕ) → begins no_break_space v ≡ true → past_spaced p v ≡ past_spaced p (drop 2 v)
spaced_skips p [] h = let x : ⊥ = cc in absurd x
spaced_skips p (c ∷ []) h = absurd (one_begins 194 160 c h)
spaced_skips p (c ∷ d ∷ u) h = spaced_two p c d u true _ h refl

spaced_on : (p : ℕ → Bool) (c : ℕ) (u : List ℕ) → begins no_break_space (c ∷ u) ≡ false → p c ≡ true → past_spaced p (c ∷ u) ≡ past_spaced p u
spaced_on p c [] e h = ap (λ b. if b then [] else c ∷ []) h
spaced_on p c (d ∷ u) e h = spaced_two p c d u false true e h

pub spaced_passes : (p : ℕ → Bool) (v u : List ℕ) (c : ℕ) → v ≡ c ∷ u → begins no_break_space v ≡ false → p c ≡ true → past_spaced p v ≡ past_spaced p u
spaced_passes p v u c s e h = ap (past_spaced p) s ∙ spaced_on p c u (sym (ap (begins no_break_space) s) ∙ e) h

pub spaced_none : (p : ℕ → Bool) (v : List ℕ) → length v < 1 → past_spaced p v ≡ v
spaced_none p [] h = refl
spaced_none p (c ∷ u) h = absurd (omega (arith, h))

spaced_still : (p : ℕ → Bool) (c : ℕ) (u : List ℕ) → begins no_break_space (c ∷ u) ≡ false → p c ≡ false → past_spaced p (c ∷ u) ≡ c ∷ u
spaced_still p c [] e h = ap (λ b. if b then [] else c ∷ []) h
spaced_still p c (d ∷ u) e h = spaced_two p c d u false false e h

pub spaced_ends : (p : ℕ → Bool) (v u : List ℕ) (c : ℕ) → v ≡ c ∷ u → begins no_break_space v ≡ false → p c ≡ false → past_spaced p v ≡ v
spaced_ends p v u c s e h = ap (past_spaced p) s ∙ spaced_still p c u (sym (ap (begins no_break_space) s) ∙ e) h ∙ sym s

pub ruleset spaced_steps = (spaced_skips, spaced_passes, spaced_none, spaced_ends)

-- What follows is at most so long.
pub spaced_le : (p : ℕ → Bool) (u : List ℕ) → length (past_spaced p u) ≤ length u
spaced_le p [] = omega arith
spaced_le p (c ∷ []) = elim (p c) as (λ b. length (if b then [] else c ∷ []) ≤ 1) [ true ↦ omega arith | false ↦ omega arith ]
spaced_le p (c ∷ d ∷ u) =
    elim (begins no_break_space (c ∷ d ∷ u)) as (λ a. length (if a then past_spaced p u else if p c then past_spaced p (d ∷ u) else c ∷ d ∷ u) ≤ suc (suc (length u))) [
      | true ↦ omega (arith, spaced_le p u)
      | false ↦ elim (p c) as (λ b. length (if b then past_spaced p (d ∷ u) else c ∷ d ∷ u) ≤ suc (suc (length u))) [ true ↦ omega (arith, spaced_le p (d ∷ u)) | false ↦ omega arith ]
    ]
