-- Runs of characters that are looked at.
use Rattle.std.proofs.Common.{◌≡◌, ℕ, List, [], ◌∷◌, Bool, false, sym, ap, ◌∙◌}
use Rattle.avn_grammar.specs.Chars.{skip_while, skip, is_space}
use Rattle.avn_grammar.proofs.Runs.{past-stop, past-step, past-past, skip-le}

pub skip-skip : (u : List ℕ) → skip (skip u) ≡ skip u
skip-skip u = past-past is_space u

pub past-held : (p : ℕ → Bool) (u v : List ℕ) (c : ℕ) → u ≡ c ∷ v → p c ≡ false → skip_while p u ≡ [] → ⊥
past-held p u v c e h n = let m : c ∷ v ≡ [] = sym (past-stop p (c ∷ v) h) ∙ ap (skip_while p) (sym e) ∙ n in let x : ⊥ = cc in x

pub ruleset blanks = (past-stop, past-step, skip-le)

pub ruleset twice = (past-stop, skip-skip)

pub ruleset whites = (past-step, past-held)
