-- What all elements of a list are.
use Rattle.std.proofs.Common.{◌≡◌, true, Bool, ℕ, suc, ◌<◌, List, [], ◌∷◌, length, get_or, refl, arith}
use Rattle.avn_grammar.specs.Chars.{all}
use Rattle.asn_model.proofs.Readables.{and-both}

-- Each element passes where the one at each place does.
pub every-at : (p : ℕ → Bool) (xs : List ℕ) → ((i : ℕ) → i < length xs → p (get_or xs i 0) ≡ true) → all p xs ≡ true
every-at p [] f = refl
every-at p (x ∷ xs) f = and-both (p x) (all p xs) (f 0 (omega arith)) (every-at p xs (λ i h. f (suc i) (omega (arith, h))))
