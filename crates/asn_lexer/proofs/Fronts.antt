-- Texts that begin with two characters.
use Rattle.std.proofs.Common.{◌≡◌, ℕ, [], ◌∷◌, Bool, true, false, ◌&&◌, nat_eq}
use Rattle.asn_lexer.specs.Fronts.{begins}

false_and : (b : Bool) → (b && false) ≡ true → ⊥
false_and true h = let x : ⊥ = cc in x
false_and false h = let x : ⊥ = cc in x

-- No text of one character begins with two.
pub one_begins : (a b c : ℕ) → begins (a ∷ b ∷ []) (c ∷ []) ≡ true → ⊥
one_begins a b c h = false_and (nat_eq c a) h
