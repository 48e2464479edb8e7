-- The first slot that is at hand.
use Rattle.std.proofs.Common.{◌≡◌, ap, sym, ◌∙◌, List, ◌∷◌, drop}

-- The first slot, which is dropped, stands before those that are left.
pub passed : {A : Type 0} (slot : A) (before after rest : List A) → before ≡ slot ∷ rest → after ≡ drop 1 before → before ≡ slot ∷ after
passed slot before after rest was left = was ∙ ap (λ r. slot ∷ r) (sym (left ∙ ap (drop 1) was))
