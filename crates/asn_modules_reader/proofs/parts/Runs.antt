-- Lists whose entries stand one after another, read from the first on.
use Rattle.std.proofs.Common.{◌≡◌, List, [], ◌∷◌, ◌++◌, refl, sym, ap, subst, ◌∙◌, append_assoc, append-nil}
use Rattle.asn_lexer.specs.declared.token.Token.{Token}

-- The entries that were seen stand from the start to here, in a list of which Q says what stands at tokens and what follows it.
pub record Going {A : Type 0} (Q : List Token → List A → List Token → Type 0) (start here : List Token) (seen : List A) : Type 0 where
  pub forward : (xs : List A) (rest : List Token) → Q here xs rest → Q start (seen ++ xs) rest
  pub backward : (ys : List A) (rest : List Token) → Q start ys rest → (xs : List A) × Q here xs rest × (ys ≡ seen ++ xs)

-- The entry stands from here to there.
pub record Step {A : Type 0} (Q : List Token → List A → List Token → Type 0) (here there : List Token) (x : A) : Type 0 where
  pub forward : (xs : List A) (rest : List Token) → Q there xs rest → Q here (x ∷ xs) rest
  pub backward : (ys : List A) (rest : List Token) → Q here ys rest → (xs : List A) × Q there xs rest × (ys ≡ x ∷ xs)

pub going_start : {A : Type 0} (Q : List Token → List A → List Token → Type 0) (start here : List Token) (seen : List A) → here ≡ start → seen ≡ [] → Going Q start here seen
going_start Q start here seen e n =
    subst (λ x. Going Q start x seen) (sym e) (subst (λ x. Going Q start start x) (sym n) (record { forward = λ xs rest q. q; backward = λ ys rest q. (ys, q, refl) }))

pub going_next : {A : Type 0} (Q : List Token → List A → List Token → Type 0) (start here there : List Token) (seen more : List A) (x : A)
    → Going Q start here seen → Step Q here there x → more ≡ seen ++ x ∷ [] → Going Q start there more
going_next {A = A} Q start here there seen more x g s e = subst (λ z. Going Q start there z) (sym e) (record {
  forward = λ xs rest q. subst (λ ys. Q start ys rest) (sym (append_assoc seen (x ∷ []) xs)) (g.forward (x ∷ xs) rest (s.forward xs rest q));
  backward = λ ys rest q.
      let b = g.backward ys rest q in
      let c = s.backward b.0 rest b.1 in (c.0, c.1, b.2 ∙ ap (λ z. seen ++ z) c.2 ∙ sym (append_assoc seen (x ∷ []) c.0));
})

-- The step may be told of other names of the same tokens.
pub step_between : {A : Type 0} (Q : List Token → List A → List Token → Type 0) (here there away : List Token) (x : A) → Step Q here there x → away ≡ there → Step Q here away x
step_between Q here there away x s e = subst (λ z. Step Q here z x) (sym e) s

pub going_last : {A : Type 0} (Q : List Token → List A → List Token → Type 0) (start here rest : List Token) (seen more : List A) (x : A)
    → Going Q start here seen → Q here (x ∷ []) rest → more ≡ seen ++ x ∷ [] → Q start more rest
going_last Q start here rest seen more x g q e = subst (λ z. Q start z rest) (sym e) (g.forward (x ∷ []) rest q)

pub going_end : {A : Type 0} (Q : List Token → List A → List Token → Type 0) (start here rest : List Token) (seen : List A) → Going Q start here seen → Q here [] rest → Q start seen rest
going_end Q start here rest seen g q = subst (λ z. Q start z rest) (append-nil seen) (g.forward [] rest q)

pub going_none : {A : Type 0} (Q : List Token → List A → List Token → Type 0) (start here : List Token) (seen : List A) → Going Q start here seen
    → ((xs : List A) (rest : List Token) → Q here xs rest → ⊥) → (ys : List A) (rest : List Token) → Q start ys rest → ⊥
going_none Q start here seen g none ys rest q = let b = g.backward ys rest q in none b.0 rest b.1
