-- Lists in which at most one entry is the extension marker.
use Rattle.std.proofs.Common.{◌≡◌, List, [], ◌∷◌, ◌++◌, Bool, true, false, not, if◌then◌else◌, refl, sym, ap, ◌∙◌, inl, inr}
use Rattle.std.proofs.lemmas.Bool.{cases_Bool}
use Rattle.asn_notation.specs.Notation.{any, at_most_one}

true_false : true ≡ false → ⊥
true_false e = cc

if_either : (b c : Bool) → (if b then true else c) ≡ false → (b ≡ false) × (c ≡ false)
if_either true c e = absurd (true_false e)
if_either false c e = (refl, e)

if_second : (b c : Bool) → c ≡ true → (if b then true else c) ≡ true
if_second true c e = refl
if_second false c e = e

if_first : (b c : Bool) → b ≡ true → (if b then true else c) ≡ true
if_first b c e = rw e refl

if_both : (b : Bool) → (if b then true else true) ≡ true
if_both true = refl
if_both false = refl

not_false : (b : Bool) → not b ≡ true → b ≡ false
not_false true e = absurd (true_false (sym e))
not_false false e = refl

any_last : {A : Type 0} (p : A → Bool) (xs : List A) (x : A) → any p xs ≡ false → p x ≡ false → any p (xs ++ x ∷ []) ≡ false
any_last p [] x a b = rw b refl
any_last p (y ∷ ys) x a b = let h = if_either (p y) (any p ys) a in rw (h.0) (any_last p ys x h.1 b)

any_has : {A : Type 0} (p : A → Bool) (ys : List A) (x : A) (xs : List A) → p x ≡ true → any p (ys ++ x ∷ xs) ≡ true
any_has p [] x xs e = rw e refl
any_has p (y ∷ ys) x xs e = if_second (p y) _ (any_has p ys x xs e)

-- With one entry more behind the others.
pub single_last : {A : Type 0} (p : A → Bool) (xs : List A) (x : A) → at_most_one p xs ≡ true → (p x ≡ true → any p xs ≡ false) → at_most_one p (xs ++ x ∷ []) ≡ true
single_last p [] x a h = if_both (p x)
single_last p (y ∷ ys) x a h = elim (cases_Bool (p y)) [
  | inl t ↦ elim (cases_Bool (p x)) [
    | inl e ↦ absurd (true_false (sym (if_first (p y) (any p ys) t) ∙ h e))
    | inr e ↦ rw t (ap not (any_last p ys x (not_false (any p ys) (rw t at a)) e))
  ]
  | inr f ↦ rw f (single_last p ys x (rw f at a) (λ e. (if_either (p y) (any p ys) (h e)).1))
]

-- An entry behind others that is the marker is the only one.
pub single_in : {A : Type 0} (p : A → Bool) (seen : List A) (x : A) (xs : List A) → at_most_one p (seen ++ x ∷ xs) ≡ true → p x ≡ true → any p seen ≡ false
single_in p [] x xs a e = refl
single_in p (y ∷ ys) x xs a e = elim (cases_Bool (p y)) [
  | inl t ↦ absurd (true_false (sym (any_has p ys x xs e) ∙ not_false (any p (ys ++ x ∷ xs)) (rw t at a)))
  | inr f ↦ rw f (single_in p ys x xs (rw f at a) e)
]
