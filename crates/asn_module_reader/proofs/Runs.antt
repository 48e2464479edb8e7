-- Lists whose entries stand one behind another, read from the first on.
use Rattle.std.proofs.Common.{◌≡◌, ℕ, List, [], ◌∷◌, ◌++◌, Bool, true, false, refl, sym, ap, subst, ◌∙◌, append_assoc}
use Rattle.asn_notation.specs.Notation.{at_most_one}
use Rattle.asn_module_reader.specs.EntryLists.{Allows}
use Rattle.asn_module_reader.proofs.Markers.{single_last, single_in}

-- The first entry of some that stand at a text.
pub record First {A : Type 0} (P : List ℕ → A → Bool → List ℕ → Type 0) (u : List ℕ) (xs : List A) : Type 0 where
  pub entry : A
  pub more : Bool
  pub left : List ℕ
  pub others : List A
  pub parses : P u entry more left
  pub made : xs ≡ entry ∷ others

-- The entries behind the first one.
pub record Others {A : Type 0} (Q : List ℕ → List A → List ℕ → Type 0) (v rest : List ℕ) (x : A) (xs : List A) : Type 0 where
  pub others : List A
  pub parses : Q v others rest
  pub made : xs ≡ x ∷ others

-- Q holds of entries where P holds of each of them in turn.
pub record IsRun {A : Type 0} (P : List ℕ → A → Bool → List ℕ → Type 0) (Q : List ℕ → List A → List ℕ → Type 0) : Type 0 where
  pub last : (u rest : List ℕ) (x : A) → P u x false rest → Q u (x ∷ []) rest
  pub next : (u v rest : List ℕ) (x : A) (xs : List A) → P u x true v → Q v xs rest → Q u (x ∷ xs) rest
  pub first : (u rest : List ℕ) (xs : List A) → Q u xs rest → First P u xs
  pub behind : (u v rest : List ℕ) (x : A) (xs : List A) → P u x true v → Q u xs rest → Others Q v rest x xs

-- The entries that were seen stand from the start to here.
pub record Going {A : Type 0} (marks : A → Bool) (Q : List ℕ → List A → List ℕ → Type 0) (start here : List ℕ) (seen : List A) : Type 0 where
  pub forward : (xs : List A) (rest : List ℕ) → Q here xs rest → Q start (seen ++ xs) rest
  pub backward : (ys : List A) (rest : List ℕ) → Q start ys rest → (xs : List A) × Q here xs rest × (ys ≡ seen ++ xs)
  pub single : at_most_one marks seen ≡ true

pub going_start : {A : Type 0} (marks : A → Bool) (Q : List ℕ → List A → List ℕ → Type 0) (start here : List ℕ) (seen : List A) → here ≡ start → seen ≡ [] → Going marks Q start here seen
going_start marks Q start here seen e n =
    subst (λ x. Going marks Q start x seen) (sym e) (subst (λ x. Going marks Q start start x) (sym n) (record { forward = λ xs rest q. q; backward = λ ys rest q. (ys, q, refl); single = refl }))

pub going_next : {A : Type 0} {marks : A → Bool} {P : List ℕ → A → Bool → List ℕ → Type 0} {Q : List ℕ → List A → List ℕ → Type 0} {start here v : List ℕ} {seen : List A} {x : A}
    → IsRun P Q → Going marks Q start here seen → P here x true v → Allows marks seen x → Going marks Q start v (seen ++ x ∷ [])
going_next {marks = marks} {Q = Q} {start = start} {here = here} {v = v} {seen = seen} {x = x} run g p allows = record {
  forward = λ xs rest q. subst (λ ys. Q start ys rest) (sym (append_assoc seen (x ∷ []) xs)) (g.forward (x ∷ xs) rest (run.next here v rest x xs p q));
  backward = λ ys rest q.
      let b = g.backward ys rest q in
      let c = run.behind here v rest x b.0 p b.1 in (c.others, c.parses, b.2 ∙ ap (λ z. seen ++ z) c.made ∙ sym (append_assoc seen (x ∷ []) c.others));
  single = single_last marks seen x g.single allows;
}

pub going_last : {A : Type 0} {marks : A → Bool} {P : List ℕ → A → Bool → List ℕ → Type 0} {Q : List ℕ → List A → List ℕ → Type 0} {start here rest : List ℕ} {seen : List A} {x : A}
    → IsRun P Q → Going marks Q start here seen → P here x false rest → Q start (seen ++ x ∷ []) rest
going_last {here = here} {rest = rest} {x = x} run g p = g.forward (x ∷ []) rest (run.last here rest x p)

pub going_none : {A : Type 0} {marks : A → Bool} {P : List ℕ → A → Bool → List ℕ → Type 0} {Q : List ℕ → List A → List ℕ → Type 0} {start here : List ℕ} {seen : List A}
    → IsRun P Q → Going marks Q start here seen → ((x : A) (more : Bool) (rest : List ℕ) → P here x more rest → Allows marks seen x → ⊥) → (ys : List A) (rest : List ℕ) → Q start ys rest → at_most_one marks ys ≡ true → ⊥
going_none {marks = marks} {here = here} {seen = seen} run g none ys rest q single =
    let b = g.backward ys rest q in
    let f = run.first here rest b.0 b.1 in
    none f.entry f.more f.left f.parses (λ e. single_in marks seen f.entry f.others (subst (λ z. at_most_one marks z ≡ true) (b.2 ∙ ap (λ z. seen ++ z) f.made) single) e)
