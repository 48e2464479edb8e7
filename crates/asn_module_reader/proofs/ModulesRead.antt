-- The assignments that a reader goes over.
use Rattle.std.proofs.Common.{◌≡◌, ℕ, List, [], ◌∷◌, ◌++◌, true, Option, Some, None, refl, sym, ap, subst, ◌∙◌, append_assoc, append-nil}
use Rattle.asn_notation.specs.Grammar.{NotationParses, ModuleParses, no_assignments, assignment_parses}
use Rattle.asn_notation.specs.Notation.{Assignment}
use Rattle.asn_notation.specs.Starts.{is_type_name}
use Rattle.asn_notation.specs.Tokens.{Token, first_token, past_token, word_of, word_at}
use Rattle.asn_notation.proofs.Inverted.{token_word}
use Rattle.asn_notation.proofs.OneNotation.{same_notation}
use Rattle.asn_module_reader.specs.Productions.{AssignmentParses}

-- The assignments that were read stand from the start to here.
pub record GoingOn (limit : ℕ) (start here : List ℕ) (seen : List Assignment) : Type 0 where
  pub forward : (more : List Assignment) → ModuleParses limit here more → ModuleParses limit start (seen ++ more)
  pub backward : (all : List Assignment) → ModuleParses limit start all → (more : List Assignment) × ModuleParses limit here more × (all ≡ seen ++ more)

pub going_on_start : (limit : ℕ) (start here : List ℕ) (seen : List Assignment) → here ≡ start → seen ≡ [] → GoingOn limit start here seen
going_on_start limit start here seen e n =
    subst (λ x. GoingOn limit start x seen) (sym e) (subst (λ x. GoingOn limit start start x) (sym n) (record { forward = λ more q. q; backward = λ all q. (all, q, refl) }))

some_same : {A : Type 0} {x y : A} {o : Option A} → o ≡ Some x → o ≡ Some y → x ≡ y
some_same {x = x} {y = y} a b = let e : Some x ≡ Some y = sym a ∙ b in cc

front : (limit : ℕ) (u v w name : List ℕ) (a : Assignment) (more : List Assignment) → Token.word name ≡ first_token u → v ≡ past_token u → AssignmentParses limit name v a w → ModuleParses limit w more → ModuleParses limit u (a ∷ more)
front limit u v w name a more e m p q =
    assignment_parses (subst (λ x. word_at u ≡ Some x) (sym p.named) (sym (ap word_of e))) (subst (λ x. is_type_name x ≡ true) (sym p.named) p.is_type) (subst (λ x. first_token x ≡ Token.assignment) m p.sign)
    (subst (λ x. NotationParses limit 0 (past_token x) a.notation w) m p.notation) q

-- The first assignment of a text that begins with this word, and what is behind it.
record Behind (limit : ℕ) (v name : List ℕ) (all : List Assignment) : Type 0 where
  pub first : Assignment
  pub others : List Assignment
  pub left : List ℕ
  pub parses : AssignmentParses limit name v first left
  pub more : ModuleParses limit left others
  pub made : all ≡ first ∷ others

taken_apart : (limit : ℕ) (u v name : List ℕ) (all : List Assignment) → Token.word name ≡ first_token u → v ≡ past_token u → ModuleParses limit u all → Behind limit v name all
taken_apart limit u v name all e m (no_assignments o) = let n : Token.word name ≡ Token.end = e ∙ o in absurd (let x : ⊥ = cc in x)
taken_apart limit u v name all e m (assignment_parses {name = other} {v = w} {n = n} {more = more} h t s d q) =
    record {
      first = record { name = other; notation = n };
      others = more;
      left = w;
      parses = record {
        named = some_same h (sym (ap word_of e));
        is_type = subst (λ x. is_type_name x ≡ true) (some_same h (sym (ap word_of e))) t;
        sign = subst (λ x. first_token x ≡ Token.assignment) (sym m) s;
        notation = subst (λ x. NotationParses limit 0 (past_token x) n w) (sym m) d;
      };
      more = q;
      made = refl;
    }

same_assignment : (limit : ℕ) (v w w' name : List ℕ) (a b : Assignment) → AssignmentParses limit name v a w → AssignmentParses limit name v b w' → (a ≡ b) × (w ≡ w')
same_assignment limit v w w' name a b p q =
    let s = same_notation p.notation q.notation in
    (ap (λ x. record { name = x; notation = a.notation }) (p.named ∙ sym q.named) ∙ ap (λ x. record { name = b.name; notation = x }) s.0, s.1)

pub going_on_next : (limit : ℕ) (start here v w name : List ℕ) (seen : List Assignment) (a : Assignment) → GoingOn limit start here seen → Token.word name ≡ first_token here → v ≡ past_token here
    → AssignmentParses limit name v a w → GoingOn limit start w (seen ++ a ∷ [])
going_on_next limit start here v w name seen a g e m p = record {
  forward = λ more q. subst (λ x. ModuleParses limit start x) (sym (append_assoc seen (a ∷ []) more)) (g.forward (a ∷ more) (front limit here v w name a more e m p q));
  backward = λ all q.
      let b = g.backward all q in
      let c = taken_apart limit here v name b.0 e m b.1 in
      let s = same_assignment limit v w c.left name a c.first p c.parses in
      (c.others, subst (λ x. ModuleParses limit x c.others) (sym s.1) c.more, b.2 ∙ ap (λ z. seen ++ z) (c.made ∙ ap (λ x. x ∷ c.others) (sym s.0)) ∙ sym (append_assoc seen (a ∷ []) c.others));
}

pub going_on_end : (limit : ℕ) (start here : List ℕ) (seen : List Assignment) → GoingOn limit start here seen → Token.end ≡ first_token here → ModuleParses limit start seen
going_on_end limit start here seen g e = subst (λ x. ModuleParses limit start x) (append-nil seen) (g.forward [] (no_assignments (sym e)))

-- No assignment is read behind the word.
pub going_on_none : (limit : ℕ) (start here v name : List ℕ) (seen : List Assignment) → GoingOn limit start here seen → Token.word name ≡ first_token here → v ≡ past_token here
    → ((a : Assignment) (rest : List ℕ) → AssignmentParses limit name v a rest → ⊥) → (all : List Assignment) → ModuleParses limit start all → ⊥
going_on_none limit start here v name seen g e m none all q =
    let b = g.backward all q in
    let c = taken_apart limit here v name b.0 e m b.1 in none c.first c.left c.parses

other_none : (limit : ℕ) (u : List ℕ) (t : Token) (xs : List Assignment) → t ≡ first_token u → word_of t ≡ None → (t ≡ Token.end → ⊥) → ModuleParses limit u xs → ⊥
other_none limit u t xs e n k (no_assignments o) = k (e ∙ o)
other_none limit u t xs e n k (assignment_parses h x s d y) = token_word _ _ t (sym e) n h

-- Another token begins no assignment and is no end.
pub going_on_other : (limit : ℕ) (start here : List ℕ) (seen : List Assignment) (t : Token) → GoingOn limit start here seen → t ≡ first_token here → word_of t ≡ None → (t ≡ Token.end → ⊥)
    → (all : List Assignment) → ModuleParses limit start all → ⊥
going_on_other limit start here seen t g e n k all q = let b = g.backward all q in other_none limit here t b.0 e n k b.1
