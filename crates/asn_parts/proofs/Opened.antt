-- A part of a type that is a loop, or that means one, is read as the body of the loop.
use Rattle.std.proofs.Common.{◌≡◌, refl, ap, sym, ◌∙◌, subst, ℕ, zero, suc, List, [], ◌∷◌, drop, Result, Ok, Err, true}
use Rattle.asn_coding.proofs.Steps.{loop_decodes, loop_refuses}
use Rattle.asn_coding.specs.Answer.{AnswerBy}
use Rattle.asn_fault.specs.Failure.{Failure}
use Rattle.asn_model.specs.Notation.{Notation}
use Rattle.asn_model.specs.Readable.{is_readable}
use Rattle.asn_model.specs.Shape.{Shape, unfold_loop}
use Rattle.asn_model.specs.Tree.{Slot, head_slot}
use Rattle.asn_model.specs.Value.{Value}
use Rattle.asn_parts.specs.Bodies.{IsReadablePart, loops_of, meant}
use Rattle.asn_parts.specs.Closed.{AreReadable, IsPart, closed, closed_in}
use Rattle.asn_parts.proofs.Closing.{back-is, back-meant, body-closed, head-drop, none-drop, part-body, readable-drop}
use Rattle.asn_parts.proofs.Costs.{cost, loop-costs}

-- What one turn of a loop answers, the loop answers.
loop-answer : {A E : Type 0} (failure : E → Failure) (n : Notation) (body : Shape) (value : A → Value) (before : List Slot) (r : Result A E) (after : List Slot) → AnswerBy failure n (unfold_loop body) value before r after → AnswerBy failure n (Shape.loop body) value before r after
loop-answer failure n body value before (Ok x) after (slot, shown, says) = (slot, shown, loop_decodes body slot says)
loop-answer failure n body value before (Err e) after h = loop_refuses body (head_slot before) (failure e) h

-- An answer by a shape that is the same.
pub same-answer : {A E : Type 0} (failure : E → Failure) (n : Notation) {s t : Shape} (value : A → Value) (before : List Slot) (r : Result A E) (after : List Slot) → s ≡ t → AnswerBy failure n s value before r after → AnswerBy failure n t value before r after
same-answer failure n value before r after e h = subst (λ s. AnswerBy failure n s value before r after) e h

-- The body of a loop that can be read, within that loop and those around it.
module _ (env : List Shape) (body : Shape) (all : AreReadable env) (read : is_readable (Shape.loop (closed_in 1 env body)) ≡ true) where
  body-part : IsPart (Shape.loop (closed_in 1 env body) ∷ env) body
  body-part = part-body body env all read

  body-less : (n : ℕ) → suc (cost n (closed (Shape.loop (closed_in 1 env body) ∷ env) body)) ≡ cost n (Shape.loop (closed_in 1 env body))
  body-less n = ap (λ s. suc (cost n s)) (body-closed body env all) ∙ sym (loop-costs n (closed_in 1 env body) read)

  body-answer : {A E : Type 0} (failure : E → Failure) (n : Notation) (value : A → Value) (before : List Slot) (r : Result A E) (after : List Slot)
      → AnswerBy failure n (closed (Shape.loop (closed_in 1 env body) ∷ env) body) value before r after → AnswerBy failure n (Shape.loop (closed_in 1 env body)) value before r after
  body-answer failure n value before r after h = loop-answer failure n (closed_in 1 env body) value before r after (same-answer failure n value before r after (body-closed body env all) h)

-- The loops of the bodies from one on are the loops from it on.
drop-loops : {P : Type 0} (shape : List P → P → Shape) (k : ℕ) (bodies : List P) → loops_of shape (drop k bodies) ≡ drop k (loops_of shape bodies)
drop-loops shape zero bodies = refl
drop-loops shape (suc k) [] = refl
drop-loops shape (suc k) (b ∷ bs) = drop-loops shape k bs

module _ {P : Type 0} (shape : List P → P → Shape) (bodies : List P) (part : P) (p : IsReadablePart shape bodies part) where
  -- The part is a loop of this body.
  module _ (body : P) (is : shape bodies part ≡ Shape.loop (shape (body ∷ bodies) body)) where
    own : IsPart (loops_of shape bodies) (Shape.loop (shape (body ∷ bodies) body))
    own = subst (IsPart (loops_of shape bodies)) is p

    pub within-part : IsReadablePart shape (body ∷ bodies) body
    within-part = body-part (loops_of shape bodies) (shape (body ∷ bodies) body) own.0 own.1

    pub within-less : (n : ℕ) → suc (cost n (meant shape (body ∷ bodies) body)) ≡ cost n (meant shape bodies part)
    within-less n = body-less (loops_of shape bodies) (shape (body ∷ bodies) body) own.0 own.1 n ∙ ap (λ s. cost n (closed (loops_of shape bodies) s)) (sym is)

    pub within-answer : {A E : Type 0} (failure : E → Failure) (n : Notation) (value : A → Value) (before : List Slot) (r : Result A E) (after : List Slot)
        → AnswerBy failure n (meant shape (body ∷ bodies) body) value before r after → AnswerBy failure n (meant shape bodies part) value before r after
    within-answer failure n value before r after h =
        same-answer failure n value before r after (ap (closed (loops_of shape bodies)) (sym is))
        (body-answer (loops_of shape bodies) (shape (body ∷ bodies) body) own.0 own.1 failure n value before r after h)

  -- The part means the loop of this number.
  module _ (k : ℕ) (is : shape bodies part ≡ Shape.back k) where
    this : IsPart (loops_of shape bodies) (Shape.back k)
    this = subst (IsPart (loops_of shape bodies)) is p

    pub back-inside : [] ≡ drop k bodies → ⊥
    back-inside e = none-drop (loops_of shape bodies) k (back-meant (loops_of shape bodies) k this.1) (ap (loops_of shape) e ∙ drop-loops shape k bodies)

    module _ (body : P) (outer : List P) (from : body ∷ outer ≡ drop k bodies) where
      abbrev around : List Shape
      around = loops_of shape (body ∷ outer)

      there : around ≡ drop k (loops_of shape bodies)
      there = ap (loops_of shape) from ∙ drop-loops shape k bodies

      all : AreReadable around
      all = subst AreReadable (sym there) (readable-drop (loops_of shape bodies) k this.0)

      back-shape : meant shape bodies part ≡ Shape.loop (closed_in 1 (loops_of shape outer) (shape (body ∷ outer) body))
      back-shape =
          ap (closed (loops_of shape bodies)) is ∙ back-is (loops_of shape bodies) k
          ∙ head-drop (loops_of shape bodies) k (Shape.loop (closed_in 1 (loops_of shape outer) (shape (body ∷ outer) body))) (Shape.back k) (loops_of shape outer) (sym there)

      pub back-part : IsReadablePart shape (body ∷ outer) body
      back-part = body-part (loops_of shape outer) (shape (body ∷ outer) body) all.1 all.0

      pub back-less : (n : ℕ) → suc (cost n (meant shape (body ∷ outer) body)) ≡ cost n (meant shape bodies part)
      back-less n = body-less (loops_of shape outer) (shape (body ∷ outer) body) all.1 all.0 n ∙ ap (cost n) (sym back-shape)

      pub back-answer : {A E : Type 0} (failure : E → Failure) (n : Notation) (value : A → Value) (before : List Slot) (r : Result A E) (after : List Slot)
          → AnswerBy failure n (meant shape (body ∷ outer) body) value before r after → AnswerBy failure n (meant shape bodies part) value before r after
      back-answer failure n value before r after h =
          same-answer failure n value before r after (sym back-shape) (body-answer (loops_of shape outer) (shape (body ∷ outer) body) all.1 all.0 failure n value before r after h)
