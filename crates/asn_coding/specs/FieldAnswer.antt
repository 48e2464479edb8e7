-- What reading and writing a single field answers.
use Rattle.std.specs.Prelude.{◌≡◌, ℕ, List, [], ◌∷◌, Option, Some, None}
use Rattle.asn_fault.specs.Failure.{Cause}
use Rattle.asn_model.specs.Notation.{Notation}
use Rattle.asn_model.specs.Shape.{Shape}
use Rattle.asn_model.specs.Tree.{Slot}
use Rattle.asn_model.specs.Value.{Value}
use Rattle.asn_model.specs.DecodesTo.{DecodesTo}
use Rattle.asn_model.specs.FailsWith.{Path}
use Rattle.asn_coding.specs.Answer.{OptionalFailsWith}
use Rattle.asn_coding.specs.Writing.{Frame, push, tail_names, Maps, Written}

-- The first pending slot is gone: it decodes to the value, or it was absent.
pub data TakesSlot (n : Notation) (s : Shape) (before after : List Slot) : Option Value → Type 0 where
  takes_value : (slot : Slot) (v : Value) → before ≡ slot ∷ after → DecodesTo n s slot v → TakesSlot n s before after (Some v)
  takes_nothing : before ≡ None ∷ after → TakesSlot n s before after None

-- What is ahead of a reader of fields: their names, and the slots that are pending.
pub data Ahead : Type 0 where
  ahead : List (List ℕ) → List Slot → Ahead

-- The first field ahead is taken: its slot and its name.
pub data TakesField (n : Notation) (s : Shape) : Ahead → Ahead → Option Value → Type 0 where
  takes_field : {names others : List (List ℕ)} {before after : List Slot} {o : Option Value} → TakesSlot n s before after o → others ≡ tail_names names → TakesField n s (Ahead.ahead names before) (Ahead.ahead others after) o

-- The first field ahead is taken: it has the value, or it was absent and the value is the one that stands for it.
pub data TakesDefault (n : Notation) (s : Shape) (before after : Ahead) (standing v : Value) : Type 0 where
  takes_own : TakesField n s before after (Some v) → TakesDefault n s before after standing v
  takes_standing : TakesField n s before after None → v ≡ standing → TakesDefault n s before after standing v

-- At a place within the field of this name, for a reason that has P.
pub data WithinField (name : List ℕ) (P : Path → Cause → Type 0) : Path → Cause → Type 0 where
  within_field : (p : Path) (w : Cause) → P p w → WithinField name P (name ∷ p) w

-- Why a required extension addition of this name is refused: it is missing, or at a place within it, for a reason that its slot has.
pub data AdditionFailsWith (n : Notation) (s : Shape) (name : List ℕ) (before : List Slot) : Path → Cause → Type 0 where
  addition_is_missing : (rest : List Slot) → before ≡ None ∷ rest → AdditionFailsWith n s name before [] (Cause.missing_field name)
  addition_fails : (p : Path) (w : Cause) → OptionalFailsWith n s before p w → AdditionFailsWith n s name before (name ∷ p) w

-- The last frame has one slot more: the value, which fits its shape and can be written, or an absent one.
pub data AddsSlot {S : Type 0} (holds : S → List Frame → Type 0) (n : Notation) (s : Shape) (old new : S) : Option Value → Type 0 where
  adds_value : (v : Value) → Written holds n s v old new → AddsSlot holds n s old new (Some v)
  adds_nothing : Maps holds (push None) old new → AddsSlot holds n s old new None
