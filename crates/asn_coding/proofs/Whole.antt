-- A whole tree's answer, and completeness of reading and writing.
use Rattle.std.proofs.Common.{◌≡◌, sym, ◌∙◌, subst, ℕ, List, ◌∷◌, length, Option, Some, None, Result, Ok, Err, true, true≢false, inl, inr}
use Rattle.asn_fault.specs.Failure.{Failure, is_out_of_memory}
use Rattle.asn_fault.specs.EncodeCause.{EncodeCause}
use Rattle.asn_fault.specs.declared.encode.EncodeError.{EncodeError}
use Rattle.asn_model.specs.BitLeaves.{LengthStands, LengthBlocks}
use Rattle.asn_model.specs.Notation.{Notation, IsText}
use Rattle.asn_model.specs.Shape.{Shape}
use Rattle.asn_model.specs.Tree.{Tree, Slot}
use Rattle.asn_model.specs.Value.{Value, Values, Slots}
use Rattle.asn_model.specs.DecodesTo.{DecodesTo}
use Rattle.asn_model.specs.FailsWith.{FailsWith}
use Rattle.asn_coding.specs.Answer.{AnswerBy, Refuses}
use Rattle.asn_coding.specs.Root.{RootAnswerBy, ReadsBy}
use Rattle.asn_model.specs.Writable.{Writable, WritableEach, WritableSlots, FirstUnencodable, EachFirstUnencodable, SomeUnencodable, SlotsFirstUnencodable}
use Rattle.asn_coding.specs.Writing.{FailsToEncode, IsOutOfMemory}
use Rattle.asn_model.proofs.Meanings.{one, apart, not_other}
use Rattle.asn_coding.proofs.Steps.{same_head}

-- The answer of a reader whose first slot is the tree.
pub root_answer : {A E : Type 0} (failure : E → Failure) (n : Notation) (s : Shape) (value : A → Value) (t : Tree) (before after rest : List Slot) (r : Result A E) → before ≡ Some t ∷ rest → AnswerBy failure n s value before r after → RootAnswerBy failure n s value t r
root_answer failure n s value t before after rest (Ok x) e (slot, shown, says) = subst (λ c. DecodesTo n s c (value x)) (same_head _ _ _ _ (sym shown ∙ e)) says
root_answer failure n s value t before after rest (Err error) e h = rw e at h

-- What decodes to a value is refused for lack of memory alone.
pub read_complete : {n : Notation} {s : Shape} {slot : Slot} {e : Failure} → IsText n → Refuses n (FailsWith n s slot) e → (v : Value) → DecodesTo n s slot v → is_out_of_memory e ≡ true
read_complete text (Refuses.no_memory m) v says = m.0
read_complete text (Refuses.stopped h l c) v says = absurd (apart text says h)
read_complete {n} text (Refuses.refuses_free o) v says = absurd (not_other n text o)

-- What decodes to a value is read as that value, unless memory runs out.
pub root_complete : {A E : Type 0} (failure : E → Failure) (n : Notation) (s : Shape) (value : A → Value) (t : Tree) (r : Result A E) → IsText n → RootAnswerBy failure n s value t r → (v : Value) → DecodesTo n s (Some t) v → ReadsBy failure value v r
root_complete failure n s value t (Ok x) text h v says = one text h says
root_complete failure n s value t (Err e) text h v says = read_complete text h v says

length_not_blocked : (n : Notation) (size : Option ℕ) (k : ℕ) (cause : EncodeCause) → LengthStands n size k → LengthBlocks n size k cause → ⊥
length_not_blocked Notation.jer (Some m) k cause stands blocks = blocks.0 stands
length_not_blocked Notation.jer None k cause stands blocks = blocks
length_not_blocked Notation.avn size k cause stands blocks = blocks
length_not_blocked Notation.other size k cause stands blocks = blocks

mutual
  -- What can be written has no part that cannot.
  pub not_blocked : (n : Notation) (v : Value) (cause : EncodeCause) → Writable n v → FirstUnencodable n v cause → ⊥
  not_blocked n (Value.int k) cause w b = b.0 w
  not_blocked n (Value.text t) cause w b = true≢false (sym w ∙ b.0)
  not_blocked n (Value.units us) cause w b = true≢false (sym w ∙ b.0)
  not_blocked n (Value.utc k) cause w b = b.0 w
  not_blocked n (Value.gen k) cause w b = b.0 w
  not_blocked n (Value.day k) cause w b = b.0 w
  not_blocked n (Value.bits bits size) cause w b = length_not_blocked n size (length bits) cause w b
  not_blocked n (Value.members ms) cause w b = slots_not_blocked n ms cause w b
  not_blocked n (Value.list vs) cause w b = each_not_blocked n vs cause w b
  not_blocked n (Value.bag vs) cause w b = none_not_blocked n vs cause w b
  not_blocked n (Value.choice i v) cause w b = not_blocked n v cause w b
  not_blocked n v cause w b = b

  each_not_blocked : (n : Notation) (vs : Values) (cause : EncodeCause) → WritableEach n vs → EachFirstUnencodable n vs cause → ⊥
  each_not_blocked n Values.no_values cause w b = b
  each_not_blocked n (Values.value v vs) cause w (inl b) = not_blocked n v cause w.0 b
  each_not_blocked n (Values.value v vs) cause w (inr b) = each_not_blocked n vs cause w.1 b.1

  none_not_blocked : (n : Notation) (vs : Values) (cause : EncodeCause) → WritableEach n vs → SomeUnencodable n vs cause → ⊥
  none_not_blocked n Values.no_values cause w b = b
  none_not_blocked n (Values.value v vs) cause w (inl b) = not_blocked n v cause w.0 b
  none_not_blocked n (Values.value v vs) cause w (inr b) = none_not_blocked n vs cause w.1 b

  slots_not_blocked : (n : Notation) (ms : Slots) (cause : EncodeCause) → WritableSlots n ms → SlotsFirstUnencodable n ms cause → ⊥
  slots_not_blocked n Slots.no_slots cause w b = b
  slots_not_blocked n (Slots.absent m ms) cause w b = slots_not_blocked n ms cause w b
  slots_not_blocked n (Slots.present m v ms) cause w (inl b) = not_blocked n v cause w.0 b
  slots_not_blocked n (Slots.present m v ms) cause w (inr b) = slots_not_blocked n ms cause w.1 b.1

-- What can be written is refused for lack of memory alone.
pub write_complete : {n : Notation} {v : Value} {e : EncodeError} → IsText n → FailsToEncode n v e → Writable n v → IsOutOfMemory n e
write_complete text (FailsToEncode.no_memory o) w = o
write_complete {n} {v} text (FailsToEncode.blocked b c) w = absurd (not_blocked n v _ w b)
write_complete {n} text (FailsToEncode.write_free o) w = absurd (not_other n text o)
