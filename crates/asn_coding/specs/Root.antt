-- What is returned of a whole tree.
use Rattle.std.specs.Prelude.{◌≡◌, Some, true, Result, Ok, Err}
use Rattle.asn_fault.specs.Failure.{Failure, failure_of, is_out_of_memory}
use Rattle.asn_fault.specs.declared.decode.DecodeError.{DecodeError}
use Rattle.asn_model.specs.Notation.{Notation}
use Rattle.asn_model.specs.Shape.{Shape}
use Rattle.asn_model.specs.Tree.{Tree}
use Rattle.asn_model.specs.Value.{Value}
use Rattle.asn_model.specs.DecodesTo.{DecodesTo}
use Rattle.asn_model.specs.FailsWith.{FailsWith}
use Rattle.asn_coding.specs.Answer.{Refuses}

-- The tree decodes to the value, or it is refused for a reason that it has.
abbrev pub RootAnswerBy : {A E : Type 0} → (E → Failure) → Notation → Shape → (A → Value) → Tree → Result A E → Type 0
RootAnswerBy failure n s value t (Ok x) = DecodesTo n s (Some t) (value x)
RootAnswerBy failure n s value t (Err e) = Refuses n (FailsWith n s (Some t)) (failure e)

-- What is read stands for this value, unless memory ran out.
abbrev pub ReadsBy : {A E : Type 0} → (E → Failure) → (A → Value) → Value → Result A E → Type 0
ReadsBy failure value v (Ok x) = value x ≡ v
ReadsBy failure value v (Err e) = is_out_of_memory (failure e) ≡ true

-- The same, with the error of every reader.
abbrev pub Reads : {A : Type 0} → (A → Value) → Value → Result A DecodeError → Type 0
Reads value v r = ReadsBy failure_of value v r
