-- What is answered to a call for a value without parts.
use Rattle.std.specs.Prelude.{◌≡◌, ◌⊎◌, Some, Result, Ok, Err}
use Rattle.asn_core.specs.declared.codec.Codec.TheVariants.{Avn}
use Rattle.asn_fault.specs.Failure.{Cause, Failure, at_root, failure_of}
use Rattle.asn_fault.specs.declared.decode.DecodeError.{DecodeError}
use Rattle.asn_model.specs.declared.leaves.LeafKind.{LeafKind}
use Rattle.asn_model.specs.declared.leaves.OwnedLeaf.{OwnedLeaf}
use Rattle.asn_coding.specs.Answer.{OfPlace, Refuses}
use Rattle.asn_traits.specs.FailsWith.{FailsWith}
use Rattle.asn_traits.specs.Leaf.{kind_of}
use Rattle.asn_traits.specs.Notation.{Notation}
use Rattle.asn_coding.specs.Opening.{IsTaken}
use Rattle.asn_traits.specs.Shape.{Shape}
use Rattle.asn_traits.specs.Tree.{Tree}

-- The tree decodes to no value of a shape whose values have the kind, and the error says why, or memory ran out.
abbrev pub RefusesKind : LeafKind → Tree → Failure → Type 0
RefusesKind k t failure = (s : Shape) → kind_of s ≡ Some k → Refuses Notation.avn (FailsWith Notation.avn s (Some t)) failure

-- The answer is the value of the kind that the tree is, or the error says why it is none, or memory ran out.
abbrev pub LeafAnswer : LeafKind → Tree → Result OwnedLeaf DecodeError → Type 0
LeafAnswer k t (Ok x) = IsTaken Notation.avn k t x
LeafAnswer k t (Err e) = RefusesKind k t (failure_of e)

-- The error is of this cause.
abbrev pub IsCause : Cause → Failure → Type 0
IsCause cause failure = (failure ≡ at_root cause Avn) ⊎ (failure ≡ at_root Cause.out_of_memory Avn)

-- The error says what is wrong, or memory ran out.
abbrev pub IsWrong : {A : Type 0} → Result A Cause → Failure → Type 0
IsWrong r failure = ((cause : Cause) × (r ≡ Err cause) × OfPlace Notation.avn cause Avn × (failure ≡ at_root cause Avn)) ⊎ (failure ≡ at_root Cause.out_of_memory Avn)
