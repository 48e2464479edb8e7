-- Lack of memory as a refusal, and the value of an alternative.
use Rattle.std.proofs.Common.{◌≡◌, ◌∙◌, sym, subst, ℕ, List, ◌∷◌, Ok, String, Box, Global, string_bytes}
use Rattle.asn_core.specs.declared.codec.Codec.{Codec}
use Rattle.asn_coding.specs.Answer.{AnswerBy, Refuses}
use Rattle.asn_coding.proofs.Refusing.{out_of_memory}
use Rattle.asn_dynamic_reading.specs.fitting.HeldValue.{IsHeldValue}
use Rattle.asn_dynamic_faults.specs.DynFailure.{dyn_failure}
use Rattle.asn_dynamic_faults.specs.declared.errors.DynError.{DynError}
use Rattle.asn_dynamic_values.specs.DynView.{dyn_value}
use Rattle.asn_dynamic_values.specs.declared.value.DynValue.{DynValue, Choice}
use Rattle.asn_dynamic_values.proofs.Views.{view-Choice}
use Rattle.asn_fault.specs.Failure.{Cause, at_root}
use Rattle.asn_model.specs.FailsWith.{FailsWith}
use Rattle.asn_model.specs.Notation.{Notation, notation_of}
use Rattle.asn_model.specs.Shape.{Shape}
use Rattle.asn_model.specs.Tree.{Slot, head_slot}
use Rattle.asn_model.specs.Value.{Value}
use Rattle.asn_parts.specs.Listed.{PayloadBy}

-- Memory that ran out refuses by any shape.
pub memory-refused : {n : Notation} (s : Shape) (before : List Slot) (e : DynError) → (codec : Codec) × (notation_of codec ≡ n) × (dyn_failure e ≡ at_root Cause.out_of_memory codec) → Refuses n (FailsWith n s (head_slot before)) (dyn_failure e)
memory-refused {n} s before e w = out_of_memory {n = n} {P = FailsWith n s (head_slot before)} w.0 (dyn_failure e) w.2 w.1

module _ (identifier : String Global) (box : Box DynValue Global) (payload : DynValue) (holds : box.value ≡ payload) where
  -- The payload stands under the identifier.
  pub payload-said : {n : Notation} (s : Shape) (id : List ℕ) (before after : List Slot) → string_bytes identifier ≡ id → AnswerBy {E = DynError} dyn_failure n s dyn_value before (Ok payload) after → PayloadBy {E = DynError} dyn_failure n id s dyn_value before (Ok (Choice identifier box)) after
  payload-said s id before after is (slot, was, says) =
      (slot, dyn_value payload, was, says, view-Choice identifier box ∙ (λ i. Value.choice (is i) (dyn_value (holds i))))

  pub payload-held : IsHeldValue (dyn_value payload) → IsHeldValue (dyn_value (Choice identifier box))
  payload-held h = subst IsHeldValue (sym (view-Choice identifier box)) (subst (λ v. IsHeldValue (dyn_value v)) (sym holds) h)
