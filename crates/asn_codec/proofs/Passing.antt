-- What a conversion answers, from what reading and writing answer.
use Rattle.std.proofs.Common.{◌≡◌, refl, sym, subst, ℕ, List, true, ◌⊎◌, inl, inr}
use Rattle.asn_core.specs.declared.codec.Codec.{Codec}
use Rattle.asn_fault.specs.Failure.{Failure, Cause, at_root}
use Rattle.asn_fault.specs.EncodeCause.{encode_cause, is_encode_out_of_memory}
use Rattle.asn_fault.specs.declared.encode.EncodeError.{EncodeError}
use Rattle.asn_traits.specs.Notation.{Notation, notation_of}
use Rattle.asn_traits.specs.Shape.{Shape}
use Rattle.asn_traits.specs.Value.{Value}
use Rattle.asn_traits.specs.Writable.{Writable}
use Rattle.asn_codec.specs.Conversion.{IsMemoryRefusal, Refusal, Refuses, is_refusal_out_of_memory}
use Rattle.asn_codec.specs.Texts.{TextDecodesTo, IsDecodeFailure, IsUnencodable}

-- a value that is read and not written is a refusal, unless memory ran out
pub refused_writing : (limit : ℕ) (from to : Codec) (s : Shape) (text : List ℕ) (v : Value) (e : EncodeError) → TextDecodesTo limit (notation_of from) s text v
    → ((is_encode_out_of_memory (encode_cause e.kind) ≡ true) ⊎ IsUnencodable to v (encode_cause e.kind)) × (e.codec ≡ to)
    → IsMemoryRefusal from to (Refusal.encode (encode_cause e.kind) e.codec) ⊎ Refuses limit from to s text (Refusal.encode (encode_cause e.kind) e.codec)
refused_writing limit from to s text v e says (inl m, same) = inl (subst (λ c. IsMemoryRefusal from to (Refusal.encode (encode_cause e.kind) c)) (sym same) (IsMemoryRefusal.in_writing _ m))
refused_writing limit from to s text v e says (inr h, same) = inr (subst (λ c. Refuses limit from to s text (Refusal.encode (encode_cause e.kind) c)) (sym same) (Refuses.unwritten v _ says h))

-- such a refusal says that memory ran out
pub memory_refused : (from to : Codec) (r : Refusal) → IsMemoryRefusal from to r → is_refusal_out_of_memory r ≡ true
memory_refused from to _ IsMemoryRefusal.in_reading = refl
memory_refused from to _ (IsMemoryRefusal.in_writing cause is) = is

-- what is equal to a value that can be written can be written
pub writable_same : (n : Notation) (v w : Value) → v ≡ w → Writable n w → Writable n v
writable_same n v w e h = rw e h

-- a text that is not read is a refusal, unless memory ran out
pub refused_reading : (limit : ℕ) (from to : Codec) (s : Shape) (text : List ℕ) (failure : Failure) → (failure ≡ at_root Cause.out_of_memory from) ⊎ IsDecodeFailure limit from s text failure
    → IsMemoryRefusal from to (Refusal.decode failure) ⊎ Refuses limit from to s text (Refusal.decode failure)
refused_reading limit from to s text failure (inl m) = inl (subst (λ f. IsMemoryRefusal from to (Refusal.decode f)) (sym m) IsMemoryRefusal.in_reading)
refused_reading limit from to s text failure (inr h) = inr (Refuses.unread failure h)
