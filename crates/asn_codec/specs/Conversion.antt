-- What converting a text from one codec to another answers.
use Rattle.std.specs.Prelude.{◌≡◌, ℕ, List, Bool, true}
use Rattle.asn_core.specs.declared.codec.Codec.{Codec}
use Rattle.asn_fault.specs.Failure.{Failure, Cause, at_root, is_out_of_memory, failure_of}
use Rattle.asn_fault.specs.EncodeCause.{EncodeCause, encode_cause, is_encode_out_of_memory}
use Rattle.asn_fault.specs.Texts.{decode_error_text, encode_error_text}
use Rattle.asn_traits.specs.Canonical.{canonical_text}
use Rattle.asn_traits.specs.Notation.{IsText, notation_of}
use Rattle.asn_traits.specs.Shape.{Shape}
use Rattle.asn_traits.specs.Value.{Value, Fits}
use Rattle.asn_traits.specs.Writable.{Writable}
use Rattle.asn_codec.specs.Texts.{TextDecodesTo, IsDecodeFailure, IsUnencodable}
use Rattle.asn_codec.specs.declared.conversion.TranscodeError.{TranscodeError}
use Rattle.asn_codec.specs.declared.conversion.TranscodeError.TheVariants.{Decode, Encode}

-- the output is the canonical text of the value that the input decodes to with this limit on the levels of AVN, which fits the shape and can be written by the other codec, a text notation
pub record Converts (limit : ℕ) (from to : Codec) (s : Shape) (input output : List ℕ) : Type 0 where
  pub notation : IsText (notation_of to)
  pub value : Value
  pub says : TextDecodesTo limit (notation_of from) s input value
  pub fits : Fits s value
  pub writable : Writable (notation_of to) value
  pub text : output ≡ canonical_text (notation_of to) value

-- the input decodes with this limit to a value by the shape that the other codec, a text notation, can write
pub record IsConvertible (limit : ℕ) (from to : Codec) (s : Shape) (input : List ℕ) : Type 0 where
  pub notation : IsText (notation_of to)
  pub value : Value
  pub says : TextDecodesTo limit (notation_of from) s input value
  pub writable : Writable (notation_of to) value

-- a refusal: of reading, or of writing by the codec that refused
pub data Refusal : Type 0 where
  decode : Failure → Refusal
  encode : EncodeCause → Codec → Refusal

-- what an error of converting says
abbrev pub refusal_of : TranscodeError → Refusal
refusal_of (Decode e) = Refusal.decode (failure_of e)
refusal_of (Encode e) = Refusal.encode (encode_cause e.kind) e.codec

-- the text of the inner error
abbrev pub error_text : TranscodeError → List ℕ
error_text (Decode e) = decode_error_text e
error_text (Encode e) = encode_error_text e

-- memory ran out
abbrev pub is_refusal_out_of_memory : Refusal → Bool
is_refusal_out_of_memory (Refusal.decode failure) = is_out_of_memory failure
is_refusal_out_of_memory (Refusal.encode cause codec) = is_encode_out_of_memory cause

-- memory ran out, in the call of the codec that the refusal names
pub data IsMemoryRefusal (from to : Codec) : Refusal → Type 0 where
  in_reading : IsMemoryRefusal from to (Refusal.decode (at_root Cause.out_of_memory from))
  in_writing : (cause : EncodeCause) → is_encode_out_of_memory cause ≡ true → IsMemoryRefusal from to (Refusal.encode cause to)

-- the input is refused so: it is not read, or the value that it decodes to is not written
pub data Refuses (limit : ℕ) (from to : Codec) (s : Shape) (input : List ℕ) : Refusal → Type 0 where
  unread : (failure : Failure) → IsDecodeFailure limit from s input failure → Refuses limit from to s input (Refusal.decode failure)
  unwritten : (v : Value) (cause : EncodeCause) → TextDecodesTo limit (notation_of from) s input v → IsUnencodable to v cause → Refuses limit from to s input (Refusal.encode cause to)
