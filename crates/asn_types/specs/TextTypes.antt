-- Types whose values are texts in both notations: character strings, times and decimals.
use Rattle.std.specs.Prelude.{◌≡◌, ◌⊎◌, ℕ, List, Result, Ok, Err, String, string_bytes}
use Rattle.std.specs.Global.{Global}
use Rattle.asn_core.specs.declared.codec.Codec.{Codec}
use Rattle.asn_core.specs.declared.codec.Codec.TheVariants.{Ber}
use Rattle.asn_fault.specs.Failure.{Failure, Cause, at_root, failure_of}
use Rattle.asn_fault.specs.EncodeCause.{EncodeCause, encode_cause}
use Rattle.asn_fault.specs.declared.decode.DecodeError.{DecodeError}
use Rattle.asn_fault.specs.declared.encode.EncodeError.{EncodeError}
use Rattle.asn_strings.specs.declared.fault.StringFault.{StringFault}
use Rattle.asn_strings.specs.declared.fault.StringFault.TheVariants.{Alphabet}
use Rattle.asn_strings.specs.declared.fault.StringFault.TheVariants as string
use Rattle.asn_times.specs.declared.faults.TimeFault.{TimeFault}
use Rattle.asn_times.specs.declared.faults.TimeFault.TheVariants as time
use Rattle.asn_core.specs.declared.tag.Tag.{Tag}
use Rattle.asn_model.specs.CharacterStrings.{outside_alphabet}
use Rattle.asn_model.specs.Leaf.{LeafFailure, refine}
use Rattle.asn_model.specs.Notation.{Notation, notation_of}
use Rattle.asn_model.specs.Shape.{Shape}
use Rattle.asn_model.specs.Value.{Value}
use Rattle.asn_model.specs.Writable.{outside_years}
use Rattle.asn_coding.specs.Answer.{OfPlace}
use Rattle.asn_coding.specs.Writing.{FailsToEncode, Frame, IsOutOfMemory, Puts}
use Rattle.asn_model.specs.declared.words.TheConstants.{NO_TELETEX}

-- The text is no value of the shape, and the error says so.
pub record IsNoText (s : Shape) (text : List ℕ) (codec : Codec) (e : Failure) : Type 0 where
  pub cause : Cause
  pub place : Codec
  pub refused : (c : Codec) → refine c s (Value.text text) ≡ Err (LeafFailure.because cause)
  pub is : e ≡ at_root cause place
  pub of : OfPlace (notation_of codec) cause place

-- What a type makes of a text for a decoder of this codec: the value of the shape that the text is, or the refusal of the text, or of memory.
abbrev pub MakesOfText : {A : Type 0} → Shape → (A → Value) → Codec → List ℕ → Result A DecodeError → Type 0
MakesOfText s value codec text (Ok x) = (c : Codec) → refine c s (Value.text text) ≡ Ok (value x)
MakesOfText s value codec text (Err e) = IsNoText s text codec (failure_of e) ⊎ (failure_of e ≡ at_root Cause.out_of_memory codec)

-- The error refuses a text for this fault of the string type with this tag, or memory.
abbrev pub IsStringRefusal : Tag → StringFault → Codec → Failure → Type 0
IsStringRefusal tag (Alphabet place) codec e = (e ≡ at_root (outside_alphabet tag place) codec) ⊎ (e ≡ at_root Cause.out_of_memory codec)
IsStringRefusal tag string.OutOfMemory codec e = e ≡ at_root Cause.out_of_memory codec

-- The time that was read of a text, or the refusal of the text.
abbrev pub IsTimeOf : {A : Type 0} → Result A TimeFault → List ℕ → Result A DecodeError → Type 0
IsTimeOf (Ok time) text r = r ≡ Ok time
IsTimeOf (Err fault) text (Ok time) = ⊥
IsTimeOf (Err fault) text (Err e) = failure_of e ≡ at_root (Cause.invalid_date text) Ber

-- The error says why a value isn't written, or memory ran out.
abbrev pub IsEncodeFailure : Notation → EncodeCause → EncodeError → Type 0
IsEncodeFailure n cause e = IsOutOfMemory n e ⊎ ((encode_cause e.kind ≡ cause) × (notation_of e.codec ≡ n))

-- The text that was written for a time is put, or the error says why it has none, or why it isn't put.
abbrev pub IsPutTime : {S : Type 0} → (S → List Frame → Type 0) → Notation → Result (String Global) TimeFault → S → Result (Unit {0}) EncodeError → S → Type 0
IsPutTime holds n (Ok text) old (Ok u) new = Puts holds n (Value.text (string_bytes text)) old new
IsPutTime holds n (Ok text) old (Err e) new = FailsToEncode n (Value.text (string_bytes text)) e
IsPutTime holds n (Err fault) old (Ok u) new = ⊥
IsPutTime holds n (Err time.OutOfMemory) old (Err e) new = IsOutOfMemory n e
IsPutTime holds n (Err fault) old (Err e) new = IsEncodeFailure n outside_years e

-- Why no TeletexString is written or read.
abbrev pub no_teletex : List ℕ
no_teletex = NO_TELETEX.now
