-- Why a value is not written, with every text as its bytes.
use Rattle.std.specs.Prelude.{ℕ, List, string_bytes, Bool, true, false}
use Rattle.asn_core.specs.declared.codec.Codec.{Codec}
use Rattle.asn_core.specs.declared.codec.Codec.TheVariants as codec
use Rattle.asn_core.specs.declared.constraint.Bounded.{Bounded}
use Rattle.asn_core.specs.declared.whole_number.WholeNumber.{WholeNumber}
use Rattle.asn_fault.specs.declared.codec_specific.CodecEncodeError.{CodecEncodeError}
use Rattle.asn_fault.specs.declared.codec_specific.CodecEncodeError.TheVariants.{Ber, Cer, Der, Uper, Aper, Jer, Coer, Xer, Avn}
use Rattle.asn_fault.specs.declared.jer.JerEncodeErrorKind.TheVariants.{NoRootValueFound, ExceedsSupportedIntSize, InvalidCharacter}
use Rattle.asn_fault.specs.declared.avn.AvnEncodeErrorKind.TheVariants.{AvnNoRootValueFound, AvnEncoder}
use Rattle.asn_fault.specs.declared.encode.EncodeError.{EncodeError}
use Rattle.asn_fault.specs.declared.encode.EncodeErrorKind.{EncodeErrorKind}
use Rattle.asn_fault.specs.declared.encode.EncodeErrorKind.TheVariants.{Custom, CodecSpecific, SizeConstraintNotSatisfied, VariantNotInChoice, RealNotSuppored, OutOfMemory}

-- What keeps a value from being written, where JER and AVN share a kind the codec that has it.
pub data EncodeCause : Type 0 where
  exceeds_supported_int_size : WholeNumber → EncodeCause
  size_constraint_not_satisfied : ℕ → Bounded ℕ → EncodeCause
  invalid_character : ℕ → EncodeCause
  avn_encoder : List ℕ → EncodeCause
  custom : List ℕ → EncodeCause
  variant_not_in_choice : EncodeCause
  no_root_value : Codec → EncodeCause
  real_not_supported : EncodeCause
  out_of_memory : EncodeCause
  -- A kind that no text notation has, as it is.
  other : EncodeErrorKind → EncodeCause

-- What is wrong, of a kind that one set of encoding rules has.
abbrev pub codec_encode_cause : CodecEncodeError → EncodeCause
codec_encode_cause (Jer NoRootValueFound) = EncodeCause.no_root_value codec.Jer
codec_encode_cause (Jer (ExceedsSupportedIntSize value)) = EncodeCause.exceeds_supported_int_size value
codec_encode_cause (Jer (InvalidCharacter error)) = EncodeCause.invalid_character error.valid_up_to
codec_encode_cause (Avn AvnNoRootValueFound) = EncodeCause.no_root_value codec.Avn
codec_encode_cause (Avn (AvnEncoder msg)) = EncodeCause.avn_encoder (string_bytes msg)
codec_encode_cause inner = EncodeCause.other (CodecSpecific inner)

-- What keeps a value from being written, by the kind of the error.
abbrev pub encode_cause : EncodeErrorKind → EncodeCause
encode_cause (Custom msg) = EncodeCause.custom (string_bytes msg)
encode_cause (CodecSpecific inner) = codec_encode_cause inner
encode_cause (SizeConstraintNotSatisfied size expected) = EncodeCause.size_constraint_not_satisfied size expected
encode_cause VariantNotInChoice = EncodeCause.variant_not_in_choice
encode_cause RealNotSuppored = EncodeCause.real_not_supported
encode_cause OutOfMemory = EncodeCause.out_of_memory
encode_cause kind = EncodeCause.other kind

-- The set of encoding rules that has the kind.
abbrev pub encode_codec_of : CodecEncodeError → Codec
encode_codec_of (Ber kind) = codec.Ber
encode_codec_of (Cer kind) = codec.Cer
encode_codec_of (Der kind) = codec.Der
encode_codec_of (Uper kind) = codec.Uper
encode_codec_of (Aper kind) = codec.Aper
encode_codec_of (Jer kind) = codec.Jer
encode_codec_of (Coer kind) = codec.Coer
encode_codec_of (Xer kind) = codec.Xer
encode_codec_of (Avn kind) = codec.Avn

-- The error of this kind by this codec.
abbrev pub encode_error : EncodeErrorKind → Codec → EncodeError
encode_error kind codec = record { kind = kind; codec = codec }

-- The refusal by the set of encoding rules that has the kind.
abbrev pub codec_refusal : CodecEncodeError → EncodeError
codec_refusal inner = encode_error (CodecSpecific inner) (encode_codec_of inner)

-- Whether memory ran out.
abbrev pub is_encode_out_of_memory : EncodeCause → Bool
is_encode_out_of_memory EncodeCause.out_of_memory = true
is_encode_out_of_memory _ = false
