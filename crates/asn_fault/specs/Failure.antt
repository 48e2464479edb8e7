-- What an error of reading says: the fields that lead to the place, each with the codec of that nesting level, and what is wrong there.
use Rattle.std.specs.Prelude.{◌≡◌, ℕ, List, [], ◌∷◌, string_bytes, Bool, true, false, if◌then◌else◌}
use Rattle.asn_core.specs.declared.codec.Codec.{Codec}
use Rattle.asn_core.specs.declared.codec.Codec.TheVariants as codec
use Rattle.asn_core.specs.declared.tag.Tag.{Tag}
use Rattle.asn_fault.specs.declared.codec_specific.CodecDecodeError.{CodecDecodeError}
use Rattle.asn_fault.specs.declared.codec_specific.CodecDecodeError.TheVariants.{Ber, Cer, Der, Uper, Aper, Jer, Oer, Coer, Xer, Avn}
use Rattle.asn_fault.specs.declared.ber.BerDecodeErrorKind.TheVariants.{InvalidDate}
use Rattle.asn_fault.specs.declared.jer.JerDecodeErrorKind.TheVariants.{EndOfInput, TypeMismatch, InvalidJerOctetString, InvalidOIDString, InvalidEnumDiscriminant}
use Rattle.asn_fault.specs.declared.avn.AvnDecodeErrorKind.TheVariants.{AvnEndOfInput, AvnTypeMismatch, InvalidOid, AvnInvalidEnumDiscriminant, UnexpectedToken, IntegerParseError}
use Rattle.asn_fault.specs.declared.decode.DecodeErrorKind.{DecodeErrorKind}
use Rattle.asn_fault.specs.declared.decode.DecodeErrorKind.TheVariants.{CodecSpecific, Custom, DuplicateField, FieldError', ChoiceIndexExceedsPlatformWidth', IntegerOverflow, MissingField, RealNotSupported, Parser, StringConversionFailed, NoValidChoice, ExceedsMaxParseDepth, OutOfMemory}
use Rattle.asn_fault.specs.declared.decode.DecodeError.{DecodeError}

-- What is wrong at the place itself: a kind of refusal other than `FieldError`. Those of the text notations have every text as its bytes, and the codec where JER and AVN share the kind.
pub data Cause : Type 0 where
  parser : List ℕ → Cause
  real_not_supported : Cause
  unexpected_token : List ℕ → Cause
  exceeds_max_parse_depth : Cause
  type_mismatch : Codec → List ℕ → List ℕ → Cause
  end_of_input : Codec → Cause
  missing_field : List ℕ → Cause
  duplicate_field : List ℕ → Cause
  integer_overflow : ℕ → Cause
  invalid_jer_octet_string : Cause
  invalid_oid_string : List ℕ → Cause
  invalid_oid : List ℕ → Cause
  invalid_enum_discriminant : Codec → List ℕ → Cause
  no_valid_choice : List ℕ → Cause
  string_conversion_failed : Tag → List ℕ → Cause
  invalid_date : List ℕ → Cause
  integer_parse_error : List ℕ → Cause
  custom : List ℕ → Cause
  out_of_memory : Cause
  -- A kind that no text notation has, as it is.
  other : DecodeErrorKind → Cause

-- A field on the way, and the codec of that nesting level.
pub record Level : Type 0 where
  pub name : List ℕ
  pub codec : Codec

-- A refusal: the fields from the root to the place, what is wrong there, and the codec there.
pub record Failure : Type 0 where
  pub path : List Level
  pub cause : Cause
  pub codec : Codec

-- A refusal at the root.
abbrev pub at_root : Cause → Codec → Failure
at_root cause codec = record { path = []; cause = cause; codec = codec }

-- Whether memory ran out at the end of an empty path.
abbrev pub is_out_of_memory_at : List Level → Cause → Bool
is_out_of_memory_at [] Cause.out_of_memory = true
is_out_of_memory_at _ _ = false

-- Whether memory ran out, at no field.
abbrev pub is_out_of_memory : Failure → Bool
is_out_of_memory failure = is_out_of_memory_at failure.path failure.cause

-- The refusal of the value of a field.
abbrev pub within : List ℕ → Codec → Failure → Failure
within name codec failure = record { path = record { name = name; codec = codec } ∷ failure.path; cause = failure.cause; codec = failure.codec }

-- The refusal of the value of a field, with lack of memory left at no field.
abbrev pub wrapped : List ℕ → Codec → Failure → Failure
wrapped name codec failure = if is_out_of_memory failure then at_root Cause.out_of_memory codec else within name codec failure

-- The error of this kind by this codec.
abbrev pub decode_error : DecodeErrorKind → Codec → DecodeError
decode_error kind codec = record { kind = kind; codec = codec }

-- What is wrong, of a kind that one set of encoding rules has.
abbrev pub codec_cause : CodecDecodeError → Cause
codec_cause (Ber (InvalidDate msg)) = Cause.invalid_date (string_bytes msg)
codec_cause (Jer EndOfInput) = Cause.end_of_input codec.Jer
codec_cause (Jer (TypeMismatch needed found)) = Cause.type_mismatch codec.Jer needed.now (string_bytes found)
codec_cause (Jer InvalidJerOctetString) = Cause.invalid_jer_octet_string
codec_cause (Jer (InvalidOIDString value)) = Cause.invalid_oid_string (string_bytes value)
codec_cause (Jer (InvalidEnumDiscriminant text)) = Cause.invalid_enum_discriminant codec.Jer (string_bytes text)
codec_cause (Avn AvnEndOfInput) = Cause.end_of_input codec.Avn
codec_cause (Avn (AvnTypeMismatch needed found)) = Cause.type_mismatch codec.Avn needed.now (string_bytes found)
codec_cause (Avn (InvalidOid value)) = Cause.invalid_oid (string_bytes value)
codec_cause (Avn (AvnInvalidEnumDiscriminant text)) = Cause.invalid_enum_discriminant codec.Avn (string_bytes text)
codec_cause (Avn (UnexpectedToken found)) = Cause.unexpected_token (string_bytes found)
codec_cause (Avn (IntegerParseError msg)) = Cause.integer_parse_error (string_bytes msg)
codec_cause inner = Cause.other (CodecSpecific inner)

-- The refusal of this kind by this codec.
abbrev pub kind_failure : DecodeErrorKind → Codec → Failure
kind_failure (CodecSpecific inner) c = at_root (codec_cause inner) c
kind_failure (Custom msg) c = at_root (Cause.custom (string_bytes msg)) c
kind_failure (FieldError' name p kind codec) c = within name.now c (kind_failure kind codec)
kind_failure (IntegerOverflow width) c = at_root (Cause.integer_overflow width) c
kind_failure (MissingField name) c = at_root (Cause.missing_field name.now) c
kind_failure (DuplicateField name) c = at_root (Cause.duplicate_field name.now) c
kind_failure RealNotSupported c = at_root Cause.real_not_supported c
kind_failure (Parser msg) c = at_root (Cause.parser (string_bytes msg)) c
kind_failure (StringConversionFailed tag msg) c = at_root (Cause.string_conversion_failed tag (string_bytes msg)) c
kind_failure (NoValidChoice name) c = at_root (Cause.no_valid_choice name.now) c
kind_failure ExceedsMaxParseDepth c = at_root Cause.exceeds_max_parse_depth c
kind_failure OutOfMemory c = at_root Cause.out_of_memory c
kind_failure kind c = at_root (Cause.other kind) c

-- What an error of reading says.
abbrev pub failure_of : DecodeError → Failure
failure_of error = kind_failure error.kind error.codec

-- The kind at the end of a chain of `FieldError`s.
abbrev pub root_kind : DecodeErrorKind → DecodeErrorKind
root_kind (FieldError' name p kind codec) = root_kind kind
root_kind kind = kind

-- The set of encoding rules that has the kind.
abbrev pub decode_codec_of : CodecDecodeError → Codec
decode_codec_of (Ber kind) = codec.Ber
decode_codec_of (Cer kind) = codec.Cer
decode_codec_of (Der kind) = codec.Der
decode_codec_of (Uper kind) = codec.Uper
decode_codec_of (Aper kind) = codec.Aper
decode_codec_of (Jer kind) = codec.Jer
decode_codec_of (Oer kind) = codec.Oer
decode_codec_of (Coer kind) = codec.Coer
decode_codec_of (Xer kind) = codec.Xer
decode_codec_of (Avn kind) = codec.Avn

-- The refusal by the set of encoding rules that has the kind.
abbrev pub codec_failure : CodecDecodeError → Failure
codec_failure inner = at_root (codec_cause inner) (decode_codec_of inner)

-- The kind is that the index of an alternative, of so many octets, is too wide, for the reason that the error states.
abbrev pub ExceedsWidth : ℕ → DecodeError → DecodeErrorKind → Type 0
ExceedsWidth needed present (ChoiceIndexExceedsPlatformWidth' octets p kind codec) = (octets ≡ needed) × (kind ≡ present.kind) × (codec ≡ present.codec)
ExceedsWidth needed present kind = ⊥
