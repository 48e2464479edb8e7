-- The texts that the errors print.
use Rattle.std.specs.Prelude.{ℕ, List, [], ◌++◌, Option, Some, None, Bool, if◌then◌else◌, codes, decimal, string_bytes}
use Rattle.std.specs.Fmt.{signed_decimal}
use Rattle.asn_core.specs.Texts.{codec_name, class_name, tag_text, whole_number_text, bounded_text}
use Rattle.asn_core.specs.declared.codec.Codec.{Codec}
use Rattle.asn_fault.specs.Joined.{joined}
use Rattle.asn_fault.specs.declared.text_fault.DigitFault.{DigitFault}
use Rattle.asn_fault.specs.declared.text_fault.DigitFault.TheVariants.{Empty, InvalidDigit, TooLarge}
use Rattle.asn_fault.specs.declared.ber.BerDecodeErrorKind.{BerDecodeErrorKind}
use Rattle.asn_fault.specs.declared.ber.BerDecodeErrorKind.TheVariants as ber
use Rattle.asn_fault.specs.declared.ber.DerDecodeErrorKind.{DerDecodeErrorKind}
use Rattle.asn_fault.specs.declared.ber.DerDecodeErrorKind.TheVariants.{ConstructedEncodingNotAllowed}
use Rattle.asn_fault.specs.declared.ber.BerEncodeErrorKind.{BerEncodeErrorKind}
use Rattle.asn_fault.specs.declared.ber.BerEncodeErrorKind.TheVariants.{AnyInSet, InvalidObjectIdentifier}
use Rattle.asn_fault.specs.declared.oer.OerDecodeErrorKind.{OerDecodeErrorKind}
use Rattle.asn_fault.specs.declared.oer.OerDecodeErrorKind.TheVariants as oer
use Rattle.asn_fault.specs.declared.oer.CoerDecodeErrorKind.{CoerDecodeErrorKind}
use Rattle.asn_fault.specs.declared.oer.CoerDecodeErrorKind.TheVariants.{NotValidCanonicalEncoding}
use Rattle.asn_fault.specs.declared.oer.CoerEncodeErrorKind.{CoerEncodeErrorKind}
use Rattle.asn_fault.specs.declared.oer.CoerEncodeErrorKind.TheVariants.{TooLongValue, InvalidConstrainedIntegerOctetSize}
use Rattle.asn_fault.specs.declared.xer.XerDecodeErrorKind.{XerDecodeErrorKind}
use Rattle.asn_fault.specs.declared.xer.XerDecodeErrorKind.TheVariants as xer
use Rattle.asn_fault.specs.declared.xer.XerEncodeErrorKind.{XerEncodeErrorKind}
use Rattle.asn_fault.specs.declared.xer.XerEncodeErrorKind.TheVariants.{XmlEncodingError, UnsupportedIntegerValue, MissingIdentifier}
use Rattle.asn_fault.specs.declared.jer.JerDecodeErrorKind.{JerDecodeErrorKind}
use Rattle.asn_fault.specs.declared.jer.JerDecodeErrorKind.TheVariants as jer
use Rattle.asn_fault.specs.declared.avn.AvnDecodeErrorKind.{AvnDecodeErrorKind}
use Rattle.asn_fault.specs.declared.avn.AvnDecodeErrorKind.TheVariants as avn
use Rattle.asn_fault.specs.declared.jer.JerEncodeErrorKind.{JerEncodeErrorKind}
use Rattle.asn_fault.specs.declared.jer.JerEncodeErrorKind.TheVariants.{JsonEncodingError, NoRootValueFound, JsonEncoder, ExceedsSupportedIntSize, ExceedsSupportedRealRange, InvalidCharacter}
use Rattle.asn_fault.specs.declared.avn.AvnEncodeErrorKind.{AvnEncodeErrorKind}
use Rattle.asn_fault.specs.declared.avn.AvnEncodeErrorKind.TheVariants.{AvnNoRootValueFound, AvnEncoder, AvnExceedsSupportedRealRange}
use Rattle.asn_fault.specs.declared.codec_specific.CodecDecodeError.{CodecDecodeError}
use Rattle.asn_fault.specs.declared.codec_specific.CodecDecodeError.TheVariants as decoding
use Rattle.asn_fault.specs.declared.codec_specific.CodecEncodeError.{CodecEncodeError}
use Rattle.asn_fault.specs.declared.codec_specific.CodecEncodeError.TheVariants as encoding
use Rattle.asn_fault.specs.declared.constraint.PermittedAlphabetError.{PermittedAlphabetError}
use Rattle.asn_fault.specs.declared.constraint.PermittedAlphabetError.TheVariants.{CharacterNotFound}
use Rattle.asn_fault.specs.declared.constraint.InnerSubtypeConstraintError.{InnerSubtypeConstraintError}
use Rattle.asn_fault.specs.declared.constraint.InnerSubtypeConstraintError.TheVariants as inner
use Rattle.asn_fault.specs.declared.decode.Needed.{Needed}
use Rattle.asn_fault.specs.declared.decode.Needed.TheVariants.{Unknown, Size}
use Rattle.asn_fault.specs.declared.decode.DecodeErrorKind.{DecodeErrorKind}
use Rattle.asn_fault.specs.declared.decode.DecodeErrorKind.TheVariants as unread
use Rattle.asn_fault.specs.declared.decode.DecodeError.{DecodeError}
use Rattle.asn_fault.specs.declared.encode.EncodeErrorKind.{EncodeErrorKind}
use Rattle.asn_fault.specs.declared.encode.EncodeErrorKind.TheVariants as unwritten
use Rattle.asn_fault.specs.declared.encode.EncodeError.{EncodeError}

-- What is wrong with the digits of a number.
abbrev pub digit_fault_text : DigitFault → List ℕ
digit_fault_text Empty = codes "empty"
digit_fault_text InvalidDigit = codes "invalid digit"
digit_fault_text TooLarge = codes "too large"

-- A truth value in words.
abbrev pub bool_text : Bool → List ℕ
bool_text b = if b then codes "true" else codes "false"

-- A size, where it is known.
abbrev pub size_text : Option ℕ → List ℕ
size_text None = codes "None"
size_text (Some size) = codes "Some(" ++ (decimal size ++ codes ")")

-- How much more input is needed.
abbrev pub needed_text : Needed → List ℕ
needed_text Unknown = codes "Unknown"
needed_text (Size octets) = codes "Size(" ++ (decimal octets ++ codes ")")

-- What is wrong with a value by a rule of BER.
abbrev pub ber_decode_text : BerDecodeErrorKind → List ℕ
ber_decode_text ber.IndefiniteLengthNotAllowed = codes "Indefinite length encountered but not allowed"
ber_decode_text ber.InvalidConstructedIdentifier = codes "Invalid constructed identifier for ASN.1 value: not primitive"
ber_decode_text (ber.InvalidDate msg) = codes "Invalid date string: " ++ string_bytes msg
ber_decode_text ber.InvalidObjectIdentifier = codes "Invalid object identifier with missing or corrupt root nodes"
ber_decode_text (ber.MismatchedTag expected actual) = codes "Expected " ++ (tag_text expected ++ (codes " tag, actual tag: " ++ tag_text actual))
ber_decode_text ber.MissingEndOfContents = codes "Missing end-of-contents octets after indefinite length contents"
ber_decode_text ber.ReservedLengthOctet = codes "Reserved length octet 0xFF encountered"
ber_decode_text ber.UnexpectedEndOfContents = codes "End-of-contents octets encountered where a value was expected"
ber_decode_text ber.UnsupportedObjectIdentifierArc = codes "Object identifier arc exceeds the supported 32 bits"
ber_decode_text ber.UnsupportedTagNumber = codes "Tag number exceeds the supported 32 bits"

-- What is wrong with octets in DER.
abbrev pub der_decode_text : DerDecodeErrorKind → List ℕ
der_decode_text ConstructedEncodingNotAllowed = codes "Constructed encoding encountered but not allowed"

-- What is wrong with a value in JER.
abbrev pub jer_decode_text : JerDecodeErrorKind → List ℕ
jer_decode_text jer.EndOfInput = codes "Unexpected end of input while decoding JER"
jer_decode_text (jer.TypeMismatch needed found) = codes "Found mismatching JSON value. Expected type: " ++ (needed.now ++ (codes ". Found value: " ++ string_bytes found))
jer_decode_text (jer.InvalidJerBitstring fault) = codes "Found invalid byte in bit string: " ++ digit_fault_text fault
jer_decode_text jer.InvalidJerOctetString = codes "Found invalid character in octet string"
jer_decode_text (jer.InvalidOIDString value) = codes "Failed to construct OID from value " ++ string_bytes value
jer_decode_text (jer.InvalidEnumDiscriminant text) = codes "Found invalid enumerated discriminant " ++ string_bytes text

-- What is wrong with octets in OER.
abbrev pub oer_decode_text : OerDecodeErrorKind → List ℕ
oer_decode_text (oer.InvalidTagClassOnChoice class) = codes "Invalid tag class when decoding choice: actual " ++ decimal class
oer_decode_text (oer.InvalidTagNumberOnChoice value) = codes "Invalid tag number when decoding Choice: " ++ decimal value
oer_decode_text (oer.InvalidTagVariantOnChoice tag extensible) = codes "Tag not found from the variants of the platform when decoding Choice. Tag: " ++ (tag_text tag ++ (codes ", extensible status: " ++ bool_text extensible))
oer_decode_text (oer.InvalidExtensionHeader msg) = codes "InvalidExtensionHeader"
oer_decode_text (oer.InvalidOerBitString msg) = codes "Invalid BitString: " ++ string_bytes msg
oer_decode_text (oer.InvalidPreamble msg) = codes "Invalid preamble: " ++ string_bytes msg

-- What is wrong with octets in COER.
abbrev pub coer_decode_text : CoerDecodeErrorKind → List ℕ
coer_decode_text (NotValidCanonicalEncoding msg) = codes "Invalid Canonical Octet Encoding, not encoded as the smallest possible number of octets: " ++ string_bytes msg

-- What is wrong with a value in XER.
abbrev pub xer_decode_text : XerDecodeErrorKind → List ℕ
xer_decode_text xer.EndOfXmlInput = codes "Unexpected end of input while decoding XER"
xer_decode_text (xer.XmlTypeMismatch needed found) = codes "Found mismatching XML value. Expected type: " ++ (needed.now ++ (codes ". Found value: " ++ (string_bytes found ++ codes ".")))
xer_decode_text (xer.InvalidXerOctetstring fault) = codes "Found invalid character in octet string"
xer_decode_text (xer.InvalidInput details) = codes "Encountered invalid value: " ++ details.now
xer_decode_text (xer.InvalidOpenType details) = codes "Found invalid open type encoding: " ++ string_bytes details
xer_decode_text (xer.XmlParser details) = codes "XML parser error: " ++ string_bytes details
xer_decode_text (xer.XmlTag needed found) = codes "Error matching tag names: expected " ++ (string_bytes needed ++ (codes ", found " ++ string_bytes found))
xer_decode_text (xer.SpecViolation details) = codes "Encoding violates ITU-T X.693 (02/2021): " ++ string_bytes details

-- What is wrong with a value in the value notation.
abbrev pub avn_decode_text : AvnDecodeErrorKind → List ℕ
avn_decode_text avn.AvnEndOfInput = codes "Unexpected end of AVN input"
avn_decode_text (avn.AvnTypeMismatch needed found) = codes "AVN type mismatch: expected " ++ (needed.now ++ (codes ", found " ++ string_bytes found))
avn_decode_text avn.InvalidHexString = codes "Invalid hex string in AVN"
avn_decode_text avn.InvalidBinString = codes "Invalid binary string in AVN"
avn_decode_text (avn.InvalidOid value) = codes "Invalid OID in AVN: " ++ string_bytes value
avn_decode_text (avn.AvnInvalidEnumDiscriminant text) = codes "Invalid enumerated discriminant in AVN: " ++ string_bytes text
avn_decode_text (avn.UnexpectedToken found) = codes "Unexpected token in AVN: " ++ string_bytes found
avn_decode_text avn.UnterminatedString = codes "Unterminated string literal in AVN"
avn_decode_text (avn.IntegerParseError msg) = codes "Integer parse error in AVN: " ++ string_bytes msg

-- What keeps a value from being written in BER.
abbrev pub ber_encode_text : BerEncodeErrorKind → List ℕ
ber_encode_text AnyInSet = codes "Cannot encode `ANY` types in `SET` fields"
ber_encode_text (InvalidObjectIdentifier oid) = codes "Invalid Object Identifier: must have at least two components and first octet must be 0, 1 or 2. Provided: [" ++ (joined decimal oid.items ++ codes "]")

-- What keeps a value from being written in JER.
abbrev pub jer_encode_text : JerEncodeErrorKind → List ℕ
jer_encode_text (JsonEncodingError upstream) = codes "JsonEncodingError"
jer_encode_text NoRootValueFound = codes "No encoded JSON root value found"
jer_encode_text (JsonEncoder msg) = codes "Error in JSON encoder: " ++ string_bytes msg
jer_encode_text (ExceedsSupportedIntSize value) = codes "Exceeds supported integer range -2^63..2^64 (" ++ (whole_number_text value ++ codes ")")
jer_encode_text ExceedsSupportedRealRange = codes "Exceeds supported real value range"
jer_encode_text (InvalidCharacter error) = codes "Invalid character: after " ++ decimal error.valid_up_to

-- What keeps a value from being written in COER.
abbrev pub coer_encode_text : CoerEncodeErrorKind → List ℕ
coer_encode_text (TooLongValue length) = codes "Provided data is too long to be encoded with COER"
coer_encode_text InvalidConstrainedIntegerOctetSize = codes "Provided integer exceeds limits of the constrained word sizes"

-- What keeps a value from being written in XER.
abbrev pub xer_encode_text : XerEncodeErrorKind → List ℕ
xer_encode_text (XmlEncodingError upstream) = codes "XmlEncodingError"
xer_encode_text UnsupportedIntegerValue = codes "Failed to encode integer"
xer_encode_text MissingIdentifier = codes "Missing identifier for ASN.1 type"

-- What keeps a value from being written in the value notation.
abbrev pub avn_encode_text : AvnEncodeErrorKind → List ℕ
avn_encode_text AvnNoRootValueFound = codes "No encoded AVN root value found"
avn_encode_text (AvnEncoder msg) = codes "Error in AVN encoder: " ++ string_bytes msg
avn_encode_text AvnExceedsSupportedRealRange = codes "Exceeds supported real value range for AVN encoding"

-- Which character breaks a permitted alphabet.
abbrev pub permitted_alphabet_text : PermittedAlphabetError → List ℕ
permitted_alphabet_text (CharacterNotFound character) = codes "Character " ++ (decimal character ++ codes " not found from the permitted list")

-- The text of a refusal, with the name of its codec behind it.
abbrev pub with_codec : List ℕ → Codec → List ℕ
with_codec text codec = text ++ (codes " (Codec: " ++ (codec_name codec ++ codes ")"))

-- A kind of refusal to read, with the name of the codec that has it before it.
abbrev pub codec_decode_text : CodecDecodeError → List ℕ
codec_decode_text (decoding.Ber kind) = codes "BER decoding error: " ++ ber_decode_text kind
codec_decode_text (decoding.Cer kind) = elim kind [ ]
codec_decode_text (decoding.Der kind) = codes "DER decoding error: " ++ der_decode_text kind
codec_decode_text (decoding.Uper kind) = elim kind [ ]
codec_decode_text (decoding.Aper kind) = elim kind [ ]
codec_decode_text (decoding.Jer kind) = codes "JER decoding error: " ++ jer_decode_text kind
codec_decode_text (decoding.Oer kind) = codes "OER decoding error: " ++ oer_decode_text kind
codec_decode_text (decoding.Coer kind) = codes "COER decoding error: " ++ coer_decode_text kind
codec_decode_text (decoding.Xer kind) = codes "XER decoding error: " ++ xer_decode_text kind
codec_decode_text (decoding.Avn kind) = codes "AVN decoding error: " ++ avn_decode_text kind

-- The text of a kind that speaks of the input as a whole. A kind of another group has none here.
abbrev pub input_text : DecodeErrorKind → List ℕ
input_text (unread.Custom msg) = codes "Custom error: " ++ string_bytes msg
input_text (unread.Incomplete needed) = codes "Need more data to continue: " ++ needed_text needed
input_text unread.Eof = codes "Unexpected EOF when decoding"
input_text (unread.Parser msg) = codes "Error in Parser: " ++ string_bytes msg
input_text (unread.UnexpectedExtraData length) = codes "Unexpected extra data found: length `" ++ (decimal length ++ codes "` bytes")
input_text unread.UnexpectedEmptyInput = codes "No input was provided where expected in the given SEQUENCE or INTEGER type"
input_text unread.ExceedsMaxParseDepth = codes "Exceeded maximum parse depth"
input_text unread.OutOfMemory = codes "Out of memory"
input_text _ = []

-- The text of a kind that speaks of a length, or of a group above.
abbrev pub length_text : DecodeErrorKind → List ℕ
length_text (unread.ExceedsMaxLength length) = codes "Expected maximum of " ++ (decimal length ++ codes " items")
length_text (unread.LengthExceedsPlatformWidth msg) = codes "Length of the data exceeds platform address width: " ++ string_bytes msg
length_text unread.ZeroLengthOfLength = codes "Length of Length cannot be zero"
length_text (unread.MismatchedLength expected actual) = codes "Expected " ++ (decimal expected ++ (codes " bytes, actual length was " ++ (decimal actual ++ codes " bytes")))
length_text kind = input_text kind

-- The text of a kind that speaks of a string, or of a group above.
abbrev pub string_text : DecodeErrorKind → List ℕ
string_text (unread.PermittedAlphabetError reason) = codes "Alphabet constraint not satisfied " ++ permitted_alphabet_text reason
string_text (unread.SizeConstraintNotSatisfied size expected) = codes "Size constraint not satisfied: expected: " ++ (string_bytes expected ++ (codes "; actual: " ++ size_text size))
string_text (unread.StringConversionFailed tag msg) = codes "Failed to convert byte array into valid ASN.1 string. String type as tag: " ++ (tag_text tag ++ (codes " Error: " ++ string_bytes msg))
string_text (unread.FixedStringConversionFailed tag expected actual) = codes "Failed to convert byte array into valid fixed-sized ASN.1 string. String type as tag: " ++ (tag_text tag ++ (codes ", actual: " ++ (decimal actual ++ (codes ", expected: " ++ decimal expected))))
string_text (unread.InvalidBitString bits) = codes "BitString contains an invalid amount of unused bits: " ++ decimal bits
string_text kind = length_text kind

-- The text of a kind that speaks of a number or a truth value, or of a group above.
abbrev pub number_text : DecodeErrorKind → List ℕ
number_text (unread.ValueConstraintNotSatisfied value expected) = codes "Value constraint not satisfied: expected: " ++ (bounded_text signed_decimal expected ++ (codes "; actual: " ++ whole_number_text value))
number_text (unread.IntegerOverflow width) = codes "Actual integer larger than expected " ++ (decimal width ++ codes " bits")
number_text (unread.IntegerTypeConversionFailed msg) = codes "Failed to cast integer to another integer type: " ++ (string_bytes msg ++ codes " ")
number_text (unread.RangeExceedsPlatformWidth needed present) = codes "Integer range larger than possible to address on this platform. needed: " ++ (decimal needed ++ (codes " present: " ++ decimal present))
number_text unread.InvalidRealEncoding = codes "Invalid real encoding"
number_text unread.RealNotSupported = codes "Decoder doesn't support `REAL` type"
number_text (unread.InvalidBool value) = codes "Bool value is not `0` or `0xFF` as canonical requires. Actual: " ++ decimal value
number_text kind = string_text kind

-- The text of a kind that speaks of the alternatives of a CHOICE or the items of an ENUMERATED, or of a group above.
abbrev pub variant_text : DecodeErrorKind → List ℕ
variant_text (unread.EnumerationIndexNotFound index extended) = codes "Enumeration index " ++ (decimal index ++ (codes " did not match any variant. Extended list checked: " ++ bool_text extended))
variant_text (unread.ChoiceIndexNotFound index variants) = codes "Choice index " ++ (decimal index ++ codes " did not match any variant")
variant_text (unread.DiscriminantValueNotFound discriminant) = codes "Discriminant value " ++ (signed_decimal discriminant ++ codes " did not match any variant")
variant_text (unread.NoValidChoice name) = codes "No valid choice for `" ++ (name.now ++ codes "`")
variant_text kind = number_text kind

-- The text of a kind that speaks of the components of a SEQUENCE or SET, or of a group above.
abbrev pub component_text : DecodeErrorKind → List ℕ
component_text (unread.DuplicateField name) = codes "Duplicate field for `" ++ (name.now ++ codes "`")
component_text (unread.MissingField name) = codes "Missing field `" ++ (name.now ++ codes "`")
component_text (unread.UnknownField index tag) = codes "Unknown field with index " ++ (decimal index ++ (codes " and tag " ++ tag_text tag))
component_text (unread.IncorrectItemNumberInSequence expected actual) = codes "Invalid item number in Sequence: expected: " ++ (decimal expected ++ (codes "; actual: " ++ decimal actual))
component_text (unread.MissingTagClassOrValueInSequenceOrSet class value) = codes "Expected class: " ++ (class_name class ++ (codes ", value: " ++ (decimal value ++ codes " in sequence or set Missing tag class or value in sequence or set")))
component_text (unread.RequiredExtensionNotPresent tag) = codes "Extension with class `" ++ (class_name tag.class ++ (codes "` and tag `" ++ (decimal tag.value ++ codes "` required, but not present")))
component_text unread.TypeNotExtensible = codes "Attempted to decode extension on non-extensible type"
component_text kind = variant_text kind

-- What is wrong with a component, where the error has details of its own.
abbrev pub component_fault_text : InnerSubtypeConstraintError → List ℕ
component_fault_text (inner.InvalidComponentValue path name details) = codes "Invalid value for component " ++ (path.now ++ (codes " in " ++ (name.now ++ (codes ": " ++ string_bytes details))))
component_fault_text (inner.InvalidComponentVariant path type_name details) = codes "Invalid variant for component " ++ (type_name.now ++ (codes " in " ++ (path.now ++ (codes ": " ++ string_bytes details))))
component_fault_text (inner.InvalidComponentSize path name details) = codes "Invalid size constraint for component " ++ (name.now ++ (codes " in " ++ (path.now ++ (codes ": " ++ string_bytes details))))
component_fault_text _ = []

abbrev mutual
  -- Why a value is not read.
  pub decode_kind_text : DecodeErrorKind → List ℕ
  decode_kind_text (unread.InnerSubtypeConstraintNotSatisfied reason) = codes "Inner subtype constraint not satisfied: " ++ inner_subtype_text reason
  decode_kind_text (unread.CodecSpecific kind) = codec_decode_text kind
  decode_kind_text (unread.ChoiceIndexExceedsPlatformWidth' needed p kind codec) = codes "Choice index exceeds platform index width. Needed " ++ (decimal needed ++ (codes " bytes, present: " ++ with_codec (decode_kind_text kind) codec))
  decode_kind_text (unread.FieldError' name p kind codec) = codes "Error when decoding field `" ++ (name.now ++ (codes "`: " ++ with_codec (decode_kind_text kind) codec))
  decode_kind_text kind = component_text kind

  -- Why components break an inner subtype constraint.
  pub inner_subtype_text : InnerSubtypeConstraintError → List ℕ
  inner_subtype_text (inner.SubtypeConstraintViolation path details) = codes "Invalid component combination in " ++ (path.now ++ (codes ": " ++ details.now))
  inner_subtype_text (inner.MissingRequiredComponent path components) = codes "Missing required components in " ++ (path.now ++ codes ": the following must be present:")
  inner_subtype_text (inner.MutuallyExclusiveViolation path components) = codes "Mutually exclusive components present in " ++ (path.now ++ (codes ": " ++ joined (λ name. name.now) components.now))
  inner_subtype_text (inner.UnexpectedComponentPresent path name) = codes "Component that should be absent is present in " ++ (path.now ++ (codes ": " ++ name.now))
  inner_subtype_text (inner.InvalidInnerContaining' expected p kind codec) = codes "CONTAINING does not contain the expected component " ++ (expected.now ++ (codes ": " ++ with_codec (decode_kind_text kind) codec))
  inner_subtype_text error = component_fault_text error

-- A refusal to read: why, and by which codec.
abbrev pub decode_error_text : DecodeError → List ℕ
decode_error_text error = with_codec (decode_kind_text error.kind) error.codec

-- A kind of refusal to write, with the name of the codec that has it before it.
abbrev pub codec_encode_text : CodecEncodeError → List ℕ
codec_encode_text (encoding.Ber kind) = codes "BER encoding error: " ++ ber_encode_text kind
codec_encode_text (encoding.Cer kind) = elim kind [ ]
codec_encode_text (encoding.Der kind) = elim kind [ ]
codec_encode_text (encoding.Uper kind) = elim kind [ ]
codec_encode_text (encoding.Aper kind) = elim kind [ ]
codec_encode_text (encoding.Jer kind) = codes "JER encoding error: " ++ jer_encode_text kind
codec_encode_text (encoding.Coer kind) = codes "COER encoding error: " ++ coer_encode_text kind
codec_encode_text (encoding.Xer kind) = codes "XER encoding error: " ++ xer_encode_text kind
codec_encode_text (encoding.Avn kind) = codes "AVN encoding error: " ++ avn_encode_text kind

-- What keeps a value from being written.
abbrev pub encode_kind_text : EncodeErrorKind → List ℕ
encode_kind_text (unwritten.FailedBitStringUnusedBitsToU8 bits) = codes "Failed to convert BIT STRING unused bits to u8: " ++ decimal bits
encode_kind_text (unwritten.InvalidLength length expected) = codes "Invalid length, expected: " ++ (bounded_text decimal expected ++ (codes "; actual: " ++ decimal length))
encode_kind_text unwritten.LengthExceedsPlatformSize = codes "Invalid length, exceeds platform maximum size usize::MAX"
encode_kind_text (unwritten.MoreBytesThanExpected value expected) = codes "The provided value does not fit in the reserved octets " ++ (decimal expected ++ (codes "; actual: " ++ decimal value))
encode_kind_text (unwritten.Custom msg) = codes "Custom error: " ++ string_bytes msg
encode_kind_text (unwritten.CodecSpecific kind) = codec_encode_text kind
encode_kind_text (unwritten.AlphabetConstraintNotSatisfied reason) = codes "Alphabet constraint not satisfied: " ++ permitted_alphabet_text reason
encode_kind_text (unwritten.SizeConstraintNotSatisfied size expected) = codes "Size constraint not satisfied: expected: " ++ (bounded_text decimal expected ++ (codes "; actual: " ++ decimal size))
encode_kind_text (unwritten.ValueConstraintNotSatisfied value expected) = codes "Value constraint not satisfied: expected: " ++ (bounded_text signed_decimal expected ++ (codes "; actual: " ++ whole_number_text value))
encode_kind_text (unwritten.IntegerTypeConversionFailed msg) = codes "Failed to cast integer to another integer type: " ++ string_bytes msg
encode_kind_text (unwritten.OpaqueConversionFailed msg) = codes "Conversion to opaque type failed: " ++ string_bytes msg
encode_kind_text unwritten.VariantNotInChoice = codes "Selected Variant not found in Choice"
encode_kind_text unwritten.RealNotSuppored = codes "Encoder doesn't support `REAL` type"
encode_kind_text unwritten.OutOfMemory = codes "Out of memory"

-- A refusal to write: why, and by which codec.
abbrev pub encode_error_text : EncodeError → List ℕ
encode_error_text error = with_codec (encode_kind_text error.kind) error.codec
