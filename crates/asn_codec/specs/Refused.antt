-- What a codec says of a call that it refuses whatever the value or the text is.
use Rattle.std.specs.Prelude.{◌≡◌, ℕ, List, ◌++◌, ◌⊎◌, codes}
use Rattle.asn_core.specs.Texts.{codec_name}
use Rattle.asn_core.specs.declared.codec.Codec.{Codec}
use Rattle.asn_core.specs.declared.codec.Codec.TheVariants.{Xer}
use Rattle.asn_fault.specs.EncodeCause.{EncodeCause, encode_cause}
use Rattle.asn_fault.specs.Failure.{Cause, at_root, failure_of}
use Rattle.asn_fault.specs.declared.decode.DecodeError.{DecodeError}
use Rattle.asn_fault.specs.declared.encode.EncodeError.{EncodeError}
use Rattle.asn_codec.specs.declared.refusals.CodecRefusal.{CodecRefusal}
use Rattle.asn_codec.specs.declared.refusals.CodecRefusal.TheVariants.{NoTextEncoded, NoTextDecoded, NoUtf8, NoRemainder, NoXer, NoRules}

-- what XER says of every call
abbrev pub no_xer : List ℕ
no_xer = codes "XER is not supported."

-- what `NoRules` says of every call
abbrev pub no_rules : List ℕ
no_rules = codes "no binary rules"

-- what the text calls of a codec that is no text notation say, by the call to make instead
abbrev pub no_text : Codec → List ℕ → List ℕ
no_text Xer call = no_xer
no_text codec call = codec_name codec ++ (codes " is a binary-based encoding. Call `Codec::" ++ (call ++ codes "` instead."))

-- what a text notation says of bytes that are no text
abbrev pub no_utf8 : Codec → List ℕ
no_utf8 codec = codes "Failed to decode " ++ (codec_name codec ++ codes " from UTF8 bytes")

-- what a text notation says of decoding with a remainder
abbrev pub no_remainder : Codec → List ℕ
no_remainder codec = codec_name codec ++ codes " does not support decoding with remainder. "

-- the words of each refusal
abbrev pub message_of : Codec → CodecRefusal → List ℕ
message_of codec NoTextEncoded = no_text codec (codes "encode_to_binary")
message_of codec NoTextDecoded = no_text codec (codes "decode_from_binary")
message_of codec NoUtf8 = no_utf8 codec
message_of codec NoRemainder = no_remainder codec
message_of codec NoXer = no_xer
message_of codec NoRules = no_rules

-- the error has this message, or says that there was no memory for it; either way it names the codec
abbrev pub IsCustomEncodeError : List ℕ → Codec → EncodeError → Type 0
IsCustomEncodeError message codec e = ((encode_cause e.kind ≡ EncodeCause.custom message) ⊎ (encode_cause e.kind ≡ EncodeCause.out_of_memory)) × (e.codec ≡ codec)

-- the error has this message, or says that there was no memory for it; either way it is at the root, and names the codec
abbrev pub IsCustomDecodeError : List ℕ → Codec → DecodeError → Type 0
IsCustomDecodeError message codec e = (failure_of e ≡ at_root (Cause.custom message) codec) ⊎ (failure_of e ≡ at_root Cause.out_of_memory codec)
