-- What the binary calls of a codec return.
use Rattle.std.specs.Prelude.{ℕ, List, Result, Ok, Err, IsUtf8}
use Rattle.avn_grammar.specs.declared.limits.TheConstants.{LEVEL_LIMIT}
use Rattle.asn_core.specs.declared.codec.Codec.{Codec}
use Rattle.asn_core.specs.declared.codec.Codec.TheVariants.{Jer, Avn, Xer}
use Rattle.asn_fault.specs.Failure.{Failure, Cause, at_root}
use Rattle.asn_traits.specs.Shape.{Shape}
use Rattle.asn_codec.specs.Refused.{no_utf8}
use Rattle.asn_codec.specs.Texts.{IsDecodeFailure}

-- the codec has binary rules: it is neither a text notation nor XER
abbrev pub IsBinary : Codec → Type 0
IsBinary Jer = ⊥
IsBinary Avn = ⊥
IsBinary Xer = ⊥
IsBinary _ = Unit {0}

-- the result with another view of its value, and the error as it is
abbrev pub map_ok : {T U E : Type 0} → (T → U) → Result T E → Result U E
map_ok view (Ok x) = Ok (view x)
map_ok view (Err e) = Err e

-- reading the bytes as a text of the codec's notation is refused so: they are no UTF-8, or their text is refused
pub data IsBytesFailure (codec : Codec) (s : Shape) (input : List ℕ) : Failure → Type 0 where
  not_utf8 : ¬ IsUtf8 input → IsBytesFailure codec s input (at_root (Cause.custom (no_utf8 codec)) codec)
  not_decoded : (failure : Failure) → IsUtf8 input → IsDecodeFailure LEVEL_LIMIT codec s input failure → IsBytesFailure codec s input failure
