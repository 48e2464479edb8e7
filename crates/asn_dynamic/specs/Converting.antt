-- What an error of converting by a type that a program holds says.
use Rattle.std.specs.Prelude.{ℕ, List}
use Rattle.asn_codec.specs.Conversion.{Refusal}
use Rattle.asn_dynamic_faults.specs.DynFailure.{dyn_failure}
use Rattle.asn_dynamic_faults.specs.Texts.{dyn_error_text}
use Rattle.asn_fault.specs.EncodeCause.{encode_cause}
use Rattle.asn_fault.specs.Texts.{encode_error_text}
use Rattle.asn_dynamic.specs.declared.conversion.ConvertError.{ConvertError}
use Rattle.asn_dynamic.specs.declared.conversion.ConvertError.TheVariants.{Read, Write}

-- The refusal that the error states.
abbrev pub convert_refusal_of : ConvertError → Refusal
convert_refusal_of (Read e) = Refusal.decode (dyn_failure e)
convert_refusal_of (Write e) = Refusal.encode (encode_cause e.kind) e.codec

-- The text of the inner error.
abbrev pub convert_error_text : ConvertError → List ℕ
convert_error_text (Read e) = dyn_error_text e
convert_error_text (Write e) = encode_error_text e
