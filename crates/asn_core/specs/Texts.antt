-- The texts that the plain types print.
use Rattle.std.specs.Prelude.{ℕ, List, ◌++◌, Option, Some, None, codes, decimal}
use Rattle.std.specs.Fmt.{signed_decimal}
use Rattle.asn_core.specs.declared.codec.Codec.{Codec}
use Rattle.asn_core.specs.declared.codec.Codec.TheVariants.{Aper, Ber, Cer, Der, Uper, Jer, Oer, Coer, Xer, Avn}
use Rattle.asn_core.specs.declared.tag.Class.{Class}
use Rattle.asn_core.specs.declared.tag.Class.TheVariants.{Universal, Application, Context, Private}
use Rattle.asn_core.specs.declared.tag.Tag.{Tag}
use Rattle.asn_core.specs.declared.constraint.Bounded.{Bounded}
use Rattle.asn_core.specs.declared.constraint.Bounded.TheVariants.{None as Every, Single, Range}
use Rattle.asn_core.specs.Numbers.{signed}
use Rattle.asn_core.specs.declared.whole_number.WholeNumber.{WholeNumber}

-- The name of a set of encoding rules, in capitals.
abbrev pub codec_name : Codec → List ℕ
codec_name Aper = codes "APER"
codec_name Ber = codes "BER"
codec_name Cer = codes "CER"
codec_name Der = codes "DER"
codec_name Uper = codes "UPER"
codec_name Jer = codes "JER"
codec_name Oer = codes "OER"
codec_name Coer = codes "COER"
codec_name Xer = codes "XER"
codec_name Avn = codes "AVN"

-- The name of a class of tags, in capitals.
abbrev pub class_name : Class → List ℕ
class_name Universal = codes "UNIVERSAL"
class_name Application = codes "APPLICATION"
class_name Context = codes "CONTEXT"
class_name Private = codes "PRIVATE"

-- A tag as its class, a space and its number.
abbrev pub tag_text : Tag → List ℕ
tag_text tag = class_name tag.class ++ codes " " ++ decimal tag.value

-- A whole number in decimal, with a minus below zero.
abbrev pub whole_number_text : WholeNumber → List ℕ
whole_number_text n = signed_decimal (signed n.negative n.magnitude)

-- An end of a range, or the word for one that is absent.
abbrev pub end_text : {T : Type 0} → (T → List ℕ) → List ℕ → Option T → List ℕ
end_text text absent None = absent
end_text text absent (Some n) = text n

-- The numbers that a constraint admits, as one number or as the two ends of a range.
abbrev pub bounded_text : {T : Type 0} → (T → List ℕ) → Bounded T → List ℕ
bounded_text text Every = codes "MIN..MAX"
bounded_text text (Single n) = text n
bounded_text text (Range start end) = end_text text (codes "MIN") start ++ codes ".." ++ end_text text (codes "MAX") end
