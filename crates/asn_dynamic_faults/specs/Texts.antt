-- The texts of errors of reading by a shape: those of a typed reader's errors.
use Rattle.std.specs.Prelude.{ℕ, List, [], ◌∷◌, ◌++◌, codes, String, string_bytes}
use Rattle.std.specs.Global.{Global}
use Rattle.std.specs.List.{flat_map}
use Rattle.asn_core.specs.declared.codec.Codec.{Codec}
use Rattle.asn_fault.specs.Texts.{decode_kind_text, with_codec}
use Rattle.asn_dynamic_faults.specs.declared.errors.DynError.{DynError}
use Rattle.asn_dynamic_faults.specs.declared.errors.DynKind.{DynKind}
use Rattle.asn_dynamic_faults.specs.declared.errors.DynKind.TheVariants.{MissingField, DuplicateField, NoValues, Other}
use Rattle.asn_dynamic_faults.specs.declared.errors.Step.{Step}
use Rattle.asn_dynamic_faults.specs.declared.errors.Step.TheVariants.{Field, Alternative, Element}
use Rattle.asn_dynamic_faults.specs.Steps.{fields_of}

-- The text of a kind.
abbrev pub dyn_kind_text : DynKind → List ℕ
dyn_kind_text (MissingField name) = codes "Missing field `" ++ (string_bytes name ++ codes "`")
dyn_kind_text (DuplicateField name) = codes "Duplicate field for `" ++ (string_bytes name ++ codes "`")
dyn_kind_text (NoValues kind) = codes "The type has no values that can be read"
dyn_kind_text (Other kind) = decode_kind_text kind

-- The text of an error within these fields, each with this codec, as `FieldError` prints it.
abbrev pub text_within : Codec → List (String Global) → List ℕ → List ℕ
text_within c [] text = text
text_within c (n ∷ ns) text = with_codec (codes "Error when decoding field `" ++ (string_bytes n ++ (codes "`: " ++ text_within c ns text))) c

-- The text of an error.
abbrev pub dyn_error_text : DynError → List ℕ
dyn_error_text e = text_within e.notation (fields_of e.path.items) (with_codec (dyn_kind_text e.kind) e.codec)

-- What stands before the kind for a step: that it goes to a field.
abbrev pub opening : Step → List ℕ
opening (Field n) = codes "Error when decoding field `" ++ (string_bytes n ++ codes "`: ")
opening (Alternative n) = []
opening (Element i) = []

-- What stands behind the kind for a step: the codec of a field.
abbrev pub closing : Codec → Step → List ℕ
closing c (Field n) = with_codec [] c
closing c (Alternative n) = []
closing c (Element i) = []

-- What stands before the kind, and behind it.
abbrev pub openings : List Step → List ℕ
openings ss = flat_map opening ss

abbrev pub closings : Codec → List Step → List ℕ
closings c ss = flat_map (closing c) ss
