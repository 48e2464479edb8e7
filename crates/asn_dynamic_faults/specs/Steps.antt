-- The way from a value to one of its parts.
use Rattle.std.specs.Prelude.{List, [], ◌∷◌, Bool, true, false, String}
use Rattle.std.specs.Global.{Global}
use Rattle.asn_dynamic_faults.specs.declared.errors.Step.{Step}
use Rattle.asn_dynamic_faults.specs.declared.errors.Step.TheVariants.{Field, Alternative, Element}

-- The fields on the way, which a typed reader tells.
abbrev pub fields_of : List Step → List (String Global)
fields_of [] = []
fields_of (Field n ∷ ss) = n ∷ fields_of ss
fields_of (Alternative n ∷ ss) = fields_of ss
fields_of (Element i ∷ ss) = fields_of ss

-- A step goes to a field.
abbrev pub goes_to_field : List Step → Bool
goes_to_field [] = false
goes_to_field (Field n ∷ ss) = true
goes_to_field (Alternative n ∷ ss) = goes_to_field ss
goes_to_field (Element i ∷ ss) = goes_to_field ss
