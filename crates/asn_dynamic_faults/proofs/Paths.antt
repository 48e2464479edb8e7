-- An error at a field is no lack of memory.
use Rattle.std.proofs.Common.{◌≡◌, refl, List, [], ◌∷◌, true, false}
use Rattle.asn_core.specs.declared.codec.Codec.{Codec}
use Rattle.asn_fault.specs.Failure.{Cause, is_out_of_memory_at}
use Rattle.asn_dynamic_faults.specs.DynFailure.{levels_of}
use Rattle.asn_dynamic_faults.specs.Steps.{fields_of, goes_to_field}
use Rattle.asn_dynamic_faults.specs.declared.errors.Step.{Step}
use Rattle.asn_dynamic_faults.specs.declared.errors.Step.TheVariants.{Field, Alternative, Element}

pub at_field : (c : Codec) (ss : List Step) (w : Cause) → goes_to_field ss ≡ true → false ≡ is_out_of_memory_at (levels_of c (fields_of ss)) w
at_field c [] w h = let d : false ≡ true = h in cc d
at_field c (Field n ∷ ss) w h = refl
at_field c (Alternative n ∷ ss) w h = at_field c ss w h
at_field c (Element i ∷ ss) w h = at_field c ss w h

-- Where no step goes to a field, there is none.
pub at_none : (ss : List Step) → goes_to_field ss ≡ false → fields_of ss ≡ []
at_none [] h = refl
at_none (Field n ∷ ss) h = let d : true ≡ false = h in cc d
at_none (Alternative n ∷ ss) h = at_none ss h
at_none (Element i ∷ ss) h = at_none ss h
