-- What a refusal says of the text.
use Rattle.std.specs.Prelude.{◌≡◌, ℕ, List, Option, Result, Some, None, Ok, Err, false}
use Rattle.asn_strings.specs.declared.fault.StringFault.{StringFault}
use Rattle.asn_strings.specs.declared.fault.StringFault.TheVariants.{Alphabet, OutOfMemory}
use Rattle.asn_strings.specs.Units.{has_text, units_valid_len}
use Rattle.asn_strings.specs.declared.fault.UnitFault.{UnitFault}
use Rattle.asn_strings.specs.declared.fault.UnitFault.TheVariants as unit

-- The place that a refusal for the alphabet names. Other answers name none.
abbrev pub refused_place : {T : Type 0} → Result T StringFault → Option ℕ
refused_place (Ok value) = None
refused_place (Err (Alphabet place)) = Some place
refused_place (Err OutOfMemory) = None

-- Why units have no text: the first surrogate stands after so many units, or there was no memory.
abbrev pub IsUntexted : List ℕ → UnitFault → Type 0
IsUntexted units (unit.Surrogate place) =
    (has_text units ≡ false) × (place ≡ units_valid_len units)
IsUntexted units unit.OutOfMemory = Unit {0}
