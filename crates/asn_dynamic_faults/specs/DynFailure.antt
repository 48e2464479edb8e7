-- What an error of reading by a shape says.
use Rattle.std.specs.Prelude.{◌≡◌, ◌⊎◌, ℕ, List, [], ◌∷◌, String, string_bytes}
use Rattle.std.specs.Global.{Global}
use Rattle.asn_core.specs.declared.codec.Codec.{Codec}
use Rattle.asn_fault.specs.Failure.{Cause, Failure, Level, at_root, kind_failure, wrapped}
use Rattle.asn_dynamic_faults.specs.declared.errors.DynError.{DynError}
use Rattle.asn_dynamic_faults.specs.declared.errors.DynKind.{DynKind}
use Rattle.asn_dynamic_faults.specs.declared.errors.DynKind.TheVariants.{MissingField, DuplicateField, NoValues, Other}
use Rattle.asn_dynamic_faults.specs.Steps.{fields_of}

-- The fields on the way, each with this codec.
abbrev pub levels_of : Codec → List (String Global) → List Level
levels_of c [] = []
levels_of c (n ∷ ns) = record { name = string_bytes n; codec = c } ∷ levels_of c ns

-- What is wrong.
abbrev pub dyn_cause : DynKind → Codec → Cause
dyn_cause (MissingField name) c = Cause.missing_field (string_bytes name)
dyn_cause (DuplicateField name) c = Cause.duplicate_field (string_bytes name)
dyn_cause (NoValues kind) c = (kind_failure kind c).cause
dyn_cause (Other kind) c = (kind_failure kind c).cause

-- What the error says: its fields have the notation that is read.
abbrev pub dyn_failure : DynError → Failure
dyn_failure e = record { path = levels_of e.notation (fields_of e.path.items); cause = dyn_cause e.kind e.codec; codec = e.codec }

-- The fields with another codec.
abbrev pub recoded_levels : Codec → List Level → List Level
recoded_levels c [] = []
recoded_levels c (l ∷ ls) = record { name = l.name; codec = c } ∷ recoded_levels c ls

-- The failure with another codec at its fields.
abbrev pub recoded : Codec → Failure → Failure
recoded c f = record { path = recoded_levels c f.path; cause = f.cause; codec = f.codec }

-- The second failure is the first one with this codec at its fields, or memory ran out in making it.
abbrev pub IsTold : Codec → Failure → Failure → Type 0
IsTold c f g = (g ≡ recoded c f) ⊎ (g ≡ at_root Cause.out_of_memory c)

-- The second failure is the first one within a field, or memory ran out in making it.
abbrev pub IsWithin : Codec → List ℕ → Failure → Failure → Type 0
IsWithin c name f g = (g ≡ wrapped name c (recoded c f)) ⊎ (g ≡ at_root Cause.out_of_memory c)
