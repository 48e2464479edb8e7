-- What constraints say of sizes and of later versions (X.680, sections 49 to 51).
use Rattle.std.specs.Prelude.{List, [], ◌∷◌, Bool, true, Option, Some, None}
use Rattle.std.specs.List.{list_any}
use Rattle.asn_core.specs.declared.constraint.Constraint.{Constraint}
use Rattle.asn_core.specs.declared.constraint.Constraint.TheVariants.{Value, Size, Extensible}
use Rattle.asn_core.specs.declared.constraint.Extensible.{Extensible as WithMark}
use Rattle.asn_core.specs.declared.constraint.Size.{Size as Sizes}

-- The constraint has the extension marker.
abbrev pub has_marker : Constraint → Bool
has_marker (Value v) = v.extensible
has_marker (Size s) = s.extensible
has_marker Extensible = true

-- A constraint has the extension marker.
abbrev pub any_has_marker : List Constraint → Bool
any_has_marker constraints = list_any has_marker constraints

-- The first constraint on sizes, if there is one.
abbrev pub first_size_constraint : List Constraint → Option (WithMark Sizes)
first_size_constraint [] = None
first_size_constraint (Value v ∷ constraints) = first_size_constraint constraints
first_size_constraint (Size s ∷ constraints) = Some s
first_size_constraint (Extensible ∷ constraints) = first_size_constraint constraints
