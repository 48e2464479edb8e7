-- What types of modules mean.
use Rattle.std.specs.Prelude.{ℕ, List, [], length, map, Bool, false, Option, Some, None, option_map}
use Rattle.std.specs.List.{slice_get}
use Rattle.asn_linked_types.specs.Expansion.{expansion}
use Rattle.asn_model.specs.Shape.{Shape}
use Rattle.asn_model.specs.ShapeView.{shape_view}
use Rattle.asn_modules.specs.Empty.{is_without_values}
use Rattle.asn_modules.specs.Missing.{MissingModule, missing_view}
use Rattle.asn_modules.specs.Names.{TypeName, number_named, type_name_view}
use Rattle.asn_modules.specs.declared.modules.Modules as code

-- Types with their names: a `back` of a number in one is the type of that number. And the modules
-- that are imported from and aren't given.
pub record Modules : Type 0 where
  pub names : List TypeName
  pub types : List Shape
  pub missing : List MissingModule

abbrev pub modules_view : code.Modules → Modules
modules_view m =
    record { names = map type_name_view m.names.items; types = map shape_view m.types.items; missing = map missing_view m.missing.items }

-- The shape of the type of the number, in which each name is expanded.
abbrev pub shape_of : Modules → ℕ → Shape
shape_of m n = expansion m.types (length m.types) [] n

-- The shape of the one type that the bytes name.
abbrev pub shape_named : Modules → List ℕ → Option Shape
shape_named m text = option_map (shape_of m) (number_named m.names text)

abbrev pub if_without_values : Option Shape → Bool
if_without_values None = false
if_without_values (Some s) = is_without_values s

-- The type of the number is the one without values.
abbrev pub has_no_values : Modules → ℕ → Bool
has_no_values m n = if_without_values (slice_get m.types n)
