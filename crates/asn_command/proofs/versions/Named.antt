-- The shape of the one type of a name, expanded whole.
use Rattle.std.proofs.Common.{◌≡◌, ◌≤◌, arith, ℕ, ◌^◌, List, [], length, map, true, Some}
use Rattle.asn_growth.specs.Parts.{node_count}
use Rattle.asn_linked_types.specs.declared.expander.limits.TheConstants.{NODE_LIMIT}
use Rattle.asn_linked_types.specs.Expansion.{expansion}
use Rattle.asn_linked_types.specs.Linked.{are_linked}
use Rattle.asn_model.specs.Shape as spec
use Rattle.asn_model.specs.ShapeView.{shape_view}
use Rattle.asn_model.specs.declared.shape_type.Shape.{Shape}
use Rattle.asn_modules.proofs.Named.{expanded-named, expanded-readable}
use Rattle.asn_modules.specs.Modules.{Modules}
use Rattle.asn_modules.specs.Names.{number_named}
use Rattle.asn_command.specs.versions.Versions.{IsTypeNamed}

-- What the number's type is expanded to is the type of the name.
pub expanded-type : (m : Modules) (name : List ℕ) (number : ℕ) (types : List Shape) (s : spec.Shape) → number_named m.names name ≡ Some number → map shape_view types ≡ m.types → s ≡ expansion (map shape_view types) (length types) [] number → are_linked (map shape_view types) ≡ true → node_count s ≤ NODE_LIMIT → IsTypeNamed m name s
expanded-type m name number types s found same is linked few =
    record { named = expanded-named m name number types s found same is; readable = expanded-readable types number s linked is; few = omega arith }
