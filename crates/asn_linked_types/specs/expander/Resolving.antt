-- What the numbers of types mean while a type is expanded.
use Rattle.std.specs.Prelude.{ℕ, ◌-◌, length, map}
use Rattle.asn_linked_types.specs.expander.OpenTypes.{open_numbers}
use Rattle.asn_linked_types.specs.declared.expander.types.Types.{Types}
use Rattle.asn_linked_types.specs.declared.expander.opened.Opened.{Opened}
use Rattle.asn_linked_types.specs.Expansion.{expansion}
use Rattle.asn_model.specs.Shape.{Shape}
use Rattle.asn_model.specs.ShapeView.{shape_view}

-- What a number means where these types are open.
abbrev pub resolve : Types → Opened → ℕ → Shape
resolve types opened = expansion (map shape_view types.types.now) (length types.types.now - length (open_numbers opened)) (open_numbers opened)
