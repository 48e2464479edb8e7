-- What a place in types that name each other by number means.
use Rattle.std.specs.Prelude.{ℕ, ◌-◌, List, length, map, take, Option, Some, None}
use Rattle.std.specs.Borrow.{Bor}
use Rattle.asn_linked.specs.declared.place.Place.{Place}
use Rattle.asn_linked_types.specs.Expansion.{expansion, linked_shape}
use Rattle.asn_model.specs.Shape.{Shape}
use Rattle.asn_model.specs.ShapeView.{shape_view}
use Rattle.asn_model.specs.declared.shape_type.Shape as code

-- What stands at a place, with a `back` for each name of a type: the part, or the name of a whole type.
abbrev pub part_view : ℕ → Option (Bor code.Shape) → Shape
part_view number None = Shape.back number
part_view number (Some part) = shape_view part.now

-- The numbers of the types that are open, the innermost first. No more can be open than there are types.
abbrev pub open_numbers : ℕ → List Place → List ℕ
open_numbers count around = take count (map (λ (p : Place). p.number) around)

-- The types that a place is in.
abbrev pub types_at : Place → List Shape
types_at place = map shape_view place.types.now

-- How many more types can be opened at a place within these loops.
abbrev pub left_at : List Place → Place → ℕ
left_at around place = place.count - length around

-- What a number stands for at a place within these loops.
abbrev pub named_shape : List Place → Place → ℕ → Shape
named_shape around place = expansion (types_at place) (left_at around place) (open_numbers place.count around)

-- The shape at a place within these loops.
abbrev pub place_shape : List Place → Place → Shape
place_shape around place = linked_shape (named_shape around place) (part_view place.number place.part)
