-- The slots of a type's fields in the order in which they are read.
use Rattle.std.specs.Prelude.{List, [], ◌∷◌, ◌++◌, map, drop, length, Option}
use Rattle.std.specs.declared.cmp.Ordering.{Ordering}
use Rattle.std.specs.Ordering.{on}
use Rattle.asn_model.specs.Components.{Component, Standing, components, tag_cmp}
use Rattle.asn_model.specs.Shape.{SeqKind, Fields, field_names}
use Rattle.asn_model.specs.Sorting.{sort}
use Rattle.asn_model.specs.Value.{Value}
use Rattle.asn_coding.specs.Writing.{Frame}

-- Each component with the slot at its place, as far as there are slots.
abbrev pub with_slots : List Component → Frame → List (Component × Option Value)
with_slots [] ss = []
with_slots (c ∷ cs) [] = []
with_slots (c ∷ cs) (s ∷ ss) = (c, s) ∷ with_slots cs ss

-- Components with their slots in the order of the components' tags.
abbrev pub tag_order : Component × Option Value → Component × Option Value → Ordering
tag_order = on (λ p. p.0.tag) tag_cmp

-- The slots of all fields, which are given as the type lists its fields: those of the root of a SET by their tags, and extension additions last.
abbrev pub slots_read : SeqKind → Fields → Frame → Frame
slots_read SeqKind.sequence fs ss = ss
slots_read SeqKind.set fs ss = map (λ p. p.1) (sort tag_order (with_slots (components Standing.root fs) ss)) ++ drop (length (field_names fs)) ss
