-- A value of one version of a type as another version has it.
use Rattle.std.specs.Prelude.{ℕ, zero, suc, List, Option, Some, None}
use Rattle.asn_model.specs.Shape.{Shape, Fields, opened, all_fields, all_alternatives, alternative_named}
use Rattle.asn_model.specs.Tree.{same_identifier}
use Rattle.asn_model.specs.Value.{Value, Values, Slots, bag_of}

-- How many loops stand one within another at the head of a shape.
abbrev pub head_loops : Shape → ℕ
head_loops (Shape.loop body) = suc (head_loops body)
head_loops s = 0

-- The shape, opened so many times.
abbrev pub opened_times : ℕ → Shape → Shape
opened_times zero s = s
opened_times (suc n) s = opened_times n (opened s)

-- The shape without a loop at its head: each one is opened.
abbrev pub without_loops : Shape → Shape
without_loops s = opened_times (head_loops s) s

-- The shape of a payload that is found, and any where none is.
abbrev pub found_shape : Option (List ℕ × Shape) → Shape
found_shape None = Shape.null
found_shape (Some (i, s)) = s

-- The members of fields that are all absent.
abbrev pub all_absent : Fields → Slots
all_absent Fields.no_fields = Slots.no_slots
all_absent (Fields.field n t p s fs) = Slots.absent n (all_absent fs)

abbrev mutual
  -- The value as a type of this shape has it, which has no loop at its head: at every depth members that the type lacks are left out, those that the value lacks are absent, and the elements of a SET OF are in order again.
  pub adapted_in : Shape → Value → Value
  adapted_in (Shape.seq kind fs added) (Value.members ms) = Value.members (adapted_slots (all_fields fs added) ms)
  adapted_in (Shape.list_of s) (Value.list vs) = Value.list (adapted_each s vs)
  adapted_in (Shape.set_of s) (Value.bag vs) = bag_of (adapted_each s vs)
  adapted_in (Shape.table s) (Value.list vs) = Value.list (adapted_each s vs)
  adapted_in (Shape.choice alts added) (Value.choice i v) = Value.choice i (adapted_in (without_loops (found_shape (alternative_named same_identifier (all_alternatives alts added) i))) v)
  adapted_in s v = v

  -- The elements, in the same way.
  pub adapted_each : Shape → Values → Values
  adapted_each s Values.no_values = Values.no_values
  adapted_each s (Values.value v vs) = Values.value (adapted_in (without_loops s) v) (adapted_each s vs)

  -- The members, in the same way: one for each field, as the members of a type begin with those of its older versions.
  pub adapted_slots : Fields → Slots → Slots
  adapted_slots fs Slots.no_slots = all_absent fs
  adapted_slots Fields.no_fields (Slots.absent m ms) = Slots.no_slots
  adapted_slots Fields.no_fields (Slots.present m v ms) = Slots.no_slots
  adapted_slots (Fields.field n t p s fs) (Slots.absent m ms) = Slots.absent m (adapted_slots fs ms)
  adapted_slots (Fields.field n t p s fs) (Slots.present m v ms) = Slots.present m (adapted_in (without_loops s) v) (adapted_slots fs ms)

-- The value as a type of this shape has it.
abbrev pub adapted : Shape → Value → Value
adapted s v = adapted_in (without_loops s) v

-- A value of a newer type without the members that the older one lacks, at every depth.
abbrev pub project : Shape → Value → Value
project old v = adapted old v

-- A value of an older type with an absent member for each addition of the newer one, at every depth.
abbrev pub lift : Shape → Value → Value
lift new v = adapted new v
