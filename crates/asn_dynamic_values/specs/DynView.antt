-- The value that a `DynValue` is.
use Rattle.std.specs.Prelude.{ℕ, List, [], ◌∷◌, map, Option, Some, None, String, string_bytes}
use Rattle.std.specs.Option.{option_map}
use Rattle.std.specs.Global.{Global}
use Rattle.asn_core.specs.Numbers.{signed}
use Rattle.asn_model.specs.Value.{Value, Slots, values}
use Rattle.asn_dynamic_values.specs.declared.value.DynValue.{DynValue, fold-DynValue}
use Rattle.asn_dynamic_values.specs.declared.value.DynValue.TheOpen.{DynValue-F}

-- The members of these names and slots, in their order.
abbrev pub members_named : List (List ℕ × Option Value) → Slots
members_named [] = Slots.no_slots
members_named ((name, None) ∷ ms) = Slots.absent name (members_named ms)
members_named ((name, Some v) ∷ ms) = Slots.present name v (members_named ms)

-- One level, with each value inside already seen.
abbrev pub dyn_step : DynValue-F Value → Value
dyn_step DynValue-F.Null = Value.null
dyn_step (DynValue-F.Bool b) = Value.boolean b
dyn_step (DynValue-F.Int n) = Value.int (signed n.negative n.magnitude)
dyn_step (DynValue-F.Bits bits fixed) = Value.bits bits fixed
dyn_step (DynValue-F.Octets o) = Value.octets o.items
dyn_step (DynValue-F.Arcs a) = Value.arcs a.items
dyn_step (DynValue-F.Text t) = Value.text t.items
dyn_step (DynValue-F.Units u) = Value.units u.items
dyn_step (DynValue-F.Utc n) = Value.utc n
dyn_step (DynValue-F.Gen n) = Value.gen n
dyn_step (DynValue-F.Day n) = Value.day n
dyn_step (DynValue-F.Item i) = Value.item (string_bytes i)
dyn_step (DynValue-F.Members ms) = Value.members (members_named (map (λ m. (string_bytes m.0, m.1)) ms.items))
dyn_step (DynValue-F.List vs) = Value.list (values (λ v. v) vs.items)
dyn_step (DynValue-F.Bag vs) = Value.bag (values (λ v. v) vs.items)
dyn_step (DynValue-F.Choice i v) = Value.choice (string_bytes i) v.value

-- The value that a `DynValue` is.
abbrev pub dyn_value : DynValue → Value
dyn_value = fold-DynValue Value dyn_step

-- A member's name as bytes, and its value, if it is present.
abbrev pub named_value : String Global × Option DynValue → List ℕ × Option Value
named_value (name, o) = (string_bytes name, option_map dyn_value o)
