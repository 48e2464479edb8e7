-- The data that a value stands for.
use Rattle.std.specs.Prelude.{List, [], ◌∷◌, map, string_bytes}
use Rattle.serde_json.specs.Data.{Num, Data, Items, Members}
use Rattle.serde_json.specs.View.{items_of, number_view}
use Rattle.jer_values.specs.Names.{name_bytes}
use Rattle.jer_values.specs.declared.integer.JsonInteger.{JsonInteger}
use Rattle.jer_values.specs.declared.name.JerName.{JerName}
use Rattle.jer_values.specs.declared.value.JerValue.{JerValue, fold-JerValue}
use Rattle.jer_values.specs.declared.value.JerValue.TheOpen.{JerValue-F}

-- The number.
abbrev pub integer_num : JsonInteger → Num
integer_num n = number_view n.number

-- The members of these names and data, in their order.
abbrev pub members_named : List (JerName × Data) → Members
members_named [] = Members.no_members
members_named (m ∷ ms) = Members.member (name_bytes m.0) m.1 (members_named ms)

-- One level, with each value inside already seen as its data.
abbrev pub data_step : JerValue-F Data → Data
data_step JerValue-F.Null = Data.null
data_step (JerValue-F.Boolean b) = Data.boolean b
data_step (JerValue-F.Integer n) = Data.number (integer_num n)
data_step (JerValue-F.Text s) = Data.string (string_bytes s)
data_step (JerValue-F.List v) = Data.array (items_of v.items)
data_step (JerValue-F.Members v) = Data.object (members_named v.items)

-- The data that a value stands for.
abbrev pub data_of : JerValue → Data
data_of = fold-JerValue Data data_step

-- The elements that values stand for.
abbrev pub items_view : List JerValue → Items
items_view values = items_of (map data_of values)

-- The members that named values stand for.
abbrev pub members_view : List (JerName × JerValue) → Members
members_view members = members_named (map (λ m. (m.0, data_of m.1)) members)
