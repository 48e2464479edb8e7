-- What arrays and objects stand for.
use Rattle.std.proofs.Common.{◌≡◌, Global, Vec, rules}
use Rattle.serde_json.specs.Data.{Data}
use Rattle.jer_values.specs.Views.{data_of, items_view, members_view}
use Rattle.jer_values.specs.declared.name.JerName.{JerName}
use Rattle.jer_values.specs.declared.value.JerValue.{JerValue, the_lemmas}
use Rattle.jer_values.specs.declared.value.JerValue.TheVariants as value

-- An array stands for its elements.
pub data_list : (v : Vec JerValue Global) → data_of (value.List v) ≡ Data.array (items_view v.items)
data_list v = search (rules, the_lemmas)

-- An object stands for its members.
pub data_members : (v : Vec (JerName × JerValue) Global)
    → data_of (value.Members v) ≡ Data.object (members_view v.items)
data_members v = search (rules, the_lemmas)
