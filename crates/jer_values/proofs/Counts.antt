-- How many elements and members are sent.
use Rattle.std.proofs.Common.{◌≡◌, ap, refl, suc, length, List, [], ◌∷◌}
use Rattle.serde_json.specs.Events.{items_len, members_len}
use Rattle.jer_values.specs.Views.{items_view, members_view}
use Rattle.jer_values.specs.declared.name.JerName.{JerName}
use Rattle.jer_values.specs.declared.value.JerValue.{JerValue}

pub items_counted : (values : List JerValue) → items_len (items_view values) ≡ length values
items_counted [] = refl
items_counted (v ∷ values) = ap suc (items_counted values)

pub members_counted : (members : List (JerName × JerValue))
    → members_len (members_view members) ≡ length members
members_counted [] = refl
members_counted (m ∷ members) = ap suc (members_counted members)
