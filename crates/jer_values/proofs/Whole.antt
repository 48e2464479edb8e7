-- The numbers of a value are whole.
use Rattle.std.proofs.Common.{[], ◌∷◌, List, map, subst, sym}
use Rattle.serde_json.specs.Data.{Data}
use Rattle.serde_json.specs.View.{items_of}
use Rattle.jer_values.specs.Views.{data_of, data_step, members_view}
use Rattle.jer_values.specs.declared.name.JerName.{JerName}
use Rattle.jer_values.specs.declared.value.JerValue.{JerValue}
use Rattle.jer_values.specs.declared.value.JerValue.TheOpen.{JerValue-F}
use Rattle.jer_values.specs.declared.value.JerValue.TheFolds.{fold-roll-JerValue, ind-JerValue, map-JerValue}
use Rattle.jer_values.proofs.Reading.{HasWhole, HaveWhole, MembersHaveWhole}

-- The numbers that the value stands for are whole.
abbrev IsWhole : JerValue → Type 0
IsWhole v = HasWhole (data_of v)

abbrev Proved : Type 0
Proved = (v : JerValue) × IsWhole v

items_whole : (es : List Proved) → HaveWhole (items_of (map data_of (map (λ e. e.0) es)))
items_whole [] = tt
items_whole (e ∷ es) = (e.1, items_whole es)

members_whole : (es : List (JerName × Proved))
    → MembersHaveWhole (members_view (map (λ (m : JerName × Proved). (m.0, m.1.0)) es))
members_whole [] = tt
members_whole (e ∷ es) = (e.1.1, members_whole es)

layer_whole : (y : JerValue-F Proved)
    → HasWhole (data_step (map-JerValue JerValue Data data_of (map-JerValue Proved JerValue (λ e. e.0) y)))
layer_whole JerValue-F.Null = tt
layer_whole (JerValue-F.Boolean b) = tt
layer_whole (JerValue-F.Integer n) = n.whole
layer_whole (JerValue-F.Text s) = tt
layer_whole (JerValue-F.List v) = items_whole v.items
layer_whole (JerValue-F.Members v) = members_whole v.items

-- The numbers of a value are whole.
pub whole : (v : JerValue) → HasWhole (data_of v)
whole = ind-JerValue IsWhole (λ x y is.
    subst HasWhole (sym (fold-roll-JerValue Data data_step x))
    (subst (λ z. HasWhole (data_step (map-JerValue JerValue Data data_of z))) is (layer_whole y)))
