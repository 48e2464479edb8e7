use Rattle.std.proofs.Common.{◌≡◌, take, map}
use Rattle.avn_grammar.specs.Normal.{normal, normal_fields}
use Rattle.avn_value.specs.View.{tree_of, fields_trees}
use Rattle.avn_value.proofs.normal.+normal.Given as goal

abbrev pub invariant-normal_list-loop-item : goal.invariant-normal_list-loop-item
invariant-normal_list-loop-item l = map tree_of l.forms.items ≡ map (λ v. normal (tree_of v)) (take l.item-index l.item-items)

abbrev pub invariant-present_fields-loop-name : goal.invariant-present_fields-loop-name
invariant-present_fields-loop-name l = fields_trees l.forms.items ≡ normal_fields (fields_trees (take l.name-index l.name-items))
