use Rattle.std.proofs.Common.{◌≡◌, take, true}
use Rattle.avn_grammar.specs.WellFormed.{are_well_formed, are_fields_well_formed}
use Rattle.avn_value.specs.View.{list_trees, fields_trees}
use Rattle.avn_value.proofs.well_formed.+form.Given as goal

abbrev pub invariant-is_list_well_formed-loop-item : goal.invariant-is_list_well_formed-loop-item
invariant-is_list_well_formed-loop-item l = are_well_formed (list_trees (take l.item-index l.item-items)) ≡ true

abbrev pub invariant-are_fields_well_formed-loop-name : goal.invariant-are_fields_well_formed-loop-name
invariant-are_fields_well_formed-loop-name l = are_fields_well_formed (fields_trees (take l.name-index l.name-items)) ≡ true
