use Rattle.std.proofs.Common.{◌≡◌, take, map}
use Rattle.avn_value.specs.View.{tree_of, fields_trees}
use Rattle.avn_value.proofs.clone.+copy.Given as goal

abbrev pub invariant-copy_list-loop-item : goal.invariant-copy_list-loop-item
invariant-copy_list-loop-item l = map tree_of l.copies.items ≡ map tree_of (take l.item-index l.item-items)

abbrev pub invariant-copy_fields-loop-name : goal.invariant-copy_fields-loop-name
invariant-copy_fields-loop-name l = fields_trees l.copies.items ≡ fields_trees (take l.name-index l.name-items)
