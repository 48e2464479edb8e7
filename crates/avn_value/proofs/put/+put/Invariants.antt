use Rattle.std.proofs.Common.{◌≡◌, take}
use Rattle.avn_value.specs.View.{list_trees, fields_trees}
use Rattle.avn_nodes.specs.Preorder.{fields_preorder, list_preorder}
use Rattle.avn_nodes.specs.NodeLists.{extended}
use Rattle.avn_value.proofs.put.+put.Given as goal

abbrev pub invariant-put_list-loop-item : goal.invariant-put_list-loop-item
invariant-put_list-loop-item l = l.nodes ≡ extended l.fn.nodes (list_preorder (list_trees (take l.item-index l.item-items)))

abbrev pub invariant-put_fields-loop-name : goal.invariant-put_fields-loop-name
invariant-put_fields-loop-name l = l.nodes ≡ extended l.fn.nodes (fields_preorder (fields_trees (take l.name-index l.name-items)))
