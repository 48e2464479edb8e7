use Rattle.std.proofs.Common.{◌+◌, ◌-◌, ◌*◌}
use Rattle.avn_value.specs.View.{list_trees, fields_trees}
use Rattle.avn_nodes.proofs.Walks.{Fielding, Listing}
use Rattle.avn_nodes.specs.Preorder.{node_count}
use Rattle.avn_value.proofs.node_table.NodeTable.+value.Given as goal

abbrev pub decreases-to_value : goal.decreases-to_value
decreases-to_value l = 2 * (node_count l.self.now - l.node) + 1

abbrev pub decreases-to_fields : goal.decreases-to_fields
decreases-to_fields l = 2 * (node_count l.self.now - l.node)

abbrev pub decreases-to_list : goal.decreases-to_list
decreases-to_list l = 2 * (node_count l.self.now - l.node)

abbrev pub invariant-to_fields-children : goal.invariant-to_fields-children
invariant-to_fields-children l = Fielding l.self l.node l.child l.end (fields_trees l.fields.items)

abbrev pub decreases-to_fields-children : goal.decreases-to_fields-children
decreases-to_fields-children l = l.end - l.child

abbrev pub invariant-to_list-children : goal.invariant-to_list-children
invariant-to_list-children l = Listing l.self l.node l.child l.end (list_trees l.list.items)

abbrev pub decreases-to_list-children : goal.decreases-to_list-children
decreases-to_list-children l = l.end - l.child
