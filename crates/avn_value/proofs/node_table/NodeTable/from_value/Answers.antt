use Rattle.avn_nodes.proofs.Tables.{new_holds}
use Rattle.avn_value.proofs.node_table.NodeTable.from_value.Goals as goal

pub invariant_of-result : goal.invariant_of-result
invariant_of-result c = (new_holds _ _ _ c.new-nodes.ensures c.in_ok-put_value.ensures).0

pub returns : goal.returns
returns c = (new_holds _ _ _ c.new-nodes.ensures c.in_ok-put_value.ensures).1
