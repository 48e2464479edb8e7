use Rattle.avn_nodes.proofs.Tables.{table_holds}
use Rattle.avn_value.proofs.node_table.NodeTable.from_nodes.Goals as goal

pub invariant_of-result : goal.invariant_of-result
invariant_of-result c = (table_holds _ _ c.requires).0

pub returns : goal.returns
returns c = (table_holds _ _ c.requires).1
