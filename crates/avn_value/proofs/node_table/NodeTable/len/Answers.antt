use Rattle.std.proofs.Common.{◌∙◌}
use Rattle.avn_nodes.proofs.Tables.{table_size}
use Rattle.avn_value.proofs.node_table.NodeTable.len.Goals as goal

pub returns : goal.returns
returns c = c.len.ensures ∙ table_size _ _ c.self.invariant c.self.view_is
