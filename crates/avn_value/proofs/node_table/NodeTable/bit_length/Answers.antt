use Rattle.std.proofs.Common.{ap, ◌∙◌}
use Rattle.avn_nodes.proofs.Tables.{table_below, table_at}
use Rattle.avn_nodes.specs.NodeViews.{NodeView}
use Rattle.avn_value.proofs.node_table.NodeTable.bit_length.Goals as goal

pub bit_length-requires : goal.bit_length-requires
bit_length-requires c = table_below _ _ c.self.invariant c.self.view_is c.args.node c.requires

pub returns : goal.returns
returns c = c.bit_length.ensures ∙ ap (λ (x : NodeView). x.bits) (table_at _ _ c.self.invariant c.self.view_is c.args.node c.requires)
