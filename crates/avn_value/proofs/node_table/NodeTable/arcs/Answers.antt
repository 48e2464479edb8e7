use Rattle.std.proofs.Common.{ap, ◌∙◌}
use Rattle.avn_nodes.proofs.Tables.{table_below, table_at}
use Rattle.avn_nodes.specs.NodeViews.{NodeView}
use Rattle.avn_value.proofs.node_table.NodeTable.arcs.Goals as goal

pub arcs-requires : goal.arcs-requires
arcs-requires c = table_below _ _ c.self.invariant c.self.view_is c.args.node c.requires

pub returns : goal.returns
returns c = c.arcs.ensures ∙ ap (λ (x : NodeView). x.arcs) (table_at _ _ c.self.invariant c.self.view_is c.args.node c.requires)
