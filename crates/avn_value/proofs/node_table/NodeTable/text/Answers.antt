use Rattle.std.proofs.Common.{ap, ◌∙◌}
use Rattle.avn_nodes.proofs.Tables.{table_below, table_at}
use Rattle.avn_nodes.specs.NodeViews.{NodeView}
use Rattle.avn_value.proofs.node_table.NodeTable.text.Goals as goal

pub text-requires : goal.text-requires
text-requires c = table_below _ _ c.self.invariant c.self.view_is c.args.node c.requires

pub returns : goal.returns
returns c = c.text.ensures ∙ ap (λ (x : NodeView). x.text) (table_at _ _ c.self.invariant c.self.view_is c.args.node c.requires)
