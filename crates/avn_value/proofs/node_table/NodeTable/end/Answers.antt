use Rattle.std.proofs.Common.{ap, ◌∙◌, arith}
use Rattle.avn_nodes.proofs.Tables.{table_below, table_at}
use Rattle.avn_nodes.specs.NodeViews.{NodeView}
use Rattle.avn_value.proofs.node_table.NodeTable.end.Goals as goal

pub end-requires : goal.end-requires
end-requires c = table_below _ _ c.self.invariant c.self.view_is c.args.node c.requires

pub returns : goal.returns
returns c = let e = c.end.ensures ∙ ap (λ (x : NodeView). x.end) (table_at _ _ c.self.invariant c.self.view_is c.args.node c.requires) in omega arith
