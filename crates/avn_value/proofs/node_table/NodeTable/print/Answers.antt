use Rattle.std.proofs.Common.{ap, ◌∙◌}
use Rattle.avn_grammar.specs.Print.{print}
use Rattle.avn_nodes.specs.Preorder.{tree_at}
use Rattle.avn_nodes.proofs.Tables.{table_nodes}
use Rattle.avn_nodes.proofs.Subtrees.{table_tree}
use Rattle.avn_nodes.proofs.Walks.{kind_not_absent}
use Rattle.avn_value.proofs.node_table.NodeTable.print.Goals as goal

pub print-requires : goal.print-requires
print-requires c =
    let tree = kind_not_absent (tree_at c.args.self.now c.args.node) c.requires.present in
    (table_tree _ _ (table_nodes _ _ c.self.invariant c.self.view_is) c.args.node c.requires.below tree.0 tree.1).0

pub returns : goal.returns
returns c = λ tree is. c.in_ok-text.ensures ∙ ap (print 0) (table_tree _ _ (table_nodes _ _ c.self.invariant c.self.view_is) c.args.node c.requires.below tree is).1
