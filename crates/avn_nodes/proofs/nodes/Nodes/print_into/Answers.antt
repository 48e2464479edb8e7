use Rattle.std.proofs.Common.{◌++◌, ap, ◌∙◌, string_bytes}
use Rattle.std.proofs.lemmas.Fmt.{contents_after_writes}
use Rattle.avn_grammar.specs.Print.{print}
use Rattle.avn_nodes.specs.Subtrees.{tree_from}
use Rattle.avn_nodes.proofs.Rows.{was_ok, depth-Root}
use Rattle.avn_nodes.proofs.nodes.Nodes.print_into.Goals as goal

pub returns-in-Ok : goal.returns-in-Ok
returns-in-Ok c =
    let tree = tree_from c.args.self.now.nodes c.args.node in
    ap string_bytes c.into_inner.ensures
    ∙ contents_after_writes _ string_bytes (λ w l v t. t) _ _ _ (c.print_node.ensures c.new-f.ensures.plain (was_ok _ _ c.in-Ok.is)).wrote ∙ ap (λ l. l ++ print _ tree) (ap string_bytes c.new-f.ensures.writer ∙ c.requires.empty) ∙ ap (λ d. print d tree) depth-Root
