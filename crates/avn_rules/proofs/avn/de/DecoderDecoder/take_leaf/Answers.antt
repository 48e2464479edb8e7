use Rattle.std.proofs.Common.{◌≡◌, ap, subst}
use Rattle.std.proofs.lemmas.Result.{err_from_is_err_and}
use Rattle.avn_rules.specs.LeafAnswer.{LeafAnswer}
use Rattle.avn_rules.specs.Pending.{DecoderView, value_at}
use Rattle.avn_rules.proofs.Opened.{leaf_taken}
use Rattle.avn_rules.proofs.avn.de.DecoderDecoder.take_leaf.Goals as goal

pub returns-in_err-node : goal.returns-in_err-node
returns-in_err-node c =
    let p = err_from_is_err_and c.from_residual.result c.from_residual.ensures.1 in
    rw (p.1, p.2) (λ s is. c.in_err-node.ensures s)

pub returns : goal.returns
returns c =
    let root : c.self.inside.table ≡ c.take.new.self.root = ap (λ (d : DecoderView). d.root) c.self.view_is in
    leaf_taken c.args.kind _ _ c.in_ok-node.node _ c.in_ok-node.ensures (subst (λ t. LeafAnswer c.args.kind (value_at t c.in_ok-node.node) c.leaf_of_node.result) root c.leaf_of_node.ensures)
