use Rattle.avn_rules.proofs.LeafNodes.{kind_refused}
use Rattle.avn_rules.proofs.avn.leaf_nodes.other_kind.Goals as goal

pub returns : goal.returns
returns c = kind_refused c.args.kind _ _ _ c.requires.other (rw c.needed.ensures at c.mismatch.ensures)
