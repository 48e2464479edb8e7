use Rattle.avn_grammar.proofs.OneTree.{same_parses}
use Rattle.avn_grammar.proofs.laws.one_tree.Goals as goal

pub returns : goal.returns
returns c = λ limit u t v d e. (same_parses d.1 e.1).0
