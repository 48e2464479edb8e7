use Rattle.avn_grammar.proofs.OneTree.{same_parses}
use Rattle.avn_grammar.proofs.laws.one_tree_and_rest.Goals as goal

pub returns : goal.returns
returns c = λ limit level u r s t v d e. same_parses d e
