use Rattle.avn_grammar.proofs.DeepParses.{deep_parses}
use Rattle.avn_grammar.proofs.laws.depth_excludes_tree.Goals as goal

pub returns : goal.returns
returns c = λ limit level u r t d s. deep_parses d t r s
