use Rattle.avn_grammar.proofs.NormalForms.{normal-normal}
use Rattle.avn_grammar.proofs.laws.normal_of_normal.Goals as goal

pub returns : goal.returns
returns c = λ t. normal-normal t
