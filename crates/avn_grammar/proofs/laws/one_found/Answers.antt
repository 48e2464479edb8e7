use Rattle.avn_grammar.proofs.OneAnswer.{same_unread}
use Rattle.avn_grammar.proofs.laws.one_found.Goals as goal

pub returns : goal.returns
returns c = λ limit u e f a b. same_unread a b
