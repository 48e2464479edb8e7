use Rattle.avn_grammar.proofs.WholePrinted.{deep_only_above, deep_above}
use Rattle.avn_grammar.proofs.laws.depth_of_printed_text.Goals as goal

pub returns : goal.returns
returns c = λ limit level d t rest h a. (deep_only_above limit level d t rest h a, (λ m. deep_above limit level d t rest h a m))
