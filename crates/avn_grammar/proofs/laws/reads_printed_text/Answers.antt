use Rattle.avn_grammar.proofs.WholePrinted.{reads_before}
use Rattle.avn_grammar.proofs.laws.reads_printed_text.Goals as goal

pub returns : goal.returns
returns c = λ limit level d t rest h l a. reads_before limit level d t rest h l a
