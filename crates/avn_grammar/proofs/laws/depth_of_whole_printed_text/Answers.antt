use Rattle.avn_grammar.proofs.WholePrinted.{sinks_whole}
use Rattle.avn_grammar.proofs.laws.depth_of_whole_printed_text.Goals as goal

pub returns : goal.returns
returns c = λ limit t h l. sinks_whole limit 0 t h l
