use Rattle.avn_grammar.proofs.WholePrinted.{reads_whole}
use Rattle.avn_grammar.proofs.laws.reads_whole_printed_text.Goals as goal

pub returns : goal.returns
returns c = λ limit t h l. reads_whole limit 0 t h l
