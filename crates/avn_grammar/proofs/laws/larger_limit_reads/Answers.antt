use Rattle.avn_grammar.proofs.LargerLimits.{parses_more}
use Rattle.avn_grammar.proofs.laws.larger_limit_reads.Goals as goal

pub returns : goal.returns
returns c = λ limit larger u t more d. (d.0, parses_more limit larger more d.1, d.2)
