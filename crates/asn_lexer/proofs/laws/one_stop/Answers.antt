use Rattle.asn_lexer.proofs.Reading.{same_stop}
use Rattle.asn_lexer.proofs.laws.one_stop.Goals as goal

pub returns : goal.returns
returns c = same_stop
