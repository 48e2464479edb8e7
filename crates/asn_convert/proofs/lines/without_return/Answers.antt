use Rattle.asn_convert.proofs.Words.{no_last}
use Rattle.asn_convert.proofs.lines.without_return.Goals as goal

pub returns-in-None : goal.returns-in-None
unfolding lib.Utf8.encode
returns-in-None c = no_last c.args.line.now 13 c.in-None.ensures.cases
