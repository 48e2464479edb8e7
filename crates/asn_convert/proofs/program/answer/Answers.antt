use Rattle.asn_convert.specs.ExpectedOutput.{Outcome}
use Rattle.asn_streams.proofs.Known.{Keeps-same}
use Rattle.asn_convert.proofs.program.answer.Goals as goal

pub returns : goal.returns
returns g c = Outcome.unwritten (Keeps-same _)
