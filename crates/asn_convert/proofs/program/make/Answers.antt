use Rattle.asn_convert.specs.ExpectedOutput.{Outcome}
use Rattle.asn_streams.proofs.Known.{Keeps-same}
use Rattle.asn_convert.proofs.program.make.Goals as goal

pub returns-in-Err : goal.returns-in-Err
returns-in-Err g c = Outcome.unwritten (Keeps-same _)
