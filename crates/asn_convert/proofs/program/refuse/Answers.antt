use Rattle.asn_convert.specs.ExpectedOutput.{Outcome}
use Rattle.asn_streams.proofs.Known.{Keeps-same}
use Rattle.asn_convert.proofs.program.refuse.Goals as goal

pub returns-then-is_out_of_memory-clause-line : goal.returns-then-is_out_of_memory-clause-line
returns-then-is_out_of_memory-clause-line g c = Outcome.unwritten (Keeps-same _)

pub returns-in-Err-clause-line : goal.returns-in-Err-clause-line
returns-in-Err-clause-line g c = Outcome.unwritten (Keeps-same _)
