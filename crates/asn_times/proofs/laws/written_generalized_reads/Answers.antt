use Rattle.asn_times.proofs.Walks.{generalized_text-reads, generalized_text-written}
use Rattle.asn_times.proofs.laws.written_generalized_reads.Goals as goal

pub returns : goal.returns
returns c = record { written = generalized_text-written; reads = generalized_text-reads }
