use Rattle.asn_times.proofs.Walks.{utc_text-reads, utc_text-written}
use Rattle.asn_times.proofs.laws.written_utc_reads.Goals as goal

pub returns : goal.returns
returns c = record { written = utc_text-written; reads = utc_text-reads }
