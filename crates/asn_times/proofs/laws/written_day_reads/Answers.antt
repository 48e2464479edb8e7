use Rattle.asn_times.proofs.Walks.{day_text-reads}
use Rattle.asn_times.proofs.laws.written_day_reads.Goals as goal

pub returns : goal.returns
returns c = day_text-reads
