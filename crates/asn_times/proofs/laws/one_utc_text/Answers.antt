use Rattle.asn_times.proofs.ReadUtc.{utc_one_text}
use Rattle.asn_times.proofs.laws.one_utc_text.Goals as goal

pub returns : goal.returns
returns c = utc_one_text
