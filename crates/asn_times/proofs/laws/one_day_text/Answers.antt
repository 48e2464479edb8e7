use Rattle.asn_times.proofs.ReadDays.{one_day_text}
use Rattle.asn_times.proofs.laws.one_day_text.Goals as goal

pub returns : goal.returns
returns c = one_day_text
