use Rattle.asn_times.proofs.ReadDays.{one_day}
use Rattle.asn_times.proofs.laws.one_day.Goals as goal

pub returns : goal.returns
returns c = one_day
