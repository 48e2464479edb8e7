use Rattle.asn_times.proofs.ReadGeneralized.{generalized_one_text}
use Rattle.asn_times.proofs.laws.one_generalized_text.Goals as goal

pub returns : goal.returns
returns c = generalized_one_text
