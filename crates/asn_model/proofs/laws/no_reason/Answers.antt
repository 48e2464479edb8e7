use Rattle.asn_model.proofs.laws.no_reason.Goals as goal
use Rattle.asn_model.proofs.Meanings.{apart}

pub returns : goal.returns
returns c = λ n s slot v p w x h k. apart x h k
