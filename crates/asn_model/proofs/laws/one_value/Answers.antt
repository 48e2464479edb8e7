use Rattle.asn_model.proofs.laws.one_value.Goals as goal
use Rattle.asn_model.proofs.Meanings.{one}

pub returns : goal.returns
returns c = λ n s slot v w x h k. one x h k
