use Rattle.asn_growth.proofs.Unfolding.{grows-unfolded}
use Rattle.asn_growth.proofs.laws.growth_survives_unfolding.Goals as goal

pub returns : goal.returns
returns c = λ b d g. grows-unfolded g
