use Rattle.asn_notation.proofs.OneNotation.{same_module}
use Rattle.asn_notation.proofs.laws.one_module.Goals as goal

pub returns : goal.returns
returns c = λ limit text assignments others a b. same_module a b
