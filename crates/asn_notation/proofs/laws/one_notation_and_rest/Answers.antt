use Rattle.asn_notation.proofs.OneNotation.{same_notation}
use Rattle.asn_notation.proofs.laws.one_notation_and_rest.Goals as goal

pub returns : goal.returns
returns c = λ limit level text rest other_rest notation other a b. same_notation a b
