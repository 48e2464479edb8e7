use Rattle.asn_strings.proofs.Places.{first_outside}
use Rattle.asn_strings.proofs.laws.place_is_of_first_outside.Goals as goal

pub returns : goal.returns
returns c = λ alphabet characters place e. first_outside alphabet characters place e
