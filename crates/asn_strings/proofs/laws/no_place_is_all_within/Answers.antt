use Rattle.asn_strings.proofs.Places.{none_is_within}
use Rattle.asn_strings.proofs.laws.no_place_is_all_within.Goals as goal

pub returns : goal.returns
returns c = λ alphabet characters. none_is_within alphabet characters
