use Rattle.asn_strings.proofs.Utf8Octets.{characters_within}
use Rattle.asn_strings.proofs.laws.characters_are_within.Goals as goal

pub returns : goal.returns
returns c = λ alphabet text past_ascii utf8 h. characters_within alphabet past_ascii text utf8 h
