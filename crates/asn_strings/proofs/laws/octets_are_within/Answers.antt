use Rattle.asn_strings.proofs.Utf8Octets.{octets_within}
use Rattle.asn_strings.proofs.laws.octets_are_within.Goals as goal

pub returns : goal.returns
returns c = λ alphabet text past_ascii utf8 h. octets_within alphabet past_ascii text utf8 h
