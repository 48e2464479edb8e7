use Rattle.asn_core.proofs.Cutting.{first-bits}
use Rattle.asn_core.proofs.bits.first_bits.Goals as goal

pub returns : goal.returns
returns c = first-bits c.args.count c.args.octet c.requires.some c.requires.below
