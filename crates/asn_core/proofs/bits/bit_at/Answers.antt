use Rattle.std.proofs.Common.{sym}
use Rattle.asn_core.proofs.Appending.{bit-at}
use Rattle.asn_core.proofs.bits.bit_at.Goals as goal

pub returns : goal.returns
returns c = sym (bit-at c.args.place c.args.octets.now c.requires)
