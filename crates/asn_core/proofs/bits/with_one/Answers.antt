use Rattle.asn_core.proofs.Appending.{with-one}
use Rattle.asn_core.proofs.bits.with_one.Goals as goal

pub returns : goal.returns
returns c = with-one c.args.place c.args.octet c.requires.below c.requires.clear
