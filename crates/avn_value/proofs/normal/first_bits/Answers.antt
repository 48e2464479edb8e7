use Rattle.std.proofs.Common.{arith}
use Rattle.avn_value.proofs.Packed.{first-bits}
use Rattle.avn_value.proofs.normal.first_bits.Goals as goal

pub returns : goal.returns
returns c = first-bits c.args.count c.args.octet c.requires.some c.requires.below (omega (arith, c.ranges.octet))
