use Rattle.asn_core.proofs.HeldBits.{none-held}
use Rattle.asn_core.proofs.bits.Bits.new.Goals as goal

pub invariant_of-result : goal.invariant_of-result
invariant_of-result c = none-held c.new.result.items c.new.ensures.items
