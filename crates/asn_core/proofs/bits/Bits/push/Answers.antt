use Rattle.asn_core.proofs.HeldBits.{more-held, more-seen}
use Rattle.asn_core.proofs.bits.Bits.push.Goals as goal

pub invariant_of-self-2 : goal.invariant_of-self-2
invariant_of-self-2 c =
    let s = c.self.inside in
    more-held s.octets.items s.bit_count c.args.self.now c.args.bit c.append_bit.new.octets.items c.self.invariant c.in_ok-append_bit.ensures.appended

pub returns-clause-pushed : goal.returns-clause-pushed
returns-clause-pushed c =
    let s = c.self.inside in
    more-seen s.octets.items s.bit_count c.args.self.now c.args.bit c.append_bit.new.octets.items c.self.invariant c.in_ok-append_bit.ensures.appended c.self.view_is
