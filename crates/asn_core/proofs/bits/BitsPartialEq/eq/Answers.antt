use Rattle.asn_core.proofs.HeldBits.{same-bits}
use Rattle.asn_core.proofs.bits.BitsPartialEq.eq.Goals as goal

pub returns-then-self-other : goal.returns-then-self-other
returns-then-self-other c =
    let s = c.self.inside in
    let o = c.other.inside in
    same-bits s.octets.items o.octets.items s.bit_count o.bit_count c.args.self.now c.args.other.now c.self.invariant c.other.invariant c.self.view_is c.other.view_is c.if-self-other.true c.eq.result c.eq.ensures
