use Rattle.std.proofs.Common.{◌<◌, length, arith}
use Rattle.asn_slots.proofs.Runs.{value_next}
use Rattle.asn_slots.proofs.pending.Pending.take_absent.Goals as goal

pub returns-then-len-gt0 : goal.returns-then-len-gt0
returns-then-len-gt0 g c =
    let some : 0 < length c.runs.self-inside.later.items = omega (arith, c.if-len-gt0.true, c.len.ensures, c.runs.self-inside.later.ok.0) in
    let next = value_next _ _ _ _ c.in-None.is some c.runs.invariant in
    (next.0, next.1, next.2, c.runs.invariant)
