use Rattle.std.proofs.Common.{arith}
use Rattle.asn_modules.proofs.Naming.{names_all, names_more}
use Rattle.asn_modules.proofs.names.names_of.Goals as goal

pub loop-assigned-preserved : goal.loop-assigned-preserved
loop-assigned-preserved c =
    names_more c.args.types.now c.loop-assigned.assigned-index c.assigned-item.result c.loop-assigned.names.items c.push.new.self.items c.in_ok-name.name
    c.loop-assigned-test.true c.assigned-item.is c.loop-assigned.invariant c.in_ok-push.ensures.items c.in_ok-name.ensures

pub returns : goal.returns
returns c = names_all c.args.types.now c.loop-assigned.assigned-index c.loop-assigned.names.items (omega (arith, c.loop-assigned-test.false)) c.loop-assigned.invariant
