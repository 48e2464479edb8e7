use Rattle.std.proofs.Common.{arith}
use Rattle.asn_modules.proofs.Absent.{missing_all, missing_at}
use Rattle.asn_modules.proofs.missing.each_missing.Goals as goal

pub loop-name-preserved : goal.loop-name-preserved
loop-name-preserved c =
    missing_at c.args.names.now c.loop-name.name-index _ c.loop-name.missing.items c.push.new.self.items c.in_ok-found.found
    c.loop-name-test.true c.loop-name.invariant c.in_ok-push.ensures.items c.in_ok-found.ensures

pub returns : goal.returns
returns c = missing_all c.args.names.now c.loop-name.name-index c.loop-name.missing.items (omega (arith, c.loop-name-test.false)) c.loop-name.invariant
