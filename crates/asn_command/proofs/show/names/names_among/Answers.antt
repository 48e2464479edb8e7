use Rattle.std.proofs.Common.{arith}
use Rattle.asn_modules.specs.Modules.{modules_view}
use Rattle.asn_command.proofs.show.Naming.{shown_all, shown_more}
use Rattle.asn_command.proofs.show.names.names_among.Goals as goal

pub loop-name-preserved : goal.loop-name-preserved
loop-name-preserved c =
    shown_more (modules_view c.args.modules.now).names c.args.names.now c.loop-name.name-index c.name-item.result c.loop-name.found.items c.push.new.self.items c.in_ok-shown.shown c.loop-name-test.true c.name-item.is c.loop-name.invariant c.in_ok-push.ensures.items c.in_ok-shown.ensures

pub returns : goal.returns
returns c = shown_all (modules_view c.args.modules.now).names c.args.names.now c.loop-name.name-index c.loop-name.found.items (omega (arith, c.loop-name-test.false)) c.loop-name.invariant
