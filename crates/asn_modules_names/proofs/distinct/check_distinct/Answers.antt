use Rattle.std.proofs.Common.{refl}
use Rattle.asn_modules_names.proofs.Repeating.{knows_none, new_passed}
use Rattle.asn_modules_names.proofs.distinct.check_distinct.Goals as goal

pub loop-name-init : goal.loop-name-init
loop-name-init c = (knows_none c.new-seen.result c.new-seen.ensures.empty, refl)

pub loop-name-preserved : goal.loop-name-preserved
loop-name-preserved c =
    new_passed c.loop-name.seen c.insert.new.self c.args.names.now c.loop-name.name-index _ c.text_of.result c.in_ok-is_new.is_new c.loop-name-test.true c.loop-name.invariant.0
    c.text_of.ensures c.in_ok-is_new.ensures.added c.if-not-is_new.false c.in_ok-is_new.ensures.updates c.loop-name.invariant.1
