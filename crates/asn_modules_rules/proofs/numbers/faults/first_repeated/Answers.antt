use Rattle.std.proofs.Common.{rules}
use Rattle.std.proofs.lemmas.Int.{to_z-of_z}
use Rattle.std.specs.Int.{w128}
use Rattle.asn_modules_rules.proofs.numbers.Repeating.{new_passed}
use Rattle.asn_modules_rules.proofs.numbers.faults.first_repeated.Goals as goal

pub loop-entry-preserved : goal.loop-entry-preserved
loop-entry-preserved c =
    new_passed c.loop-entry.seen c.insert.new.self c.args.numbered.now c.loop-entry.entry-index _ _ c.in_ok-is_new.is_new c.loop-entry-test.true c.loop-entry.invariant.0
    c.in_ok-is_new.ensures.updates (to_z-of_z w128 _ (search rules)) c.in_ok-is_new.ensures.added c.if-not-is_new.false c.loop-entry.invariant.1
