use Rattle.std.proofs.lemmas.Grind.{put_two}
use Rattle.asn_dynamic_faults.specs.Texts.{closing}
use Rattle.asn_dynamic_faults.proofs.Printed.{step_more, was_ok}
use Rattle.asn_dynamic_faults.proofs.printing.write_closings.Goals as goal

pub loop-step-preserved : goal.loop-step-preserved
loop-step-preserved g c = λ p.
    let h0 = c.loop-step.invariant p in
    put_two g.W.Write.write_str_gives _ _ _ _ _ _ h0 (c.write_closing.ensures h0.plain (was_ok _ _ c.in_ok-write_closing.was)) (step_more (closing c.args.codec) c.args.path.now c.loop-step.step-index c.step-item.result c.loop-step-test.true c.step-item.is)
