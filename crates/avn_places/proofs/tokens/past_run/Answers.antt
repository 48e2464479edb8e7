use Rattle.std.proofs.Common.{◌∙◌, sym}
use Rattle.avn_places.proofs.Fronts.{run_steps}
use Rattle.avn_places.proofs.tokens.past_run.Goals as goal

pub loop-place-preserved : goal.loop-place-preserved
loop-place-preserved c =
    run_steps c.args.run c.as_bytes-bytes.result.now c.loop-place.place c.as_bytes-bytes.ensures.utf8 c.loop-place-test.true (sym c.passes.ensures ∙ c.if-passes.true) c.loop-place.invariant.1
