use Rattle.std.proofs.lemmas.Grind.{put_two}
use Rattle.avn_nodes.proofs.DigitRows.{arcs-more}
use Rattle.avn_nodes.proofs.Rows.{was_ok}
use Rattle.avn_nodes.proofs.digits.write_arcs.Goals as goal

pub loop-arc-preserved : goal.loop-arc-preserved
loop-arc-preserved g c = λ p.
    let h0 = c.loop-arc.invariant p in
    put_two g.W.Write.write_str_gives _ _ _ _ _ _ h0 (c.write.ensures.writes h0.plain (was_ok _ _ c.in_ok-write.was)) (arcs-more c.args.arcs.now c.loop-arc.arc-index c.loop-arc-test.true)
