use Rattle.std.proofs.lemmas.Grind.{put_two}
use Rattle.asn_fault.proofs.ListRows.{listed-more, was_ok}
use Rattle.asn_fault.proofs.joined.write_listed.Goals as goal

pub loop-item-preserved : goal.loop-item-preserved
loop-item-preserved g c = λ p.
    let h0 = c.loop-item.invariant p in
    let writes = rw g.met.T.Listed.prints at c.write.ensures.writes in
    put_two g.W.Write.write_str_gives _ _ _ _ _ _ h0 (writes h0.plain (was_ok _ _ c.in_ok-write.was)) (listed-more g.T.Listed.text c.args.items.now c.loop-item.item-index c.item-item.result c.loop-item-test.true c.item-item.is)
