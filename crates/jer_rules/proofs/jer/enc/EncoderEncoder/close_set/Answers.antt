use Rattle.std.proofs.lemmas.Result.{IfOk-at_ok, on_ok_weaker}
use Rattle.jer_rules.proofs.Sets.{set_closed}
use Rattle.jer_rules.proofs.jer.enc.EncoderEncoder.close_set.Goals as goal

pub returns-clause-closed : goal.returns-clause-closed
returns-clause-closed c =
    let closed = IfOk-at_ok _ c.in_ok-items.ensures.same c.close_list.ensures.closed in
    let in_order = IfOk-at_ok _ c.in_ok-sorted.ensures.same c.in_text_order.ensures in
    on_ok_weaker c.put.result (λ a. set_closed _ _ _ closed.0 c.in_ok-items.items c.in_ok-sorted.sorted closed.1 closed.2 in_order a) c.put.ensures.added
