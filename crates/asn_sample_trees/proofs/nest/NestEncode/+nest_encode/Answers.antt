use Rattle.std.proofs.Common.{arith}
use Rattle.std.proofs.lemmas.Result.{err_from_is_err_and, on_ok_weaker}
use Rattle.asn_coding.proofs.Collecting.{collected-none, collected-more, collected-all, collected-blocks}
use Rattle.asn_sample_trees.proofs.Lists.{nest_written, nest_refused}
use Rattle.asn_sample_trees.proofs.nest.NestEncode.+nest_encode.Goals as goal

pub loop-item-init : goal.loop-item-init
loop-item-init g t c = collected-none _ _ _ _ _ _ c.in_ok-open_frame.ensures.opened

pub loop-item-preserved : goal.loop-item-preserved
loop-item-preserved g t c =
    collected-more c.deref-item-items.result.now c.loop-item.item-index c.item-item.result (omega arith) c.item-item.is c.loop-item.invariant c.in_ok-encode_with_tag_and_constraints.ensures.written

pub returns-in_err-encode_with_tag_and_constraints-clause-refused : goal.returns-in_err-encode_with_tag_and_constraints-clause-refused
returns-in_err-encode_with_tag_and_constraints-clause-refused g t c =
    let p = err_from_is_err_and c.from_residual-in_err-encode_with_tag_and_constraints.result c.from_residual-in_err-encode_with_tag_and_constraints.ensures.1 in
    rw (p.1, p.2) (nest_refused c.args.self.now c.deref-item-items.result.now c.deref-item-items.ensures.value
    (collected-blocks c.deref-item-items.result.now c.loop-item.item-index c.item-item.result _ (omega arith) c.item-item.is c.loop-item.invariant c.in_err-encode_with_tag_and_constraints.ensures.refused))

pub returns-clause-written : goal.returns-clause-written
returns-clause-written g t c =
    on_ok_weaker c.close_list.result (λ e. nest_written c.args.self.now c.deref-item-items.result.now c.deref-item-items.ensures.value
    (collected-all c.deref-item-items.result.now c.loop-item.item-index (omega arith) c.loop-item.invariant e)) c.close_list.ensures.closed
