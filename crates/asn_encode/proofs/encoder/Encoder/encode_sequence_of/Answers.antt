use Rattle.std.proofs.Common.{arith}
use Rattle.std.proofs.lemmas.Result.{err_from_is_err_and, on_ok_weaker}
use Rattle.asn_coding.proofs.Collecting.{collected-none, collected-more, collected-all, collected-blocks}
use Rattle.asn_encode.proofs.encoder.Encoder.encode_sequence_of.Goals as goal

pub loop-item-init : goal.loop-item-init
loop-item-init g c = collected-none _ _ _ _ _ _ c.in_ok-open_frame.ensures.opened

pub loop-item-preserved : goal.loop-item-preserved
loop-item-preserved g c = collected-more c.args.value.now c.loop-item.item-index c.item-item.result (omega arith) c.item-item.is c.loop-item.invariant c.in_ok-encode.ensures.written

pub returns-in_err-encode-clause-refused : goal.returns-in_err-encode-clause-refused
returns-in_err-encode-clause-refused g c =
    let p = err_from_is_err_and c.from_residual-in_err-encode.result c.from_residual-in_err-encode.ensures.1 in
    rw (p.1, p.2) (collected-blocks c.args.value.now c.loop-item.item-index c.item-item.result _ (omega arith) c.item-item.is c.loop-item.invariant c.in_err-encode.ensures.refused)

pub returns-clause-written : goal.returns-clause-written
returns-clause-written g c = on_ok_weaker c.close_list.result (λ e. collected-all c.args.value.now c.loop-item.item-index (omega arith) c.loop-item.invariant e) c.close_list.ensures.closed
