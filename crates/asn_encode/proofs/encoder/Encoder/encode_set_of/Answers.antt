use Rattle.std.proofs.Common.{◌∙◌, ap, arith, map}
use Rattle.std.proofs.lemmas.Result.{err_from_is_err_and, on_ok_weaker}
use Rattle.std.specs.Map.Iter.{deref}
use Rattle.asn_model.specs.Value.{values}
use Rattle.asn_coding.proofs.Collecting.{collected-none, collected-more, collected-blocks}
use Rattle.asn_coding.proofs.SetWriting.{collected-set, fails_bag, values-behind}
use Rattle.asn_encode.proofs.encoder.Encoder.encode_set_of.Goals as goal

pub loop-element-init : goal.loop-element-init
loop-element-init g c = collected-none _ _ _ _ _ _ c.in_ok-open_frame.ensures.opened

pub loop-element-preserved : goal.loop-element-preserved
loop-element-preserved g c = collected-more c.deref-element-items.result.now c.loop-element.element-index c.element-item.result (omega arith) c.element-item.is c.loop-element.invariant c.in_ok-encode.ensures.written

pub returns-in_err-encode-clause-refused : goal.returns-in_err-encode-clause-refused
returns-in_err-encode-clause-refused g c =
    let p = err_from_is_err_and c.from_residual-in_err-encode.result c.from_residual-in_err-encode.ensures.1 in
    let all = values-behind g.T.AsnType.value_of c.deref-element-items.result.now c.args.value.now (ap (map deref) c.deref-element-items.ensures.value ∙ c.in-Ok.ensures) in
    rw (p.1, p.2)
    (fails_bag g.Self.Encoder.notation _ _ _ all
    (collected-blocks c.deref-element-items.result.now c.loop-element.element-index c.element-item.result _ (omega arith) c.element-item.is c.loop-element.invariant c.in_err-encode.ensures.refused))

pub returns-clause-written : goal.returns-clause-written
returns-clause-written g c =
    let all = values-behind g.T.AsnType.value_of c.deref-element-items.result.now c.args.value.now (ap (map deref) c.deref-element-items.ensures.value ∙ c.in-Ok.ensures) in
    on_ok_weaker c.close_set.result
    (λ e. collected-set c.deref-element-items.result.now c.loop-element.element-index (values g.T.AsnType.value_of c.args.value.now) all g.met.T.AsnType.readable (omega arith) c.loop-element.invariant e) c.close_set.ensures.closed
