use Rattle.std.proofs.Common.{arith}
use Rattle.std.proofs.lemmas.Result.{err_from_is_err_and}
use Rattle.asn_model.specs.ShapeView.{kind_view}
use Rattle.asn_coding.proofs.Reading as list
use Rattle.asn_decode.proofs.decoder.Decoder.decode_elements.Goals.{in-Some, in-None+in_ok-decode-in-None}
use Rattle.asn_decode.proofs.decoder.Decoder.decode_elements.Goals as goal

pub returns-in_err-count : goal.returns-in_err-count
returns-in_err-count g c = let p = err_from_is_err_and c.from_residual.result c.from_residual.ensures.1 in rw (p.1, p.2) (c.in_err-count.ensures g.T.AsnType.shape_of)

pub loop-i-preserved : goal.loop-i-preserved
loop-i-preserved g c =
    let before = c.loop-i.invariant in
    elim c.match-decode_at_hand.branch [
      | in-Some w ↦ rw (w.items-is, w.self-is) (record {
        reading = rw w.push_reserved.ensures.items (list.step _ (kind_view c.args.kind) _ _ _ _ _ _ _ _ _ before.reading c.loop-i-test.true w.in-Some.ensures);
        filled = omega (arith, before.filled, w.push_reserved.ensures.len);
        room = omega (arith, before.room, w.push_reserved.ensures.capacity);
      })
      | in-None+in_ok-decode-in-None w ↦ rw (w.items-is, w.self-is) (record {
        reading = rw w.push_reserved-in-None.ensures.items (list.step _ (kind_view c.args.kind) _ _ _ _ _ _ _ _ _ before.reading c.loop-i-test.true (rw w.in-None.ensures at w.in_ok-decode-in-None.ensures));
        filled = omega (arith, before.filled, w.push_reserved-in-None.ensures.len);
        room = omega (arith, before.room, w.push_reserved-in-None.ensures.capacity);
      })
    ]

pub returns-in_err-decode-in-None : goal.returns-in_err-decode-in-None
returns-in_err-decode-in-None g c =
    let p = err_from_is_err_and c.from_residual-in_err-decode-in-None.result c.from_residual-in_err-decode-in-None.ensures.1 in
    rw (p.1, p.2) (list.refuse _ _ _ _ _ _ _ _ _ _ c.loop-i.invariant.reading c.loop-i-test.true (rw c.in-None.ensures at c.in_err-decode-in-None.ensures))

pub returns : goal.returns
returns g c = list.finish _ _ _ _ _ _ _ _ _ c.loop-i.invariant.reading c.loop-i-test.false
