use Rattle.std.proofs.Common.{◌≡◌, ap, subst, true}
use Rattle.std.proofs.lemmas.Result.{on_ok_weaker}
use Rattle.asn_model.specs.Shape.{Shape, all_items, is_item}
use Rattle.asn_model.specs.Value.{Value}
use Rattle.asn_coding.proofs.LeafValues.{leaf_written}
use Rattle.asn_encode.proofs.encoder.Encoder.encode_enumerated.Goals as goal

pub returns-clause-written : goal.returns-clause-written
returns-clause-written g c =
    let t = g.T.Enumerated in
    let is = c.identifier.ensures.is in
    on_ok_weaker c.put_leaf.result (leaf_written (Shape.enum t.items t.added) (Value.item (t.item c.args.value.now)) _ (ap Value.item is) (subst (λ i. is_item (all_items t.items t.added) i ≡ true) is c.identifier.ensures.listed)) c.put_leaf.ensures.put
