use Rattle.std.proofs.Common.{◌≡◌, ap, pos}
use Rattle.std.proofs.lemmas.Result.{on_ok_weaker}
use Rattle.asn_core.specs.Numbers.{signed}
use Rattle.asn_model.specs.Shape.{Shape}
use Rattle.asn_model.specs.Value.{Value}
use Rattle.asn_model.proofs.Ranges.{between}
use Rattle.asn_coding.proofs.LeafValues.{leaf_written, signed-parts}
use Rattle.asn_encode.proofs.encoder.Encoder.encode_integer.Goals as goal

pub returns-clause-written : goal.returns-clause-written
returns-clause-written g c =
    let i = g.I.IntegerType in
    let p = c.parts-negative in
    let same : signed p.result.0 p.result.1 ≡ i.number c.args.value.now = rw (p.ensures.sign, p.ensures.size) (signed-parts _) in
    on_ok_weaker c.put_leaf.result (leaf_written (Shape.int i.LEAST (pos i.GREATEST) i.WIDTH) (Value.int (i.number c.args.value.now)) _ (ap Value.int same) (between _ _ _ p.ensures.low p.ensures.high)) c.put_leaf.ensures.put
