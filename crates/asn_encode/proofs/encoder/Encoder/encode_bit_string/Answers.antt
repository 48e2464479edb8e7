use Rattle.std.proofs.Common.{ap}
use Rattle.std.proofs.lemmas.Result.{on_ok_weaker}
use Rattle.asn_model.specs.Fixed.{fixed_size}
use Rattle.asn_model.specs.Shape.{Shape}
use Rattle.asn_model.specs.Value.{Value}
use Rattle.asn_model.proofs.BitsRead.{same-itself}
use Rattle.asn_coding.proofs.LeafValues.{leaf_written}
use Rattle.asn_encode.proofs.encoder.Encoder.encode_bit_string.Goals as goal

pub returns-clause-written : goal.returns-clause-written
returns-clause-written g c =
    let size = fixed_size c.args.constraints.now in
    let bits = c.args.value.now in
    on_ok_weaker c.put_leaf.result (leaf_written (Shape.bits size) (Value.bits bits size) _ (ap (Value.bits bits) c.fixed_size.ensures) (same-itself size)) c.put_leaf.ensures.put
