use Rattle.std.proofs.Common.{refl}
use Rattle.std.proofs.lemmas.Result.{on_ok_weaker}
use Rattle.asn_model.specs.Shape.{Shape}
use Rattle.asn_model.proofs.Readables.{and-both}
use Rattle.asn_coding.proofs.LeafValues.{leaf_written}
use Rattle.asn_encode.proofs.encoder.Encoder.encode_object_identifier.Goals as goal

pub returns-clause-written : goal.returns-clause-written
returns-clause-written g c = λ accepted. on_ok_weaker c.put_leaf.result (leaf_written Shape.oid _ _ refl (and-both _ _ c.are_arcs.ensures accepted)) c.put_leaf.ensures.put
