use Rattle.std.proofs.Common.{refl}
use Rattle.std.proofs.lemmas.Result.{on_ok_weaker}
use Rattle.std.proofs.lemmas.Str.{is_utf8-from_IsUtf8}
use Rattle.asn_model.specs.Shape.{Shape, Alphabet}
use Rattle.asn_coding.proofs.LeafValues.{leaf_written}
use Rattle.asn_encode.proofs.encoder.Encoder.encode_utf8_string.Goals as goal

pub returns-clause-written : goal.returns-clause-written
returns-clause-written g c = on_ok_weaker c.put_leaf.result (leaf_written (Shape.text Alphabet.utf8) _ _ refl (is_utf8-from_IsUtf8 _ c.utf8.value)) c.put_leaf.ensures.put
