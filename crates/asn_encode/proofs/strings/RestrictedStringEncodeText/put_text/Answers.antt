use Rattle.std.proofs.Common.{ap}
use Rattle.std.proofs.lemmas.Result.{on_ok_weaker}
use Rattle.std.proofs.lemmas.Str.{is_utf8-from_IsUtf8}
use Rattle.asn_model.specs.Shape.{Shape}
use Rattle.asn_model.specs.Value.{Value}
use Rattle.asn_coding.proofs.LeafValues.{leaf_written}
use Rattle.asn_encode.proofs.strings.RestrictedStringEncodeText.put_text.Goals as goal

pub returns-clause-written : goal.returns-clause-written
returns-clause-written g c =
    let text = c.args.self.now in
    let fit = g.met.C.TextSet.is_value text (is_utf8-from_IsUtf8 text c.text_is_utf8.ensures) c.as_str.ensures.within in
    on_ok_weaker c.put_leaf.result (leaf_written (Shape.text g.C.NamedSet.name) (Value.text text) _ (ap Value.text c.as_str.ensures.text) fit) c.put_leaf.ensures.put
