use Rattle.std.proofs.Common.{◌≡◌, ap, subst, true}
use Rattle.std.proofs.lemmas.Result.{on_ok_weaker}
use Rattle.avn_grammar.specs.Chars.{all}
use Rattle.avn_grammar.specs.WellFormed.{is_octet}
use Rattle.asn_model.specs.Shape.{Shape}
use Rattle.asn_model.specs.Value.{Value}
use Rattle.asn_coding.proofs.LeafValues.{leaf_written}
use Rattle.asn_encode.proofs.encoder.Encoder.encode_any.Goals as goal

pub returns-clause-written : goal.returns-clause-written
returns-clause-written g c =
    let same = c.as_bytes-octets.ensures in
    on_ok_weaker c.put_leaf.result (leaf_written Shape.any (Value.octets c.args.value.now) _ (ap Value.octets same) (subst (λ o. all is_octet o ≡ true) same c.are_octets.ensures)) c.put_leaf.ensures.put
