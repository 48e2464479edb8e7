use Rattle.std.proofs.Common.{ap, ◌∙◌}
use Rattle.std.specs.Fmt.{decimal}
use Rattle.std.proofs.lemmas.Result.{on_ok_weaker}
use Rattle.asn_model.specs.Shape.{Shape}
use Rattle.asn_model.specs.Value.{Value}
use Rattle.asn_model.proofs.Decimals.{is_decimal-written}
use Rattle.asn_coding.proofs.LeafValues.{leaf_written}
use Rattle.asn_decimal.proofs.digits.DecimalEncodeText.put_text.Goals as goal

pub returns-in-Ok-clause-written : goal.returns-in-Ok-clause-written
returns-in-Ok-clause-written g c =
    let number = c.args.self.now in
    let range = c.number-number.ensures.range in
    let text = c.in-Ok.ensures.ok ∙ ap decimal c.number-number.ensures.number in
    on_ok_weaker c.put_leaf.result (leaf_written Shape.decimal (Value.text (decimal number)) _ (ap Value.text text) (is_decimal-written number range.0 range.1)) c.put_leaf.ensures.put
