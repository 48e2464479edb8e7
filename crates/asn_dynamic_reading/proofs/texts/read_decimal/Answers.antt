use Rattle.std.proofs.Common.{refl, string_bytes}
use Rattle.asn_model.specs.Shape.{Shape}
use Rattle.asn_model.specs.declared.leaves.LeafKind.TheVariants.{Text}
use Rattle.asn_types.proofs.TextLeaves.{text_taken}
use Rattle.asn_dynamic_values.specs.DynView.{dyn_value}
use Rattle.asn_dynamic_reading.proofs.texts.read_decimal.Goals as goal

pub returns-clause-answer : goal.returns-clause-answer
returns-clause-answer g c =
    let h = c.in_ok-text.ensures in
    text_taken Shape.decimal Text dyn_value c.codec.result h.0 _ _ _ _ (string_bytes c.in-Text.text) c.digits_of.result refl c.in-Text.is h.1 h.3 (λ v o. o) c.codec.ensures c.digits_of.ensures.made
