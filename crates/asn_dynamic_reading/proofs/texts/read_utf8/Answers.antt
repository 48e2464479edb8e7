use Rattle.std.proofs.Common.{sym, String, Global, string_bytes}
use Rattle.asn_dynamic_reading.proofs.Viewed.{viewed}
use Rattle.asn_dynamic_values.specs.DynView.{dyn_value}
use Rattle.asn_model.specs.Value.{Value}
use Rattle.asn_dynamic_reading.proofs.texts.read_utf8.Goals as goal

pub returns-in-Ok-clause-answer : goal.returns-in-Ok-clause-answer
returns-in-Ok-clause-answer g c = viewed (λ (s : String Global). Value.text (string_bytes s)) dyn_value c.in-Ok.text c.text_value.result (sym c.text_value.ensures.value) c.in-Ok.ensures
