use Rattle.std.proofs.Common.{ap, sym, ◌∙◌}
use Rattle.asn_dynamic_reading.proofs.Viewed.{viewed}
use Rattle.asn_dynamic_values.specs.DynView.{dyn_value}
use Rattle.asn_model.specs.Value.{Value}
use Rattle.asn_dynamic_reading.proofs.leaves.read_any.Goals as goal

pub returns-in-Ok-clause-answer : goal.returns-in-Ok-clause-answer
returns-in-Ok-clause-answer g c = viewed Value.octets dyn_value c.in-Ok.octets c.octets_value.result (ap Value.octets (sym c.into_vec.ensures) ∙ sym c.octets_value.ensures.value) c.in-Ok.ensures
