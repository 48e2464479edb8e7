use Rattle.std.proofs.Common.{ℕ, sym}
use Rattle.std.specs.Global.{Vec}
use Rattle.asn_dynamic_reading.proofs.Viewed.{viewed}
use Rattle.asn_dynamic_values.specs.DynView.{dyn_value}
use Rattle.asn_model.specs.Value.{Value}
use Rattle.asn_dynamic_reading.proofs.leaves.read_octets.Goals as goal

pub returns-in-Ok-clause-answer : goal.returns-in-Ok-clause-answer
returns-in-Ok-clause-answer g c = viewed (λ (v : Vec ℕ). Value.octets v.items) dyn_value c.in-Ok.octets c.octets_value.result (sym c.octets_value.ensures.value) c.in-Ok.ensures
