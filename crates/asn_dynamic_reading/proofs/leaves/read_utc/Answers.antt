use Rattle.std.proofs.Common.{sym}
use Rattle.asn_dynamic_reading.proofs.Viewed.{viewed}
use Rattle.asn_dynamic_values.specs.DynView.{dyn_value}
use Rattle.asn_model.specs.Value.{Value}
use Rattle.asn_dynamic_reading.proofs.leaves.read_utc.Goals as goal

pub returns-in-Ok-clause-answer : goal.returns-in-Ok-clause-answer
returns-in-Ok-clause-answer g c = viewed Value.utc dyn_value c.in-Ok.time c.utc_value.result (sym c.utc_value.ensures.value) c.in-Ok.ensures
