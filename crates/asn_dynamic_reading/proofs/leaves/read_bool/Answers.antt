use Rattle.std.proofs.Common.{subst, sym}
use Rattle.asn_dynamic_reading.specs.fitting.HeldValue.{IsHeldValue}
use Rattle.asn_dynamic_reading.proofs.Viewed.{viewed}
use Rattle.asn_dynamic_values.proofs.Views.{view-Bool}
use Rattle.asn_dynamic_values.specs.DynView.{dyn_value}
use Rattle.asn_dynamic_values.specs.declared.value.DynValue.{Bool as Flag}
use Rattle.asn_model.specs.Value.{Value}
use Rattle.asn_dynamic_reading.proofs.leaves.read_bool.Goals as goal

pub returns-in-Ok-clause-answer : goal.returns-in-Ok-clause-answer
returns-in-Ok-clause-answer g c = viewed Value.boolean dyn_value c.in-Ok.flag (Flag c.in-Ok.flag) (sym (view-Bool c.in-Ok.flag)) c.in-Ok.ensures

pub returns-in-Ok-clause-held : goal.returns-in-Ok-clause-held
returns-in-Ok-clause-held g c = subst IsHeldValue (sym (view-Bool c.in-Ok.flag)) tt
