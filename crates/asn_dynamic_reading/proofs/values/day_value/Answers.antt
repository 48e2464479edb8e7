use Rattle.std.proofs.Common.{subst, sym}
use Rattle.asn_dynamic_reading.specs.fitting.HeldValue.{IsHeldValue}
use Rattle.asn_dynamic_values.proofs.Views.{view-Day}
use Rattle.asn_dynamic_reading.proofs.values.day_value.Goals as goal

pub returns-clause-value : goal.returns-clause-value
returns-clause-value c = view-Day c.args.day

pub returns-clause-held : goal.returns-clause-held
returns-clause-held c = subst IsHeldValue (sym (view-Day c.args.day)) c.day_is_held.ensures
