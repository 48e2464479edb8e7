use Rattle.std.proofs.Common.{subst, sym}
use Rattle.asn_dynamic_reading.specs.fitting.HeldValue.{IsHeldValue}
use Rattle.asn_dynamic_values.proofs.Views.{view-Gen}
use Rattle.asn_dynamic_reading.proofs.values.gen_value.Goals as goal

pub returns-clause-value : goal.returns-clause-value
returns-clause-value c = view-Gen c.args.time

pub returns-clause-held : goal.returns-clause-held
returns-clause-held c = subst IsHeldValue (sym (view-Gen c.args.time)) c.generalized_is_held.ensures
