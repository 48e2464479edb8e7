use Rattle.std.proofs.Common.{codes, refl}
use Rattle.asn_coding.specs.Scopes.{NoAlternative}
use Rattle.asn_coding.proofs.Refusing.{at_no_field}
use Rattle.asn_dynamic_faults.specs.DynFailure.{dyn_failure}
use Rattle.asn_fault.specs.Failure.{Cause, failure_of}
use Rattle.asn_dynamic_reading.proofs.Telling.{told-refuses}
use Rattle.asn_dynamic_reading.proofs.told.no_choice.Goals as goal

pub returns : goal.returns
returns g c =
    let w = c.told.ensures in
    told-refuses {n = g.D.Decoder.notation} {P = NoAlternative} w.0 (failure_of c.no_valid_choice-error.result) (dyn_failure c.told.result) w.1 w.2
    (at_no_field {n = g.D.Decoder.notation} {P = NoAlternative} (Cause.no_valid_choice (codes "CHOICE")) c.codec.result (failure_of c.no_valid_choice-error.result) c.no_valid_choice-error.ensures c.codec.ensures (codes "CHOICE", refl, refl))
