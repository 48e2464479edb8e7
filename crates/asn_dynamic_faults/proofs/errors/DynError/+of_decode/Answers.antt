use Rattle.std.proofs.Common.{◌≡◌, subst}
use Rattle.asn_fault.specs.Failure.{failure_of}
use Rattle.asn_dynamic_faults.specs.DynFailure.{IsTold, dyn_failure}
use Rattle.asn_dynamic_faults.proofs.Levels.{told_within}
use Rattle.asn_dynamic_faults.proofs.errors.DynError.+of_decode.Goals as goal

pub returns-in-FieldError : goal.returns-in-FieldError
returns-in-FieldError t c =
    let same : c.into_inner.result ≡ c.in-FieldError.nested.value = rw c.in-FieldError.is at c.into_inner.ensures in
    let told = subst (λ e. IsTold c.args.notation (failure_of e) (dyn_failure c.of_decode-inner.result)) same c.of_decode-inner.ensures in
    rw c.in-FieldError.is (told_within c.args.notation c.args.error.codec c.in-FieldError.name.now (failure_of c.in-FieldError.nested.value) (dyn_failure c.of_decode-inner.result) (dyn_failure c.within.result) told c.within.ensures)
