use Rattle.std.proofs.Common.{◌≡◌, ap, sym, ◌∙◌}
use Rattle.asn_dynamic_faults.specs.DynFailure.{dyn_failure}
use Rattle.asn_fault.specs.Failure.{failure_of}
use Rattle.asn_model.specs.ShapeView.{kind_view}
use Rattle.asn_dynamic_reading.proofs.Repeating.{repeated-told, repeated-within}
use Rattle.asn_dynamic_reading.proofs.Telling.{told-refuses}
use Rattle.asn_dynamic_reading.proofs.fields.open_fields.Goals as goal

pub name-requires : goal.name-requires
name-requires g c = let r = rw c.in-Ok-Repeated.field-0-is at c.in-Ok-Repeated.ensures in repeated-within r

pub returns-in-Ok-Repeated-clause-refused : goal.returns-in-Ok-Repeated-clause-refused
returns-in-Ok-Repeated-clause-refused g c fs added listed =
    let w = c.repeated.ensures in
    let r = rw c.in-Ok-Repeated.field-0-is at c.in-Ok-Repeated.ensures in
    repeated-told (kind_view c.args.kind) fs added listed r c.name.result.now c.name.ensures w.0 (dyn_failure c.repeated.result) w.1 w.2

pub returns-in-Err-clause-refused : goal.returns-in-Err-clause-refused
returns-in-Err-clause-refused g c fs added listed =
    let w = c.told.ensures in
    told-refuses w.0 (failure_of c.in-Err.error) (dyn_failure c.told.result) w.1 w.2 (c.in-Err.ensures fs added listed)
