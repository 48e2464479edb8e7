use Rattle.asn_dynamic_faults.specs.DynFailure.{dyn_failure}
use Rattle.std.proofs.Common.{◌≡◌, ◌∙◌, sym, true, false}
use Rattle.asn_fault.specs.Failure.{failure_of}
use Rattle.asn_model.specs.Shape.{Presence}
use Rattle.asn_model.specs.Value.{may_lack}
use Rattle.asn_dynamic_reading.proofs.FieldSteps.{absence, nothing-told}
use Rattle.asn_dynamic_reading.proofs.fields.take_absent_optional.Goals as goal

pub returns-in-Ok : goal.returns-in-Ok
returns-in-Ok g c p at e = absence g.D.Decoder.notation p at c.args.name.now (g.D.Decoder.pending c.args.decoder.now) (g.D.Decoder.pending c.take_absent.new.self) c.in-Ok.is_absent e c.in-Ok.ensures

not_required : (p : Presence) → may_lack p ≡ true → p ≡ Presence.required → ⊥
not_required p e is = let d : false ≡ true = sym (λ i. may_lack (is i)) ∙ e in cc d

pub returns-in-Err : goal.returns-in-Err
returns-in-Err g c p at e s =
    let t = c.told-error.ensures in
    let w = c.within.ensures in
    nothing-told p at s c.args.name.now (g.D.Decoder.pending c.args.decoder.now) t.0 (failure_of c.in-Err.error) (dyn_failure c.told-error.result) t.1 t.2 w.0 (dyn_failure c.within.result) w.1 w.2 (λ q. not_required p e q.0) c.in-Err.ensures
