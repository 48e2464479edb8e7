use Rattle.std.proofs.Common.{◌≡◌, ◌∙◌, Bool, true, false, ap, inl, inr, refl, subst, sym}
use Rattle.asn_coding.specs.Answer.{Refuses}
use Rattle.asn_coding.specs.Passing.{ComponentFailsWith}
use Rattle.asn_dynamic_faults.specs.DynFailure.{dyn_failure}
use Rattle.asn_fault.specs.Failure.{failure_of}
use Rattle.asn_model.specs.Components.{Standing}
use Rattle.asn_model.specs.Shape.{Presence}
use Rattle.asn_parts.specs.Parts.{standing_of}
use Rattle.asn_dynamic_reading.proofs.FieldSteps.{missing-told, nothing-told}
use Rattle.asn_dynamic_reading.proofs.fields.take_absent_required.Goals as goal

addition : (b : Bool) → b ≡ true → (Presence.required ≡ Presence.required) × (standing_of b ≡ Standing.root) → ⊥
addition true e q = let d : Standing.addition ≡ Standing.root = q.1 in cc d
addition false e q = let d : false ≡ true = e in cc d

pub returns-in-Err : goal.returns-in-Err
returns-in-Err g c s =
    let t = c.told-error.ensures in
    let w = c.within.ensures in
    nothing-told Presence.required (standing_of c.args.is_addition) s c.args.name.now (g.D.Decoder.pending c.args.decoder.now) t.0 (failure_of c.in-Err.error) (dyn_failure c.told-error.result) t.1 t.2 w.0 (dyn_failure c.within.result) w.1 w.2 (addition c.args.is_addition c.if-not-is_addition.false) c.in-Err.ensures

pub returns-in-Ok-true : goal.returns-in-Ok-true
returns-in-Ok-true g c s =
    let w = c.missing.ensures in
    let n = g.D.Decoder.notation in
    let name = c.args.name.now in
    let before = g.D.Decoder.pending c.args.decoder.now in
    subst (λ b. Refuses n (ComponentFailsWith n Presence.required (standing_of b) s name before) (dyn_failure c.missing.result)) (sym c.if-not-is_addition.false)
    (missing-told s name before _ w.0 (dyn_failure c.missing.result) w.1 w.2 (rw c.in-Ok-true.field-0-test at c.in-Ok-true.ensures))
