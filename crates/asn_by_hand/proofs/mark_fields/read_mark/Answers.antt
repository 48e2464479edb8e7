use Rattle.std.proofs.Common.{Some, ap, arith, refl, rules, w64}
use Rattle.std.proofs.lemmas.Int.{to_z-of_z}
use Rattle.asn_model.specs.Value.{Value}
use Rattle.asn_coding.specs.FieldAnswer.{TakesSlot}
use Rattle.asn_coding.proofs.FieldSteps.{field_refused}
use Rattle.asn_by_hand.proofs.mark_fields.read_mark.Goals as goal

pub returns-in-Ok : goal.returns-in-Ok
returns-in-Ok g c =
    let h = c.in-Ok.ensures in
    record { place = refl; read = Some _; taken = TakesSlot.takes_value h.0 _ h.1 h.2; allowed = refl; is = ap (λ n. Some (Value.int n)) (to_z-of_z w64 c.in-Ok.mark (search (rules, arith))) }

pub returns-in-Err : goal.returns-in-Err
returns-in-Err g c = field_refused _ _ c.codec.ensures _ _ c.field_error.ensures c.in-Err.ensures
