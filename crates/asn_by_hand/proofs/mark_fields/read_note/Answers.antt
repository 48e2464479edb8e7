use Rattle.std.proofs.Common.{refl}
use Rattle.asn_by_hand.proofs.Slots.{kept_optional}
use Rattle.asn_model.specs.Value.{Value}
use Rattle.asn_coding.proofs.FieldSteps.{field_refused, optional_taken}
use Rattle.asn_by_hand.proofs.mark_fields.read_note.Goals as goal
use Rattle.std.specs.Prelude.{string_bytes}

pub returns-in-Ok : goal.returns-in-Ok
returns-in-Ok g c = record { place = refl; read = _; taken = optional_taken (λ t. Value.text (string_bytes t)) c.in-Ok.note c.in-Ok.ensures; allowed = refl; is = kept_optional _ }

pub returns-in-Err : goal.returns-in-Err
returns-in-Err g c = field_refused _ _ c.codec.ensures _ _ c.field_error.ensures c.in-Err.ensures
