use Rattle.std.proofs.Common.{Some}
use Rattle.asn_coding.specs.FieldAnswer.{TakesField, TakesSlot}
use Rattle.asn_coding.proofs.FieldSteps.{addition_missing, addition_refused}
use Rattle.asn_fields.proofs.fields.read_addition.Goals as goal

pub returns-in-Ok-Some-clause-read : goal.returns-in-Ok-Some-clause-read
returns-in-Ok-Some-clause-read g c = let h = rw c.in-Ok-Some.field-0-is at c.in-Ok-Some.ensures in TakesField.takes_field (TakesSlot.takes_value (Some h.0) _ h.1 h.2) c.take_first-name.ensures.others

pub returns-in-Ok-None-clause-refused : goal.returns-in-Ok-None-clause-refused
returns-in-Ok-None-clause-refused g c = let h = rw c.in-Ok-None.field-0-is at c.in-Ok-None.ensures in rw (← c.take_first-name.ensures.name) (addition_missing _ _ c.codec.ensures _ c.missing_field.ensures h)

pub returns-in-Err-clause-refused : goal.returns-in-Err-clause-refused
returns-in-Err-clause-refused g c = let w = c.within_field.ensures in rw (← c.take_first-name.ensures.name) (addition_refused _ w.0 w.1 _ _ w.2 c.in-Err.ensures)
