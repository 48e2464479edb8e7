use Rattle.asn_coding.specs.FieldAnswer.{TakesField, TakesSlot}
use Rattle.asn_coding.proofs.FieldSteps.{field_refused}
use Rattle.asn_fields.proofs.fields.read_field.Goals as goal

pub returns-in-Ok-clause-read : goal.returns-in-Ok-clause-read
returns-in-Ok-clause-read g c = let h = c.in-Ok.ensures in TakesField.takes_field (TakesSlot.takes_value h.0 _ h.1 h.2) c.take_first-name.ensures.others

pub returns-in-Err-clause-refused : goal.returns-in-Err-clause-refused
returns-in-Err-clause-refused g c = let w = c.within_field.ensures in rw (← c.take_first-name.ensures.name) (field_refused _ w.0 w.1 _ _ w.2 c.in-Err.ensures)
