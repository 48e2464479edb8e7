use Rattle.asn_coding.specs.FieldAnswer.{TakesField}
use Rattle.asn_coding.proofs.FieldSteps.{field_refused, optional_taken}
use Rattle.asn_fields.proofs.fields.read_optional_field.Goals as goal

pub returns-in-Ok-clause-read : goal.returns-in-Ok-clause-read
returns-in-Ok-clause-read g c = TakesField.takes_field (optional_taken g.T.AsnType.value_of c.in-Ok.value c.in-Ok.ensures) c.take_first-name.ensures.others

pub returns-in-Err-clause-refused : goal.returns-in-Err-clause-refused
returns-in-Err-clause-refused g c = let w = c.within_field.ensures in rw (← c.take_first-name.ensures.name) (field_refused _ w.0 w.1 _ _ w.2 c.in-Err.ensures)
