use Rattle.std.proofs.Common.{refl}
use Rattle.asn_coding.specs.FieldAnswer.{TakesDefault}
use Rattle.asn_fields.proofs.fields.read_default_field.Goals as goal

pub returns-in-Ok-Some-clause-read : goal.returns-in-Ok-Some-clause-read
returns-in-Ok-Some-clause-read g c = TakesDefault.takes_own (rw c.in-Ok-Some.field-0-is at c.in-Ok-Some.ensures.read)

pub returns-in-Ok-None-clause-read : goal.returns-in-Ok-None-clause-read
returns-in-Ok-None-clause-read g c = TakesDefault.takes_standing (rw c.in-Ok-None.field-0-is at c.in-Ok-None.ensures.read) refl
