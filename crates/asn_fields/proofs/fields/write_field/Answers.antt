use Rattle.std.proofs.lemmas.Result.{on_ok_weaker, IfErr-weaker}
use Rattle.asn_coding.specs.FieldAnswer.{AddsSlot}
use Rattle.asn_coding.specs.Writing.{FailsToFill}
use Rattle.asn_fields.proofs.fields.write_field.Goals as goal

pub returns-clause-written : goal.returns-clause-written
returns-clause-written g c = on_ok_weaker c.encode_some.result (AddsSlot.adds_value _) c.encode_some.ensures.written

pub returns-clause-refused : goal.returns-clause-refused
returns-clause-refused g c = IfErr-weaker c.encode_some.result _ _ (λ e r. FailsToFill.slot_refused r) c.encode_some.ensures.refused
