use Rattle.std.proofs.lemmas.Result.{on_ok_weaker, IfErr-weaker}
use Rattle.asn_coding.specs.FieldAnswer.{AddsSlot}
use Rattle.asn_coding.specs.Writing.{FailsToFill}
use Rattle.asn_fields.proofs.fields.write_default_field.Goals as goal

pub returns-else-is_default-clause-written : goal.returns-else-is_default-clause-written
returns-else-is_default-clause-written g c = rw c.if-is_default.false (on_ok_weaker c.encode_some.result (AddsSlot.adds_value _) c.encode_some.ensures.written)

pub returns-else-is_default-clause-refused : goal.returns-else-is_default-clause-refused
returns-else-is_default-clause-refused g c = rw c.if-is_default.false (IfErr-weaker c.encode_some.result _ _ (λ e r. FailsToFill.slot_refused r) c.encode_some.ensures.refused)

pub returns-then-is_default-clause-written : goal.returns-then-is_default-clause-written
returns-then-is_default-clause-written g c = rw c.if-is_default.true (on_ok_weaker c.encode_none.result AddsSlot.adds_nothing c.encode_none.ensures.written)

pub returns-then-is_default-clause-refused : goal.returns-then-is_default-clause-refused
returns-then-is_default-clause-refused g c = rw c.if-is_default.true (IfErr-weaker c.encode_none.result _ _ (λ e r. FailsToFill.no_memory_left r) c.encode_none.ensures.refused)
