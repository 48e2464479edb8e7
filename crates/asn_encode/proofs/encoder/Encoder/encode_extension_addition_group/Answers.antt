use Rattle.std.proofs.lemmas.Result.{on_ok_weaker, IfErr-weaker}
use Rattle.asn_coding.specs.FieldAnswer.{AddsSlot}
use Rattle.asn_coding.specs.Writing.{FailsToFill}
use Rattle.asn_encode.proofs.encoder.Encoder.encode_extension_addition_group.Goals as goal

pub returns-in-Some-clause-written : goal.returns-in-Some-clause-written
returns-in-Some-clause-written g c = rw c.in-Some.is (on_ok_weaker c.encode_some.result (AddsSlot.adds_value _) c.encode_some.ensures.written)

pub returns-in-Some-clause-refused : goal.returns-in-Some-clause-refused
returns-in-Some-clause-refused g c = rw c.in-Some.is (IfErr-weaker c.encode_some.result _ _ (λ e r. FailsToFill.slot_refused r) c.encode_some.ensures.refused)

pub returns-in-None-clause-written : goal.returns-in-None-clause-written
returns-in-None-clause-written g c = rw c.in-None.is (on_ok_weaker c.encode_none.result AddsSlot.adds_nothing c.encode_none.ensures.written)

pub returns-in-None-clause-refused : goal.returns-in-None-clause-refused
returns-in-None-clause-refused g c = rw c.in-None.is (IfErr-weaker c.encode_none.result _ _ (λ e r. FailsToFill.no_memory_left r) c.encode_none.ensures.refused)
