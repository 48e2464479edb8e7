use Rattle.std.proofs.Common.{ap, Ok, ◌∙◌}
use Rattle.asn_convert.proofs.Answering.{answer_replies, no_refusal, none_answered, refusal_replies}
use Rattle.asn_streams.proofs.Known.{Keeps-same}
use Rattle.asn_convert.proofs.program.pass_on.Goals as goal

pub returns-in-Ok-Answer-clause-answer : goal.returns-in-Ok-Answer-clause-answer
returns-in-Ok-Answer-clause-answer g c = answer_replies c.args.reply c.in-Ok-Answer.text _ _ _ (c.in-Ok-Answer.is ∙ ap (λ r. Ok r) c.in-Ok-Answer.field-0-is) c.as_bytes.ensures.value c.written.ensures

pub returns-in-Ok-Answer-clause-complete : goal.returns-in-Ok-Answer-clause-complete
returns-in-Ok-Answer-clause-complete g c = λ _. no_refusal _ _ _ c.written.ensures

pub returns-in-Ok-Refusal-clause-answer : goal.returns-in-Ok-Refusal-clause-answer
returns-in-Ok-Refusal-clause-answer g c = refusal_replies c.args.reply c.in-Ok-Refusal.line _ _ _ (c.in-Ok-Refusal.is ∙ ap (λ r. Ok r) c.in-Ok-Refusal.field-0-is) c.as_bytes-in-Ok-Refusal.ensures.value c.written-in-Ok-Refusal.ensures

pub returns-in-Ok-Refusal-clause-complete : goal.returns-in-Ok-Refusal-clause-complete
returns-in-Ok-Refusal-clause-complete g c =
    λ h. absurd (none_answered c.args.reply c.in-Ok-Refusal.line (c.in-Ok-Refusal.is ∙ ap (λ r. Ok r) c.in-Ok-Refusal.field-0-is) h)

pub returns-in-Err-clause-answer : goal.returns-in-Err-clause-answer
returns-in-Err-clause-answer g c = λ asked text h. Keeps-same _
