use Rattle.asn_convert.proofs.Answering.{text_answers, line_answers}
use Rattle.asn_convert.proofs.program.convert_within.Goals as goal

pub returns-in-Ok-clause-answer : goal.returns-in-Ok-clause-answer
returns-in-Ok-clause-answer g c = text_answers c.args.limit _ _ _ _ _ _ _ c.in-Ok.ensures.converted c.answer.ensures

pub returns-in-Err-clause-answer : goal.returns-in-Err-clause-answer
returns-in-Err-clause-answer g c = line_answers c.args.limit _ _ _ _ _ _ _ c.in-Err.ensures.refused c.refuse.ensures.memory c.refuse.ensures.line
