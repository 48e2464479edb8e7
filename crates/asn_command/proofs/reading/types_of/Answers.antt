use Rattle.std.proofs.lemmas.Result.{IfOk-weaker}
use Rattle.asn_command.proofs.reading.types_of.Goals as goal

pub returns-in-Err-clause-refused : goal.returns-in-Err-clause-refused
returns-in-Err-clause-refused c = IfOk-weaker c.modules_reply.result _ _ (λ reply told. record { error = c.in-Err.error; refusal = c.in-Err.ensures.refused; told = told }) c.modules_reply.ensures
