use Rattle.asn_replies.specs.Delivered.{Outcome}
use Rattle.asn_replies.proofs.delivery.write.Goals as goal

pub returns-in-Ok : goal.returns-in-Ok
returns-in-Ok g c = Outcome.whole c.in-Ok.ensures.written

pub returns-in-Err : goal.returns-in-Err
returns-in-Err g c = Outcome.cut c.in-Err.ensures.cause.failed c.in-Err.ensures.front
