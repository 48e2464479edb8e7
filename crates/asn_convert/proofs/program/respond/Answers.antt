use Rattle.asn_convert.specs.Requests.{Request}
use Rattle.asn_streams.specs.Transfer.{transfer_of}
use Rattle.asn_convert.proofs.Answering.{conversion_answers}
use Rattle.asn_convert.proofs.program.respond.Goals as goal

pub returns-in-Convert-clause-answer : goal.returns-in-Convert-clause-answer
returns-in-Convert-clause-answer g c =
    let passed = transfer_of g.K.Sink.written g.K.Sink.faults c.args.sink.now c.convert.new.sink in
    rw c.in-Convert.is (conversion_answers c.in-Convert.from c.in-Convert.to c.in-Convert.sample c.in-Convert.limit c.args.text.now passed c.convert.result c.convert.ensures.answer)

pub returns-in-Module-clause-answer : goal.returns-in-Module-clause-answer
returns-in-Module-clause-answer g c = rw c.in-Module.is (c.pass_on.ensures.answer Request.printing c.args.text.now c.printing_reply.ensures.reply)

pub returns-in-Module-clause-complete : goal.returns-in-Module-clause-complete
returns-in-Module-clause-complete g c = rw c.in-Module.is (λ stands. c.pass_on.ensures.complete (c.printing_reply.ensures.complete stands))

pub returns-in-Grows-clause-answer : goal.returns-in-Grows-clause-answer
returns-in-Grows-clause-answer g c =
    rw c.in-Grows.is (c.pass_on-in-Grows.ensures.answer (Request.growth c.in-Grows.old.now c.in-Grows.new.now) c.args.text.now c.growth_reply.ensures.reply)

pub returns-in-Grows-clause-complete : goal.returns-in-Grows-clause-complete
returns-in-Grows-clause-complete g c = rw c.in-Grows.is (λ types. c.pass_on-in-Grows.ensures.complete (c.growth_reply.ensures.complete types))

pub returns-in-Keep-clause-answer : goal.returns-in-Keep-clause-answer
returns-in-Keep-clause-answer g c =
    rw c.in-Keep.is (c.pass_on-in-Keep.ensures.answer (Request.keeping c.in-Keep.from c.in-Keep.old c.in-Keep.new) c.args.text.now c.keeping_reply.ensures.reply)

pub returns-in-Keep-clause-complete : goal.returns-in-Keep-clause-complete
returns-in-Keep-clause-complete g c = rw c.in-Keep.is (λ kept. c.pass_on-in-Keep.ensures.complete (c.keeping_reply.ensures.complete kept))
