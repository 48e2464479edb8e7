use Rattle.asn_module_reports.specs.Reports.{IsPrinting, IsPrintingRefusal}
use Rattle.asn_module_reports.proofs.Replying.{answered, printing_refused, replied}
use Rattle.asn_module_reports.proofs.reply.printing_reply.Goals as goal

pub returns-clause-reply : goal.returns-clause-reply
returns-clause-reply c =
    let text = c.args.text.now in
    let report = c.printed_module.result in
    replied (IsPrinting text) (IsPrintingRefusal text) report c.reply_with.result c.printed_module.ensures.printed (printing_refused text report c.printed_module.ensures.refused) c.reply_with.ensures

pub returns-clause-complete : goal.returns-clause-complete
returns-clause-complete c = λ stands. answered c.printed_module.result c.reply_with.result (c.printed_module.ensures.complete stands) c.reply_with.ensures
