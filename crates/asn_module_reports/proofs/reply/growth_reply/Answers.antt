use Rattle.asn_module_reports.specs.Reports.{IsGrowthRefusal, IsGrowthReport}
use Rattle.asn_module_reports.proofs.Replying.{answered, growth_refused, replied}
use Rattle.asn_module_reports.proofs.reply.growth_reply.Goals as goal

pub returns-clause-reply : goal.returns-clause-reply
returns-clause-reply c =
    let old = c.args.old.now in
    let newer = c.args.new.now in
    let text = c.args.text.now in
    let report = c.growth_report.result in
    replied (IsGrowthReport old newer text) (IsGrowthRefusal old newer text) report c.reply_with.result c.growth_report.ensures.report (growth_refused old newer text report c.growth_report.ensures.refused) c.reply_with.ensures

pub returns-clause-complete : goal.returns-clause-complete
returns-clause-complete c = λ types. answered c.growth_report.result c.reply_with.result (c.growth_report.ensures.complete types) c.reply_with.ensures
