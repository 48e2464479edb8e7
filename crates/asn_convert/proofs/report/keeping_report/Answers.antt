use Rattle.std.proofs.Common.{sym, subst, string_bytes}
use Rattle.std.specs.Prelude.{IfOk}
use Rattle.asn_convert.specs.Reports.{CanKeepAll, IsReport}
use Rattle.asn_model.specs.ShapeView.{shape_view}
use Rattle.asn_samples.specs.Samples.{sample_shape}
use Rattle.asn_convert.proofs.report.keeping_report.Goals as goal

pub returns-clause-report : goal.returns-clause-report
returns-clause-report c =
    let r = c.shapes_report.result in
    let text = c.args.text.now in
    let is = c.shapes_report.ensures.report in
    subst (λ s. IfOk r (λ x. IsReport c.args.from s (sample_shape c.args.new) text (string_bytes x.text) x.is_whole)) c.in_ok-older.ensures.is
    (subst (λ s. IfOk r (λ x. IsReport c.args.from (shape_view c.in_ok-older.older) s text (string_bytes x.text) x.is_whole)) c.in_ok-newer.ensures.is is)

pub returns-clause-complete : goal.returns-clause-complete
returns-clause-complete c = λ can.
    let text = c.args.text.now in
    let newer = subst (λ s. CanKeepAll c.args.from (sample_shape c.args.old) s text) (sym c.in_ok-newer.ensures.is) can in
    c.shapes_report.ensures.complete (subst (λ s. CanKeepAll c.args.from s (shape_view c.in_ok-newer.newer) text) (sym c.in_ok-older.ensures.is) newer)
