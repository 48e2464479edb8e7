use Rattle.std.proofs.Common.{sym, subst, string_bytes}
use Rattle.asn_convert.specs.Reports.{IsKeepingRefusal}
use Rattle.asn_convert.proofs.Reporting.{all_kept, first_difference, kept_reported, not_grown}
use Rattle.asn_model.specs.ShapeView.{shape_view}
use Rattle.asn_convert.proofs.report.shapes_report.Goals as goal

pub returns-in-Ok-clause-report : goal.returns-in-Ok-clause-report
returns-in-Ok-clause-report c =
    let k = c.in-Ok.ensures in
    kept_reported c.args.from (shape_view c.args.old.now) (shape_view c.args.new.now) c.args.text.now (string_bytes c.in-Ok.kept.text) c.in-Ok.kept.refused.items c.kept_report.result k.grown k.kept c.kept_report.ensures.text c.kept_report.ensures.whole

pub returns-in-Ok-clause-complete : goal.returns-in-Ok-clause-complete
returns-in-Ok-clause-complete c = λ can.
    all_kept c.args.from (shape_view c.args.old.now) (shape_view c.args.new.now) c.args.text.now (string_bytes c.in-Ok.kept.text) c.in-Ok.kept.refused.items c.kept_report.result c.in-Ok.ensures.kept c.kept_report.ensures.whole can

pub returns-in_ok-format-in-Err-NotGrown-clause-report : goal.returns-in_ok-format-in-Err-NotGrown-clause-report
returns-in_ok-format-in-Err-NotGrown-clause-report c =
    let old = shape_view c.args.old.now in
    let new = shape_view c.args.new.now in
    let place = c.in-Err-NotGrown.place in
    let reason = c.in-Err-NotGrown.field-0-1 in
    let differs = first_difference old new c.in-Err-NotGrown.field-0 place reason c.in-Err-NotGrown.field-0-is c.in-Err-NotGrown.ensures.not_grown in
    subst (IsKeepingRefusal c.args.from old new c.args.text.now) (sym c.in_ok-format-in-Err-NotGrown.ensures.ok) (IsKeepingRefusal.not_grown place reason differs)

pub returns-in_ok-format-in-Err-NotGrown-clause-complete : goal.returns-in_ok-format-in-Err-NotGrown-clause-complete
returns-in_ok-format-in-Err-NotGrown-clause-complete c = λ can.
    let old = shape_view c.args.old.now in
    let new = shape_view c.args.new.now in
    let place = c.in-Err-NotGrown.place in
    let reason = c.in-Err-NotGrown.field-0-1 in
    let differs = first_difference old new c.in-Err-NotGrown.field-0 place reason c.in-Err-NotGrown.field-0-is c.in-Err-NotGrown.ensures.not_grown in
    absurd (not_grown old new place reason can.grown differs)
