use Rattle.std.proofs.Common.{◌++◌, sym, ap, ◌∙◌, append-nil, arith, string_bytes}
use Rattle.std.specs.List.{flat_map}
use Rattle.std.proofs.lemmas.List.{take_all}
use Rattle.asn_convert.specs.Reports.{refusal_line}
use Rattle.asn_convert.proofs.Reporting.{lines_more}
use Rattle.asn_convert.proofs.report.refusals_after.Goals as goal

pub loop-refusal-init : goal.loop-refusal-init
loop-refusal-init c = sym (append-nil _)

pub loop-refusal-preserved : goal.loop-refusal-preserved
loop-refusal-preserved c =
    lines_more _ _ _ _ c.args.refused.now c.loop-refusal.refusal-index c.refusal-item.result c.loop-refusal.invariant c.loop-refusal-test.true c.refusal-item.is (c.deref.ensures ∙ c.in_ok-line.ensures) c.in_ok-push_str.ensures.bytes

pub returns : goal.returns
returns c =
    c.loop-refusal.invariant ∙ ap (λ xs. string_bytes c.args.text ++ flat_map refusal_line xs) (take_all c.loop-refusal.refusal-index c.args.refused.now (omega arith))
