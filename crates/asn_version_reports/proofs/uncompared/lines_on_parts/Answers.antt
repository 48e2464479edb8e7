-- Each part has its line.
use Rattle.std.proofs.Common.{◌∙◌, ◌++◌, ap, string_bytes}
use Rattle.asn_version_reports.proofs.Lacking.{parts-more}
use Rattle.asn_version_reports.proofs.uncompared.lines_on_parts.Goals as goal

pub loop-part-preserved : goal.loop-part-preserved
loop-part-preserved c =
    parts-more (string_bytes c.loop-part.lines) (string_bytes c.in_ok-line.line) (string_bytes c.push_str.new.self) c.args.parts.now c.loop-part.part-index c.part-item.result c.loop-part.invariant c.loop-part-test.true
    c.part-item.is c.in_ok-line.ensures.ok (c.in_ok-push_str.ensures.bytes ∙ ap (λ x. string_bytes c.loop-part.lines ++ x) c.as_str.ensures.value)
