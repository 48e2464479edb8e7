-- Each module that isn't given has its line.
use Rattle.std.proofs.Common.{◌∙◌, ◌++◌, ap, string_bytes}
use Rattle.asn_command.proofs.TextsOn.{missing_more}
use Rattle.asn_command.proofs.checking.lines_on_missing.Goals as goal

pub loop-missing-preserved : goal.loop-missing-preserved
loop-missing-preserved c =
    missing_more (string_bytes c.loop-missing.lines) (string_bytes c.in_ok-line.line) (string_bytes c.push_str.new.self) c.args.modules.now c.loop-missing.missing-index c.missing-item.result c.loop-missing.invariant c.loop-missing-test.true
    c.missing-item.is c.in_ok-line.ensures (c.in_ok-push_str.ensures.bytes ∙ ap (λ x. string_bytes c.loop-missing.lines ++ x) c.as_str.ensures.value)
