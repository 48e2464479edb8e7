use Rattle.std.proofs.Common.{◌≡◌, drop, subst, ◌∙◌}
use Rattle.std.specs.Str.{IsUtf8}
use Rattle.asn_core.proofs.ScanSteps.{looked, stepped, given}
use Rattle.asn_core.proofs.scan.wide_at.Goals as goal

pub returns-clause-found : goal.returns-clause-found
returns-clause-found c =
    let s = c.args.text.now in
    let e : c.range_from.result.now ≡ drop c.args.place s = c.range_from.ensures.value in
    looked s c.next.new.self.rest.now c.args.place c.next.result (subst IsUtf8 e c.range_from.utf8) (given _ _ _ _ _ (c.chars.ensures.rest ∙ e) c.next.ensures.steps.0)

pub returns-clause-edge : goal.returns-clause-edge
returns-clause-edge c =
    let s = c.args.text.now in
    let e : c.range_from.result.now ≡ drop c.args.place s = c.range_from.ensures.value in
    stepped s c.next.new.self.rest.now c.args.place c.next.result c.requires.0 (subst IsUtf8 e c.range_from.utf8) (given _ _ _ _ _ (c.chars.ensures.rest ∙ e) c.next.ensures.steps.0)
