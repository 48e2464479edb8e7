use Rattle.std.proofs.Common.{arith, ◌≡◌, length, ap, subst, ◌∙◌}
use Rattle.std.specs.Str.{IsUtf8}
use Rattle.asn_core.proofs.ScanSteps.{after-le}
use Rattle.asn_core.proofs.scan.Scan.has_short_rest.Goals as goal

pub returns : goal.returns
returns c =
    let s = c.args.self.now.text in
    let e : c.whole-text.result.now ≡ s = c.whole-text.ensures ∙ ap (λ v. v.text) c.self.view_is in
    omega (arith, after-le s c.args.place (subst IsUtf8 e c.whole-text.utf8) c.requires, c.self.told.0, ap (λ v. length v.text) c.self.view_is)
