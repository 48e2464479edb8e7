use Rattle.std.proofs.Common.{◌≡◌, ap, subst, ◌∙◌}
use Rattle.std.specs.Str.{IsUtf8}
use Rattle.std.proofs.lemmas.Str.{IsCharBoundary-start}
use Rattle.asn_core.proofs.scan.Scan.has_edge_at_start.Goals as goal

pub returns : goal.returns
returns c =
    let e : c.whole-text.result.now ≡ c.args.self.now.text = c.whole-text.ensures ∙ ap (λ s. s.text) c.self.view_is in
    IsCharBoundary-start c.args.self.now.text (subst IsUtf8 e c.whole-text.utf8)
