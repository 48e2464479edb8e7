use Rattle.std.proofs.Common.{arith, ◌≡◌, ◌+◌, ◌-◌, ◌∷◌, suc, ap, sym, refl, ◌∙◌}
use Rattle.asn_core.specs.Seen.{after}
use Rattle.asn_core.proofs.ScanSteps.{copy-step, count-step}
use Rattle.asn_core.proofs.scan.Scan.excerpt.Goals as goal

pub loop-copied-preserved : goal.loop-copied-preserved
loop-copied-preserved c =
    let i = c.loop-copied.invariant in
    let s = c.self.inside.text.now in
    let d = c.in-Some.c in
    let e : c.args.at_most - c.loop-copied.copied ≡ suc (c.args.at_most - (c.loop-copied.copied + 1)) = omega (arith, c.loop-copied-test.true) in
    let v : after s c.loop-copied.at ≡ d ∷ after s (c.loop-copied.at + c.len_utf8-at.result) = c.in-Some.ensures.found ∙ ap (λ n. d ∷ after s (c.loop-copied.at + n)) (sym c.len_utf8-at.ensures.value) in (
      rw c.len_utf8-at.ensures.value c.in-Some.ensures.edge,
      omega (arith, c.loop-copied-test.true),
      refl,
      copy-step _ _ _ _ _ _ _ d e v c.in_ok-push-in-Some.ensures.bytes i.3,
      count-step _ _ _ _ _ d _ e v i.4,
    )
