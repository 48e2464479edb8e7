use Rattle.std.proofs.Common.{◌∙◌, ap, map, string_bytes, arith}
use Rattle.std.proofs.lemmas.List.{take_all}
use Rattle.asn_expansion.proofs.Items.{copied_more}
use Rattle.asn_expansion.proofs.parts.copies.Goals as goal

pub loop-text-preserved : goal.loop-text-preserved
loop-text-preserved c = copied_more c.args.texts.now c.loop-text.text-index c.loop-text.copies.items _ c.text-item.result _ c.loop-text-test.true c.text-item.is c.loop-text.invariant c.in_ok-clone.ensures.cases c.in_ok-push.ensures.items

pub returns : goal.returns
returns c = c.loop-text.invariant ∙ ap (λ l. map string_bytes l) (take_all c.loop-text.text-index c.args.texts.now (omega (arith, c.loop-text-test.false)))
