use Rattle.std.proofs.Common.{ap, sym, ◌∙◌, map, arith}
use Rattle.std.proofs.lemmas.Iterator.Adapters.{YieldsList-from_vec}
use Rattle.std.proofs.lemmas.Iterator.Consumers.{YieldsList-end}
use Rattle.std.proofs.lemmas.List.{length_push, map-id}
use Rattle.asn_modules_types.specs.Known.{part_view}
use Rattle.asn_modules_types.specs.Types.{alternatives_from}
use Rattle.asn_modules_types.proofs.Tagged.{alternatives_more}
use Rattle.asn_modules_types.proofs.parts.alternatives_of.Goals as goal

pub loop-part-preserved : goal.loop-part-preserved
loop-part-preserved c = (
  alternatives_more c.args.tag.now c.loop-part.tag c.loop-part.alternatives.items _ _ c.loop-part.yielded c.in-Some.part c.loop-part.invariant.0 c.loop-part.invariant.1 c.alternative_of.ensures c.in_ok-push.ensures.items,
  omega (arith, c.in_ok-tag.ensures, c.loop-part.invariant.1, length_push c.loop-part.yielded c.in-Some.part),
)

pub returns-clause-alternatives : goal.returns-clause-alternatives
returns-clause-alternatives c =
    let t = YieldsList-end (YieldsList-from_vec c.args.parts.items c.into_iter-part-iterator.ensures.into_iter_gives.0 (omega (arith, c.into_iter-part-iterator.ensures.into_iter_gives.1, c.args.parts.ok))) c.loop-part.yielded c.loop-part.part-iterator c.loop-part.yielded_by c.next.result c.next.new.self c.in-None.is c.next.ensures.steps in
    c.loop-part.invariant.0 ∙ ap (λ l. alternatives_from c.args.tag.now (map part_view l)) (sym (map-id c.loop-part.yielded) ∙ t.0)

pub returns-clause-tags : goal.returns-clause-tags
returns-clause-tags c =
    let t = YieldsList-end (YieldsList-from_vec c.args.parts.items c.into_iter-part-iterator.ensures.into_iter_gives.0 (omega (arith, c.into_iter-part-iterator.ensures.into_iter_gives.1, c.args.parts.ok))) c.loop-part.yielded c.loop-part.part-iterator c.loop-part.yielded_by c.next.result c.next.new.self c.in-None.is c.next.ensures.steps in
    omega (arith, c.loop-part.invariant.1, t.1)
