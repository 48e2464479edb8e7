use Rattle.std.proofs.Common.{◌∷◌, [], ap, sym, ◌∙◌, ◌++◌, map, arith}
use Rattle.std.proofs.lemmas.Iterator.Adapters.{YieldsList-from_vec}
use Rattle.std.proofs.lemmas.Iterator.Consumers.{YieldsList-end}
use Rattle.std.proofs.lemmas.List.{map-append, map-id}
use Rattle.asn_modules_types.specs.Known.{part_view}
use Rattle.asn_modules_types.specs.Types.{relaxed}
use Rattle.asn_modules_types.proofs.parts.relaxed_parts.Goals as goal

pub loop-part-preserved : goal.loop-part-preserved
loop-part-preserved c =
    let done = map part_view c.loop-part.yielded in
    ap (map part_view) c.in_ok-push.ensures.items
    ∙ map-append part_view c.loop-part.added.items (c.relaxed.result ∷ [])
    ∙ ap (λ l. l ++ part_view c.relaxed.result ∷ []) c.loop-part.invariant
    ∙ ap (λ p. map relaxed done ++ p ∷ []) c.relaxed.ensures
    ∙ sym (ap (map relaxed) (map-append part_view c.loop-part.yielded (c.in-Some.part ∷ [])) ∙ map-append relaxed done (part_view c.in-Some.part ∷ []))

pub returns : goal.returns
returns c =
    let t = YieldsList-end (YieldsList-from_vec c.args.parts.items c.into_iter-part-iterator.ensures.into_iter_gives.0 (omega (arith, c.into_iter-part-iterator.ensures.into_iter_gives.1, c.args.parts.ok))) c.loop-part.yielded c.loop-part.part-iterator c.loop-part.yielded_by c.next.result c.next.new.self c.in-None.is c.next.ensures.steps in
    c.loop-part.invariant ∙ ap (λ l. map relaxed (map part_view l)) (sym (map-id c.loop-part.yielded) ∙ t.0)
