use Rattle.std.proofs.Common.{◌+◌, ap, sym, ◌∙◌, drop, map}
use Rattle.asn_traits.specs.Arcs.{arc_numbers}
use Rattle.jer_rules.proofs.ArcsTaken.{arc_more, arc_none, arcs_after}
use Rattle.jer_rules.proofs.jer.identifiers.arcs_of.Goals as goal

pub returns-in_default : goal.returns-in_default
returns-in_default c = sym (c.loop-part.invariant ∙ arc_none c.loop-part.arcs.items c.deref-part-items.result.now c.loop-part.part-index _ c.loop-part-test.true c.in_default.ensures)

pub loop-part-preserved : goal.loop-part-preserved
loop-part-preserved c =
    let parts = c.deref-part-items.result.now in
    let i = c.loop-part.part-index in
    c.loop-part.invariant ∙ arc_more c.loop-part.arcs.items parts i c.in-Some.arc _ c.loop-part-test.true c.in-Some.ensures
    ∙ ap (λ front. arcs_after front (arc_numbers (drop (i + 1) (map (λ x. x.now) parts)))) (sym c.in_ok-push.ensures.items)
