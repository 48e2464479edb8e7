use Rattle.std.proofs.Common.{rules, ◌≡◌, ◌∷◌, [], ◌++◌, map, take, sym, ap, ◌∙◌, append_assoc}
use Rattle.std.proofs.lemmas.List.{map-append, replicate_more}
use Rattle.std.specs.Map.Iter.{deref}
use Rattle.std.specs.Prelude.{replicate}
use Rattle.asn_multisets.specs.Entries.{expanded}
use Rattle.asn_multisets.proofs.Expanding.{expanded-step}
use Rattle.asn_multisets.proofs.multiset.Multiset.to_vec.Goals as goal

pub loop-index-preserved : goal.loop-index-preserved
loop-index-preserved g c =
    let es = g.M.Counts.entries c.self.inside.counts in
    let element = c.entry-count.result.0.now in
    let n : c.loop.counter ≡ c.entry-count.result.1 = search rules in
    c.loop.invariant
    ∙ ap (λ l. l ++ replicate c.loop.counter element) c.loop-index.invariant
    ∙ ap (λ k. expanded (take c.loop-index.index es) ++ replicate k element) n
    ∙ sym (expanded-step es c.loop-index.index element c.entry-count.result.1 c.entry-count.ensures)

pub loop-preserved : goal.loop-preserved
loop-preserved g c =
    let element = c.entry-count.result.0 in
    ap (map (deref {X = g.row.D.Denot})) c.in_ok-push.ensures.items
    ∙ map-append (deref {X = g.row.D.Denot}) c.loop.elements.items (element ∷ [])
    ∙ ap (λ l. l ++ element.now ∷ []) c.loop.invariant
    ∙ append_assoc (map (deref {X = g.row.D.Denot}) c.loop-index.elements.items) (replicate c.loop.counter element.now) (element.now ∷ [])
    ∙ ap (λ l. map (deref {X = g.row.D.Denot}) c.loop-index.elements.items ++ l) (replicate_more c.loop.counter element.now)
