use Rattle.std.proofs.Common.{◌≡◌, ◌++◌, map, take}
use Rattle.std.specs.Map.Iter.{deref}
use Rattle.asn_multisets.specs.Entries.{expanded}
use Rattle.std.specs.Prelude.{replicate}
use Rattle.asn_multisets.proofs.multiset.Multiset.to_vec.Given as goal

abbrev pub invariant-loop : goal.invariant-loop
invariant-loop g l = map (deref {X = g.row.D.Denot}) l.elements.items ≡ map (deref {X = g.row.D.Denot}) l.initial.elements.items ++ replicate l.counter l.element

abbrev pub invariant-loop-index : goal.invariant-loop-index
invariant-loop-index g l = map (deref {X = g.row.D.Denot}) l.elements.items ≡ expanded (take l.index (g.M.Counts.entries l.self-inside.counts))
