use Rattle.std.proofs.Common.{◌≡◌, ◌+◌, drop}
use Rattle.asn_model.specs.ShapeView.{shape_view}
use Rattle.asn_growth.specs.Differences.{differences_of}
use Rattle.asn_growth.specs.Parts.{node_count, parts}
use Rattle.asn_growth.proofs.Walking.{list_differences, list_nodes}
use Rattle.asn_growth.proofs.check.+first_difference.Given as goal

-- The differences of the parts from here on are all that there are.
abbrev pub invariant-loop-index : goal.invariant-loop-index
invariant-loop-index l = record {
  left : l.next + list_nodes (drop l.index (parts (shape_view l.old))) ≡ l.fn.place + node_count (shape_view l.old);
  differ : list_differences (drop l.index (parts (shape_view l.old))) (drop l.index (parts (shape_view l.new))) l.next ≡ differences_of (shape_view l.old) (shape_view l.new) l.fn.place;
}

-- A part has fewer nodes.
abbrev pub decreases-first_difference : goal.decreases-first_difference
decreases-first_difference l = node_count (shape_view l.old.now)
