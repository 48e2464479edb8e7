use Rattle.std.proofs.Common.{◌≡◌, ◌+◌, ◌++◌, drop}
use Rattle.asn_model.specs.ShapeView.{shape_view}
use Rattle.asn_growth.specs.Differences.{differences_of}
use Rattle.asn_growth.specs.Parts.{node_count, parts}
use Rattle.asn_growth.proofs.Walking.{list_differences, list_nodes}
use Rattle.asn_growth.proofs.collect.+add_differences.Given as goal

-- The differences of the parts from here on are those that are not found yet.
abbrev pub invariant-loop-index : goal.invariant-loop-index
invariant-loop-index l = record {
  left : l.next + list_nodes (drop l.index (parts (shape_view l.old))) ≡ l.fn.place + node_count (shape_view l.old);
  found : l.found.items ++ list_differences (drop l.index (parts (shape_view l.old))) (drop l.index (parts (shape_view l.new))) l.next
      ≡ l.fn.found.items ++ differences_of (shape_view l.old) (shape_view l.new) l.fn.place;
}

-- A part has fewer nodes.
abbrev pub decreases-add_differences : goal.decreases-add_differences
decreases-add_differences l = node_count (shape_view l.old.now)
