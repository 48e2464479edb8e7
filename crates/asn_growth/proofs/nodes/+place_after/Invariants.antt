use Rattle.std.proofs.Common.{◌≡◌, ◌+◌, ◌≤◌, ◌^◌, drop, min}
use Rattle.asn_model.specs.ShapeView.{shape_view}
use Rattle.asn_growth.specs.Parts.{node_count, parts}
use Rattle.asn_growth.proofs.Walking.{list_nodes}
use Rattle.asn_growth.proofs.nodes.+place_after.Given as goal

-- The nodes of the parts from here on are those that are left.
abbrev pub invariant-loop-index : goal.invariant-loop-index
invariant-loop-index l = record {
  within : l.next ≤ 2 ^ 32;
  left : min (l.next + list_nodes (drop l.index (parts (shape_view l.shape)))) (2 ^ 32) ≡ min (l.fn.place + node_count (shape_view l.shape)) (2 ^ 32);
}

-- A part has fewer nodes.
abbrev pub decreases-place_after : goal.decreases-place_after
decreases-place_after l = node_count (shape_view l.shape.now)
