use Rattle.std.proofs.Common.{◌≡◌, ◌+◌, drop, get_or, []}
use Rattle.asn_model.specs.ShapeView.{shape_view}
use Rattle.asn_growth.specs.Parts.{node_count, parts}
use Rattle.asn_growth.specs.Paths.{paths, steps}
use Rattle.asn_growth.proofs.Walking.{list_nodes, list_paths}
use Rattle.asn_growth.proofs.ways.+add_steps.Given as goal

-- The node is the one of this number among those of the parts from here on, and no step is found yet.
abbrev pub invariant-loop-index : goal.invariant-loop-index
invariant-loop-index l = record {
  beyond : l.left + node_count (shape_view l.shape) ≡ l.fn.place + list_nodes (drop l.index (parts (shape_view l.shape)));
  way : get_or (list_paths (drop l.index (steps (shape_view l.shape))) (drop l.index (parts (shape_view l.shape)))) l.left [] ≡ get_or (paths (shape_view l.shape)) l.fn.place [];
  none : l.path.items ≡ l.fn.path.items;
}

-- A part has fewer nodes.
abbrev pub decreases-add_steps : goal.decreases-add_steps
decreases-add_steps l = node_count (shape_view l.shape.now)
