use Rattle.std.proofs.Common.{◌≡◌, map, take, true}
use Rattle.asn_linked_types.specs.Linked.{are_readable_among}
use Rattle.asn_model.specs.ShapeView.{shape_view}
use Rattle.asn_linked_types.proofs.readable.are_readable_among.Given as goal

-- The types so far can be read.
abbrev pub invariant-loop-shape : goal.invariant-loop-shape
invariant-loop-shape l = are_readable_among l.count (map shape_view (take l.shape-index l.types)) ≡ true
