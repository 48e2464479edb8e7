use Rattle.std.proofs.Common.{◌≡◌, ◌++◌, map, take}
use Rattle.avn_nodes.specs.NodeRanges.{moved_node}
use Rattle.avn_nodes.proofs.nodes.push_moved.Given as goal

abbrev pub invariant-loop-node : goal.invariant-loop-node
invariant-loop-node l = l.moved.items ≡ l.initial.moved.items ++ map (moved_node l.from l.to) (take l.node-index l.subtree)
