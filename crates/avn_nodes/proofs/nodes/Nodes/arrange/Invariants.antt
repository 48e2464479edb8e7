use Rattle.std.proofs.Common.{take, string_bytes}
use Rattle.avn_nodes.proofs.Moving.{AreMoved}
use Rattle.avn_nodes.proofs.nodes.Nodes.arrange.Given as goal

abbrev pub invariant-loop-node : goal.invariant-loop-node
invariant-loop-node l = AreMoved (string_bytes l.self-inside.text) l.self-inside.octets.items l.self-inside.arcs.items l.self-inside.nodes.items l.moved.items l.place (take l.node-index l.order)
