use Rattle.std.proofs.Common.{sym}
use Rattle.avn_rules.proofs.LeafNodes.{number_node_seen}
use Rattle.avn_rules.proofs.avn.leaf_nodes.number_at.Goals as goal

pub returns-in-Some : goal.returns-in-Some
returns-in-Some c = number_node_seen _ c.text.result.now c.in-Some.number (sym c.in-Integer.ensures) c.text.ensures c.in-Some.ensures
