use Rattle.avn_nodes.proofs.RangesGrow.{node_list-more}
use Rattle.avn_nodes.proofs.nodes.Nodes.push_char.Goals as goal

pub returns-clause-pushed : goal.returns-clause-pushed
returns-clause-pushed c = node_list-more _ _ _ _ _ _ _ _ c.self.invariant.0 c.self.invariant.1 c.in_ok-push.ensures.bytes _ c.self.view_is
