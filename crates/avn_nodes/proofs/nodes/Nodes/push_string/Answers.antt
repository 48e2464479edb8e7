use Rattle.avn_nodes.proofs.RangesGrow.{node_list-more}
use Rattle.avn_nodes.proofs.nodes.Nodes.push_string.Goals as goal

pub returns : goal.returns
returns c = node_list-more _ _ _ _ _ _ _ _ c.self.invariant.0 c.self.invariant.1 c.in_ok-append_text.ensures.bytes _ c.self.view_is
