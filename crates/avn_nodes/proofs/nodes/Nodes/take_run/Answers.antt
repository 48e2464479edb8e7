use Rattle.avn_nodes.proofs.RangesGrow.{node_list-more}
use Rattle.avn_nodes.proofs.nodes.Nodes.take_run.Goals as goal

pub returns-in-Ok-clause-found : goal.returns-in-Ok-clause-found
returns-in-Ok-clause-found c = node_list-more _ _ _ _ _ _ _ _ c.self.invariant.0 c.self.invariant.1 c.in-Ok.ensures.found _ c.self.view_is
