use Rattle.std.proofs.Common.{arith}
use Rattle.std.proofs.lemmas.Grind.{common_steps}
use Rattle.avn_nodes.proofs.RangesGrow.{char_range_of_rest}
use Rattle.avn_nodes.proofs.nodes.Nodes.name_next.Goals as goal

pub invariant_of-self : goal.invariant_of-self
invariant_of-self c = (c.self.invariant.0, char_range_of_rest c.self.inside.text _ _ _ c.self.invariant.1 (grind (arith, common_steps)), grind (arith, common_steps))
