use Rattle.std.proofs.Common.{◌≡◌, length, string_bytes, arith}
use Rattle.std.proofs.lemmas.Grind.{common_steps}
use Rattle.avn_nodes.proofs.RangesGrow.{char_range_of_rest, char_range_at_end, leaf_within}
use Rattle.avn_nodes.proofs.nodes.Nodes.leaf.Goals as goal

pub invariant_of-self-2 : goal.invariant_of-self-2
invariant_of-self-2 c =
    let e : c.len-bound.result ≡ length (string_bytes c.self.inside.text) = grind (arith, common_steps) in
    (leaf_within _ _ _ _ _ _ c.in_ok-push_node.ensures.pushed c.self.invariant.0 c.self.invariant.1 (char_range_of_rest c.self.inside.text _ _ _ c.self.invariant.1 e) c.requires.octets c.requires.arcs, char_range_at_end c.self.inside.text _ e, grind (arith, common_steps))
