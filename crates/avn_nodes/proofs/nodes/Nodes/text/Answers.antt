use Rattle.std.proofs.Common.{◌≡◌, ◌<◌, length, string_bytes, arith, sym, subst, true}
use Rattle.std.proofs.lemmas.Grind.{common_steps}
use Rattle.avn_nodes.proofs.RangesGrow.{char_range_edges}
use Rattle.avn_nodes.specs.NodeKinds.{has_text}
use Rattle.avn_nodes.specs.NodeRanges.{HasRanges}
use Rattle.avn_nodes.proofs.nodes.Nodes.text.Goals as goal

pub range-requires-clause-start_boundary : goal.range-requires-clause-start_boundary
range-requires-clause-start_boundary c = λ h.
    let l : c.args.place < length c.self.inside.nodes.items = grind (arith, common_steps) in
    let w = subst (HasRanges (string_bytes c.self.inside.text) c.self.inside.octets.items c.self.inside.arcs.items) (sym c.index-node.ensures) (c.self.invariant.0 c.args.place c.index-node.result.now l) in
    let t : has_text c.index-node.result.now.kind ≡ true = grind (arith, common_steps) in
    rw c.as_str.ensures.value (char_range_edges c.self.inside.text _ _ (w.text t)).0

pub range-requires-clause-end_boundary : goal.range-requires-clause-end_boundary
range-requires-clause-end_boundary c =
    let l : c.args.place < length c.self.inside.nodes.items = grind (arith, common_steps) in
    let w = subst (HasRanges (string_bytes c.self.inside.text) c.self.inside.octets.items c.self.inside.arcs.items) (sym c.index-node.ensures) (c.self.invariant.0 c.args.place c.index-node.result.now l) in
    let t : has_text c.index-node.result.now.kind ≡ true = grind (arith, common_steps) in
    rw c.as_str.ensures.value (char_range_edges c.self.inside.text _ _ (w.text t)).1
