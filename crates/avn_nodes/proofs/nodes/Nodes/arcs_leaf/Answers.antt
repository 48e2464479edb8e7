use Rattle.std.proofs.Common.{◌≡◌, length, string_bytes, arith, refl}
use Rattle.std.proofs.lemmas.Grind.{common_steps}
use Rattle.avn_nodes.proofs.RangesGrow.{arcs_within, arcs_listed, char_range_at_end}
use Rattle.avn_nodes.specs.declared.node_kind.NodeKind.TheVariants as kind
use Rattle.avn_nodes.proofs.nodes.Nodes.arcs_leaf.Goals as goal

pub invariant_of-self-2 : goal.invariant_of-self-2
invariant_of-self-2 c =
    let m : c.len-edge.result ≡ length (string_bytes c.self.inside.text) = grind (arith, common_steps) in
    let i : c.len-start.result ≡ length c.self.inside.arcs.items = grind (arith, common_steps) in
    let j : c.len-bound.result ≡ length c.extend_from_slice.new.self.items = grind (arith, common_steps) in (
      arcs_within (string_bytes c.self.inside.text) c.self.inside.octets.items c.self.inside.arcs.items c.args.arcs.now _ c.self.inside.nodes.items _ kind.Oid c.self.inside.name c.self.inside.word c.len-start.result c.len-bound.result 0 _
          c.in_ok-push_node.ensures.pushed c.self.invariant.0 c.self.invariant.1 c.in_ok-extend_from_slice.ensures.items i j refl refl,
      char_range_at_end c.self.inside.text _ m,
      grind (arith, common_steps),
    )

pub returns : goal.returns
returns c =
    let m : c.len-edge.result ≡ length (string_bytes c.self.inside.text) = grind (arith, common_steps) in
    let i : c.len-start.result ≡ length c.self.inside.arcs.items = grind (arith, common_steps) in
    let j : c.len-bound.result ≡ length c.extend_from_slice.new.self.items = grind (arith, common_steps) in
    arcs_listed (string_bytes c.self.inside.text) c.self.inside.octets.items c.self.inside.arcs.items c.args.arcs.now _ c.self.inside.nodes.items _ kind.Oid c.self.inside.name c.self.inside.word c.len-start.result c.len-bound.result 0 _
    c.in_ok-push_node.ensures.pushed c.self.invariant.0 c.self.invariant.1 c.in_ok-extend_from_slice.ensures.items i j refl refl refl refl _ m _ c.self.view_is
