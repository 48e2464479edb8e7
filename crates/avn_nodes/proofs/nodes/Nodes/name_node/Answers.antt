use Rattle.std.proofs.Common.{◌≡◌, ◌<◌, length, string_bytes, arith}
use Rattle.std.proofs.lemmas.Grind.{common_steps}
use Rattle.avn_nodes.proofs.Naming.{renamed_within, named_listed}
use Rattle.avn_nodes.proofs.RangesGrow.{char_range_of_rest, char_range_at_end}
use Rattle.avn_nodes.proofs.nodes.Nodes.name_node.Goals as goal

pub invariant_of-self : goal.invariant_of-self
invariant_of-self c =
    let l : c.args.place < length c.self.inside.nodes.items = grind (arith, common_steps) in
    let m : c.len-bound.result ≡ length (string_bytes c.self.inside.text) = grind (arith, common_steps) in (
      renamed_within (string_bytes c.self.inside.text) c.self.inside.octets.items c.self.inside.arcs.items c.self.inside.nodes.items c.args.place c.index_mut-node.result.now _ _ c.index_mut-node.ensures.value l (char_range_of_rest c.self.inside.text _ _ _ c.self.invariant.1 m) c.self.invariant.0,
      char_range_at_end c.self.inside.text _ m,
      grind (arith, common_steps),
    )

pub returns : goal.returns
returns c = λ before after node e g.
    let l : c.args.place < length c.self.inside.nodes.items = grind (arith, common_steps) in
    let m : c.len-bound.result ≡ length (string_bytes c.self.inside.text) = grind (arith, common_steps) in
    named_listed (string_bytes c.self.inside.text) c.self.inside.octets.items c.self.inside.arcs.items c.self.inside.nodes.items c.args.self.now c.args.place c.len-bound.result c.self.inside.name c.self.inside.word c.index_mut-node.result.now before after node
    c.self.view_is c.index_mut-node.ensures.value l m e g
