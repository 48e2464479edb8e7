use Rattle.std.proofs.Common.{Some, ap, ◌∙◌}
use Rattle.avn_grammar.specs.Tree.{bit_string}
use Rattle.avn_nodes.specs.NodeLists.{extended}
use Rattle.avn_nodes.specs.Preorder.{preorder}
use Rattle.avn_nodes.proofs.Extending.{extended-bits}
use Rattle.avn_frames.proofs.Framing.{clear_name, only_root, slot_put}
use Rattle.avn_frames.proofs.frames.NodeFrames.add_bits.Goals as goal

pub invariant_of-self : goal.invariant_of-self
invariant_of-self c =
    (slot_put c.self.inside.nodes c.octets_leaf.new.self _ c.args.self.now (Some (bit_string c.args.octets.now c.args.bit_length)) c.self.invariant c.self.view_is
    (c.in-Ok.ensures ∙ extended-bits c.self.inside.nodes c.args.octets.now c.args.bit_length ∙ ap (λ x. extended c.self.inside.nodes (preorder x (bit_string c.args.octets.now c.args.bit_length))) (clear_name _ _ _ c.self.invariant))).holds

pub invariant_of-self-in-Err : goal.invariant_of-self-in-Err
invariant_of-self-in-Err c = (only_root _ _ c.start_over.ensures.nodes c.start_over.ensures.places).holds

pub returns-in-Ok : goal.returns-in-Ok
returns-in-Ok c =
    (slot_put c.self.inside.nodes c.octets_leaf.new.self _ c.args.self.now (Some (bit_string c.args.octets.now c.args.bit_length)) c.self.invariant c.self.view_is
    (c.in-Ok.ensures ∙ extended-bits c.self.inside.nodes c.args.octets.now c.args.bit_length ∙ ap (λ x. extended c.self.inside.nodes (preorder x (bit_string c.args.octets.now c.args.bit_length))) (clear_name _ _ _ c.self.invariant))).lists
