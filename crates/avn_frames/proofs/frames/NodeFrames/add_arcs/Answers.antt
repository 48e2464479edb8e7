use Rattle.std.proofs.Common.{Some, ap, ◌∙◌}
use Rattle.avn_grammar.specs.Tree.{oid}
use Rattle.avn_nodes.specs.NodeLists.{extended}
use Rattle.avn_nodes.specs.Preorder.{preorder}
use Rattle.avn_nodes.proofs.Extending.{extended-arcs}
use Rattle.avn_frames.proofs.Framing.{clear_name, only_root, slot_put}
use Rattle.avn_frames.proofs.frames.NodeFrames.add_arcs.Goals as goal

pub invariant_of-self : goal.invariant_of-self
invariant_of-self c =
    (slot_put c.self.inside.nodes c.arcs_leaf.new.self _ c.args.self.now (Some (oid c.args.arcs.now)) c.self.invariant c.self.view_is
    (c.in-Ok.ensures ∙ extended-arcs c.self.inside.nodes c.args.arcs.now ∙ ap (λ x. extended c.self.inside.nodes (preorder x (oid c.args.arcs.now))) (clear_name _ _ _ c.self.invariant))).holds

pub invariant_of-self-in-Err : goal.invariant_of-self-in-Err
invariant_of-self-in-Err c = (only_root _ _ c.start_over.ensures.nodes c.start_over.ensures.places).holds

pub returns-in-Ok : goal.returns-in-Ok
returns-in-Ok c =
    (slot_put c.self.inside.nodes c.arcs_leaf.new.self _ c.args.self.now (Some (oid c.args.arcs.now)) c.self.invariant c.self.view_is
    (c.in-Ok.ensures ∙ extended-arcs c.self.inside.nodes c.args.arcs.now ∙ ap (λ x. extended c.self.inside.nodes (preorder x (oid c.args.arcs.now))) (clear_name _ _ _ c.self.invariant))).lists
