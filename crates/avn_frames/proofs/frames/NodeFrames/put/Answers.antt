use Rattle.avn_frames.proofs.Framing.{leaf_put, only_root}
use Rattle.avn_frames.proofs.frames.NodeFrames.put.Goals as goal

pub invariant_of-self : goal.invariant_of-self
invariant_of-self c = (leaf_put c.put_leaf.result c.self.inside.nodes c.put_leaf.new.nodes _ c.args.self.now c.args.kind c.args.text.now c.requires.slot.0 c.self.invariant c.self.view_is c.requires.slot.1 c.in-Ok.ensures).holds

pub invariant_of-self-in-Err : goal.invariant_of-self-in-Err
invariant_of-self-in-Err c = (only_root _ _ c.start_over.ensures.nodes c.start_over.ensures.places).holds

pub returns-in-Ok : goal.returns-in-Ok
returns-in-Ok c = λ slot f. (leaf_put c.put_leaf.result c.self.inside.nodes c.put_leaf.new.nodes _ c.args.self.now c.args.kind c.args.text.now slot c.self.invariant c.self.view_is f c.in-Ok.ensures).lists
