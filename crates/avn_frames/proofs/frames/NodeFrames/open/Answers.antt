use Rattle.avn_frames.proofs.Framing.{frame_opened, only_root}
use Rattle.avn_frames.proofs.frames.NodeFrames.open.Goals as goal

pub invariant_of-self-in-Ok : goal.invariant_of-self-in-Ok
invariant_of-self-in-Ok c =
    (frame_opened c.self.inside.nodes c.leaf.new.self c.self.inside.places.items c.push.new.self.items c.args.self.now c.len.result c.self.invariant c.self.view_is c.in-Ok.ensures c.in_ok-push.ensures.items c.len.ensures).holds

pub invariant_of-self-in-Err : goal.invariant_of-self-in-Err
invariant_of-self-in-Err c = (only_root _ _ c.start_over.ensures.nodes c.start_over.ensures.places).holds

pub returns-in-Ok : goal.returns-in-Ok
returns-in-Ok c =
    (frame_opened c.self.inside.nodes c.leaf.new.self c.self.inside.places.items c.push.new.self.items c.args.self.now c.len.result c.self.invariant c.self.view_is c.in-Ok.ensures c.in_ok-push.ensures.items c.len.ensures).lists
