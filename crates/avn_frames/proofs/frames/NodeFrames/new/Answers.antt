use Rattle.avn_frames.proofs.Framing.{only_root}
use Rattle.avn_frames.proofs.frames.NodeFrames.new.Goals as goal

pub invariant_of-result : goal.invariant_of-result
invariant_of-result c = (only_root _ _ c.new.ensures c.new-2.ensures.items).holds

pub returns : goal.returns
returns c = (only_root _ _ c.new.ensures c.new-2.ensures.items).lists
