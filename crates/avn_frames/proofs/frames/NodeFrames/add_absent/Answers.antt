use Rattle.std.proofs.Common.{None}
use Rattle.avn_nodes.proofs.Putting.{extended-absent}
use Rattle.avn_frames.proofs.frames.NodeFrames.add_absent.Goals as goal

pub put-requires-clause-slot : goal.put-requires-clause-slot
put-requires-clause-slot c = (λ _. None, extended-absent)

pub returns : goal.returns
returns c = c.put.ensures (λ _. None) (extended-absent)
