use Rattle.std.proofs.Common.{◌-◌, length}
use Rattle.avn_frames.proofs.Walking.{LastSoFar}
use Rattle.avn_frames.proofs.walk.last_place.Given as goal

abbrev pub invariant-slots : goal.invariant-slots
invariant-slots l = LastSoFar l.nodes.nodes l.from l.slot l.last

abbrev pub decreases-slots : goal.decreases-slots
decreases-slots l = length l.nodes.nodes - l.slot
