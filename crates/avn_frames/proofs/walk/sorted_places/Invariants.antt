use Rattle.std.proofs.Common.{◌-◌, length}
use Rattle.avn_frames.proofs.Walking.{Gathered}
use Rattle.avn_frames.proofs.walk.sorted_places.Given as goal

abbrev pub invariant-slots : goal.invariant-slots
invariant-slots l = Gathered l.nodes.nodes l.from l.slot l.entries

abbrev pub decreases-slots : goal.decreases-slots
decreases-slots l = length l.nodes.nodes - l.slot
