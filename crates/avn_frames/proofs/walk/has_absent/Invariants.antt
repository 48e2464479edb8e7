use Rattle.std.proofs.Common.{◌≡◌, ◌-◌, length}
use Rattle.avn_frames.specs.Listing.{AreSlots, has_absent, slots_from}
use Rattle.avn_frames.proofs.walk.has_absent.Given as goal

abbrev pub invariant-slots : goal.invariant-slots
invariant-slots l = AreSlots l.nodes.nodes l.slot × (has_absent (slots_from l.nodes.nodes l.slot) ≡ has_absent (slots_from l.nodes.nodes l.from))

abbrev pub decreases-slots : goal.decreases-slots
decreases-slots l = length l.nodes.nodes - l.slot
