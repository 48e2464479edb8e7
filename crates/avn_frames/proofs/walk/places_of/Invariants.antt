use Rattle.std.proofs.Common.{◌≡◌, ◌++◌, ◌-◌, length}
use Rattle.avn_frames.specs.Listing.{AreSlots, slot_places, slots_from}
use Rattle.avn_frames.proofs.walk.places_of.Given as goal

abbrev pub invariant-slots : goal.invariant-slots
invariant-slots l = AreSlots l.nodes.nodes l.slot × (l.places.items ++ slot_places l.all l.slot (slots_from l.nodes.nodes l.slot) ≡ slot_places l.all l.from (slots_from l.nodes.nodes l.from))

abbrev pub decreases-slots : goal.decreases-slots
decreases-slots l = length l.nodes.nodes - l.slot
