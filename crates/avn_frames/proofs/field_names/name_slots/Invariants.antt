use Rattle.std.proofs.Common.{◌-◌, length}
use Rattle.asn_names.specs.Rows.{name_at}
use Rattle.avn_frames.proofs.NamedSlots.{NamedSoFar}
use Rattle.avn_frames.proofs.field_names.name_slots.Given as goal

abbrev pub invariant-slots : goal.invariant-slots
invariant-slots g l = NamedSoFar (name_at (g.N.NameList.rows l.names)) l.initial.nodes l.nodes l.from l.slot l.place

abbrev pub decreases-slots : goal.decreases-slots
decreases-slots g l = length l.nodes.nodes - l.slot
