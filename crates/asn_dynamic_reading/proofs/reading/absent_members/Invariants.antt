use Rattle.std.proofs.Common.{[], take}
use Rattle.asn_model.specs.Components.{component_names}
use Rattle.asn_parts.specs.Listed.{fields_in}
use Rattle.asn_dynamic_reading.specs.Fields.{AreAbsent}
use Rattle.asn_dynamic_reading.proofs.reading.absent_members.Given as goal

-- The members of the fields so far.
abbrev pub invariant-loop-place : goal.invariant-loop-place
invariant-loop-place g l = AreAbsent (take l.place (component_names (fields_in (g.P.Part.shape [] l.part)))) l.members.items
