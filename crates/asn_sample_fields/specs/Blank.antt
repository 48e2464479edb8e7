-- SEQUENCE {}
use Rattle.std.specs.Prelude.{[]}
use Rattle.asn_coding.specs.Writing.{Frame}
use Rattle.asn_sample_fields.specs.declared.blank.Blank.{Blank}

-- The values of the fields of a Blank, of which there are none.
abbrev pub blank_slots : Blank → Frame
blank_slots x = []
