use Rattle.std.proofs.Common.{take}
use Rattle.asn_dynamic.specs.encoding.Sent.{SentFrame, element_slots, member_slots}
use Rattle.asn_dynamic.proofs.encoding.writing.+write.Given as goal

-- The elements so far are written.
abbrev pub invariant-write_elements-loop-element : goal.invariant-write_elements-loop-element
invariant-write_elements-loop-element g l = SentFrame g.E.Encoder.holds g.E.Encoder.notation (element_slots (take l.element-index l.elements)) l.fn.encoder l.encoder

-- The members so far are written.
abbrev pub invariant-write_slots-loop-value : goal.invariant-write_slots-loop-value
invariant-write_slots-loop-value g l = SentFrame g.E.Encoder.holds g.E.Encoder.notation (member_slots (take l.value-index l.members)) l.fn.encoder l.encoder
