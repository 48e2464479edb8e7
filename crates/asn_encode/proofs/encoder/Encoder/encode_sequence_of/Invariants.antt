-- The last frame holds the items so far, each of which fits and can be written.
use Rattle.std.proofs.Common.{take}
use Rattle.asn_coding.proofs.Collecting.{Collected}
use Rattle.asn_encode.proofs.encoder.Encoder.encode_sequence_of.Given as goal

abbrev pub invariant-loop-item : goal.invariant-loop-item
invariant-loop-item g l = Collected g.Self.Encoder.holds g.Self.Encoder.notation g.T.AsnType.shape_of g.T.AsnType.value_of l.fn.self (take l.item-index l.value) l.self
