-- The last frame holds the elements so far, each of which fits and can be written.
use Rattle.std.proofs.Common.{take}
use Rattle.std.specs.Map.Iter.{deref}
use Rattle.asn_coding.proofs.Collecting.{Collected}
use Rattle.asn_encode.proofs.encoder.Encoder.encode_set_of.Given as goal

abbrev pub invariant-loop-element : goal.invariant-loop-element
invariant-loop-element g l = Collected g.Self.Encoder.holds g.Self.Encoder.notation g.T.AsnType.shape_of (λ r. g.T.AsnType.value_of (deref r)) l.fn.self (take l.element-index l.element-items) l.self
