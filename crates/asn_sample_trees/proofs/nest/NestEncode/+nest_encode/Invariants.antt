-- The last frame holds the nests so far, each of which fits and can be written.
use Rattle.std.proofs.Common.{take}
use Rattle.asn_coding.proofs.Collecting.{Collected}
use Rattle.asn_sample_trees.specs.Nest.{nest_shape, nest_value}
use Rattle.asn_sample_trees.proofs.nest.NestEncode.+nest_encode.Given as goal

abbrev pub invariant-loop-item : goal.invariant-loop-item
invariant-loop-item g l = Collected g.E.Encoder.holds g.E.Encoder.notation nest_shape nest_value l.fn.encoder (take l.item-index l.item-items) l.encoder
