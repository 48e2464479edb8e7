use Rattle.asn_traits.specs.Tree.{head_nodes}
use Rattle.asn_coding.proofs.Reading.{Reading}
use Rattle.asn_sample_trees.specs.Nest.{nest_shape, nest_value}
use Rattle.asn_sample_trees.proofs.nest.NestDecode.+nest_decode.Given as goal

abbrev pub decreases-decode_with_tag_and_constraints : goal.decreases-decode_with_tag_and_constraints
decreases-decode_with_tag_and_constraints g l = head_nodes (g.D.Decoder.pending l.decoder.now)

abbrev pub invariant-loop-i : goal.invariant-loop-i
invariant-loop-i g l = Reading g.D.Decoder.notation nest_shape nest_value (g.D.Decoder.pending l.fn.decoder) l.items.items l.i l.count (g.D.Decoder.pending l.decoder)
