-- The last frame holds the kids so far, each of which fits and can be written.
use Rattle.std.proofs.Common.{take}
use Rattle.asn_coding.proofs.Collecting.{Collected}
use Rattle.asn_sample_trees.specs.Tree.{tree_value}
use Rattle.asn_sample_trees.specs.TreeShape.{tree_shape}
use Rattle.asn_sample_trees.proofs.tree.+write.Given as goal

abbrev pub invariant-write_kids-loop-kid : goal.invariant-write_kids-loop-kid
invariant-write_kids-loop-kid g l = Collected g.E.Encoder.holds g.E.Encoder.notation (tree_shape g.A.TreeAdditions.fields) (tree_value g.A.TreeAdditions.fields g.A.TreeAdditions.slots) l.fn.encoder (take l.kid-index l.kid-items) l.encoder
