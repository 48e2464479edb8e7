use Rattle.asn_traits.specs.Tree.{head_nodes}
use Rattle.asn_coding.proofs.Reading.{Reading}
use Rattle.asn_sample_trees.specs.Tree.{tree_value}
use Rattle.asn_sample_trees.specs.TreeShape.{tree_shape}
use Rattle.asn_sample_trees.proofs.tree.+read.Given as goal

-- What is opened has more nodes than its parts.
abbrev pub decreases-read_tree : goal.decreases-read_tree
decreases-read_tree g l = head_nodes (g.D.Decoder.pending l.decoder.now)

abbrev pub decreases-read_kids : goal.decreases-read_kids
decreases-read_kids g l = head_nodes (g.D.Decoder.pending l.decoder.now)

-- The kids so far are read.
abbrev pub invariant-read_kids-loop-i : goal.invariant-read_kids-loop-i
invariant-read_kids-loop-i g l =
    Reading g.D.Decoder.notation (tree_shape g.A.TreeAdditions.fields) (tree_value g.A.TreeAdditions.fields g.A.TreeAdditions.slots) (g.D.Decoder.pending l.fn.decoder) l.kids.items l.i l.count (g.D.Decoder.pending l.decoder)
