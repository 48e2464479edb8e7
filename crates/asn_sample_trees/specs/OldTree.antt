-- SEQUENCE { kids SEQUENCE OF OldTree, ... }
use Rattle.asn_traits.specs.Shape.{Shape, Fields}
use Rattle.asn_sample_trees.specs.TreeShape.{tree_shape}

-- The shape of OldTree, which has no extension addition yet.
abbrev pub old_tree_shape : Shape
old_tree_shape = tree_shape Fields.no_fields
