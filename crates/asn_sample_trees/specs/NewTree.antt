-- SEQUENCE { kids SEQUENCE OF NewTree, ..., label UTF8String OPTIONAL }
use Rattle.std.specs.Prelude.{[], ◌∷◌, option_map, string_bytes, codes}
use Rattle.asn_traits.specs.Shape.{Shape, Fields, Presence}
use Rattle.asn_traits.specs.Value.{Value}
use Rattle.asn_coding.specs.Writing.{Frame}
use Rattle.asn_coding.specs.Terms.{context, utf8_string}
use Rattle.asn_sample_trees.specs.TreeShape.{tree_shape}
use Rattle.asn_sample_trees.specs.declared.new_tree.NewTreeAdditions.{NewTreeAdditions}

-- The extension addition of NewTree.
abbrev pub new_tree_added : Fields
new_tree_added = Fields.field (codes "label") (context 1) Presence.optional utf8_string Fields.no_fields

-- The shape of NewTree.
abbrev pub new_tree_shape : Shape
new_tree_shape = tree_shape new_tree_added

-- The value of the label, or none.
abbrev pub label_slots : NewTreeAdditions → Frame
label_slots x = option_map (λ s. Value.text (string_bytes s)) x.label ∷ []
