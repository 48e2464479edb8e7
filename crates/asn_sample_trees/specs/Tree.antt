-- What a tree stands for.
use Rattle.std.specs.Prelude.{◌∷◌, Some}
use Rattle.asn_traits.specs.Shape.{Fields, FieldAdditions, all_fields}
use Rattle.asn_traits.specs.Value.{Value, Values, values}
use Rattle.asn_coding.specs.Writing.{Frame, members_value}
use Rattle.asn_sample_trees.specs.TreeShape.{tree_fields, tree_shape}
use Rattle.asn_sample_trees.specs.declared.tree.Tree.{Tree}
use Rattle.asn_sample_trees.specs.declared.tree.Tree.TheOpen.{Tree-F}
use Rattle.asn_sample_trees.specs.declared.tree.Tree.TheFolds.{fold-Tree}

-- The value of a tree with these extension additions, by the values of its kids and the slots of the additions.
abbrev pub tree_of : Fields → Values → Frame → Value
tree_of added kids slots = members_value (all_fields (tree_fields (tree_shape added)) (FieldAdditions.extended_fields added)) (Some (Value.list kids) ∷ slots)

-- The value of one tree, with the values of its kids in their places.
abbrev pub tree_step : {A : Type 0} → Fields → (A → Frame) → Tree-F A Value → Value
tree_step added slots t = tree_of added (values (λ v. v) t.kids.items) (slots t.added)

-- The value that a tree stands for.
abbrev pub tree_value : {A : Type 0} → Fields → (A → Frame) → Tree A → Value
tree_value {A} added slots = fold-Tree A Value (tree_step added slots)
