-- Trees that nodes list from a place on.
use Rattle.std.specs.Prelude.{◌≡◌, ℕ, List, [], ◌∷◌, ◌++◌, None, drop}
use Rattle.avn_grammar.specs.Tree.{Tree}
use Rattle.avn_nodes.specs.Preorder.{NamedSlot, preorder, slot_descendants}
use Rattle.avn_nodes.specs.NodeViews.{NodeView, node_views}
use Rattle.avn_nodes.specs.Forest.{forest, first_tree}

-- The nodes from the place i on begin with those for what stands there, whatever follows.
pub record Lists (nodes : List NodeView) (i : ℕ) (ss : List NamedSlot) : Type 0 where
  pub after : List NodeView
  pub are : drop i nodes ≡ node_views i ss ++ after

-- The first tree that the nodes from the place i on list.
abbrev pub tree_from : List NodeView → ℕ → Tree
tree_from nodes i = first_tree (forest i (drop i nodes))

-- The nodes from the place i on begin with those of a tree, whatever its name.
abbrev pub HasTree : List NodeView → ℕ → Type 0
HasTree nodes i = (name : List ℕ) × Lists nodes i (preorder name (tree_from nodes i))

-- The first of what stands there, or else nothing without a name.
abbrev pub first_slot : List NamedSlot → NamedSlot
first_slot [] = ([], None)
first_slot (s ∷ ss) = s

-- What stands at the place i, as the nodes from there on list it.
abbrev pub slot_at : List NodeView → ℕ → NamedSlot
slot_at nodes i = first_slot (forest i (drop i nodes))

-- The nodes from the place i on begin with those of what stands there.
abbrev pub HasSlot : List NodeView → ℕ → Type 0
HasSlot nodes i = Lists nodes i (slot_at nodes i ∷ slot_descendants (slot_at nodes i).1)

-- What stands at the places, each with the nodes within it.
abbrev pub subtrees_at : List NodeView → List ℕ → List NamedSlot
subtrees_at nodes [] = []
subtrees_at nodes (i ∷ is) = (slot_at nodes i ∷ slot_descendants (slot_at nodes i).1) ++ subtrees_at nodes is
