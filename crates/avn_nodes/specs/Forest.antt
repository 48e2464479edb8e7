-- The trees that nodes list.
use Rattle.std.specs.Prelude.{ℕ, zero, suc, ◌-◌, List, [], ◌∷◌, Option, Some, None, length}
use Rattle.avn_grammar.specs.Tree.{Tree, Trees, Fields, boolean, null, integer, real, octet_string, bit_string, oid, enumerated, char_string, sequence, sequence_of, choice, no_trees, tree, no_fields, field, absent}
use Rattle.avn_nodes.specs.declared.node_kind.NodeKind.{NodeKind}
use Rattle.avn_nodes.specs.declared.node_kind.NodeKind.TheVariants as kind
use Rattle.avn_nodes.specs.Preorder.{NamedSlot, slot_descendants}
use Rattle.avn_nodes.specs.NodeViews.{NodeView}

-- The first trees, which have n nodes together.
abbrev pub first_trees : ℕ → List NamedSlot → List NamedSlot
first_trees n [] = []
first_trees zero (s ∷ ss) = []
first_trees (suc n) (s ∷ ss) = s ∷ first_trees (n - length (slot_descendants s.1)) ss

-- The trees past the first ones, which have n nodes together.
abbrev pub later_trees : ℕ → List NamedSlot → List NamedSlot
later_trees n [] = []
later_trees zero (s ∷ ss) = s ∷ ss
later_trees (suc n) (s ∷ ss) = later_trees (n - length (slot_descendants s.1)) ss

-- The fields that trees are.
abbrev pub fields_of_trees : List NamedSlot → Fields
fields_of_trees [] = no_fields
fields_of_trees ((id, Some t) ∷ ss) = field id t (fields_of_trees ss)
fields_of_trees ((id, None) ∷ ss) = absent id (fields_of_trees ss)

-- The list that trees are.
abbrev pub list_of_trees : List NamedSlot → Trees
list_of_trees [] = no_trees
list_of_trees ((id, Some t) ∷ ss) = tree t (list_of_trees ss)
list_of_trees ((id, None) ∷ ss) = list_of_trees ss

-- The choice of the first tree.
abbrev pub choice_of_trees : List NamedSlot → Option Tree
choice_of_trees ((id, Some t) ∷ ss) = Some (choice id t)
choice_of_trees ss = None

-- What a node of the kind and the contents is, of the trees within it.
abbrev pub tree_over : NodeKind → List ℕ → List ℕ → ℕ → List ℕ → List NamedSlot → Option Tree
tree_over (kind.Boolean b) text octets bits arcs ss = Some (boolean b)
tree_over kind.Null text octets bits arcs ss = Some null
tree_over kind.Integer text octets bits arcs ss = Some (integer text)
tree_over kind.Real text octets bits arcs ss = Some (real text)
tree_over kind.OctetString text octets bits arcs ss = Some (octet_string octets)
tree_over kind.BitString text octets bits arcs ss = Some (bit_string octets bits)
tree_over kind.Oid text octets bits arcs ss = Some (oid arcs)
tree_over kind.Enumerated text octets bits arcs ss = Some (enumerated text)
tree_over kind.CharString text octets bits arcs ss = Some (char_string text)
tree_over kind.Sequence text octets bits arcs ss = Some (sequence (fields_of_trees ss))
tree_over kind.SequenceOf text octets bits arcs ss = Some (sequence_of (list_of_trees ss))
tree_over kind.Choice text octets bits arcs ss = choice_of_trees ss
tree_over kind.Absent text octets bits arcs ss = None

-- The node over the trees that follow it, n nodes of which are within it.
abbrev pub planted : NodeView → ℕ → List NamedSlot → List NamedSlot
planted c n ss = (c.name, tree_over c.kind c.text c.octets c.bits c.arcs (first_trees n ss)) ∷ later_trees n ss

-- The trees that the nodes from the place i on list.
unfoldable pub forest : ℕ → List NodeView → List NamedSlot
forest i [] = []
forest i (c ∷ cs) = planted c (c.end - suc i) (forest (suc i) cs)

-- The first tree.
abbrev pub first_tree : List NamedSlot → Tree
first_tree ((id, Some t) ∷ ss) = t
first_tree ss = null

-- The tree that nodes list.
abbrev pub tree_of_nodes : List NodeView → Tree
tree_of_nodes cs = first_tree (forest 0 cs)
