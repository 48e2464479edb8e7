-- The nodes of a tree, in preorder.
use Rattle.std.specs.Prelude.{ℕ, List, [], ◌∷◌, ◌++◌, Option, Some, None, length, get_or}
use Rattle.avn_grammar.specs.Grammar.{Item, named, bare}
use Rattle.avn_grammar.specs.Tree.{Tree, Trees, Fields, boolean, null, integer, real, octet_string, bit_string, oid, enumerated, char_string, sequence, sequence_of, choice, no_trees, tree, no_fields, field, absent}

-- What stands at a node: the name of a field's or a payload's value, and the value, or none where a field is absent.
abbrev pub NamedSlot : Type 0
NamedSlot = List ℕ × Option Tree

unfoldable mutual
  -- The nodes within a value.
  pub descendants : Tree → List NamedSlot
  descendants (boolean b) = []
  descendants null = []
  descendants (integer n) = []
  descendants (real n) = []
  descendants (octet_string octets) = []
  descendants (bit_string octets n) = []
  descendants (oid arcs) = []
  descendants (enumerated id) = []
  descendants (char_string text) = []
  descendants (sequence fs) = fields_preorder fs
  descendants (sequence_of ts) = list_preorder ts
  descendants (choice id t) = (id, Some t) ∷ descendants t

  -- The nodes of the fields of a sequence.
  pub fields_preorder : Fields → List NamedSlot
  fields_preorder no_fields = []
  fields_preorder (field id t fs) = ((id, Some t) ∷ descendants t) ++ fields_preorder fs
  fields_preorder (absent id fs) = (id, None) ∷ fields_preorder fs

  -- The nodes of the values of a list.
  pub list_preorder : Trees → List NamedSlot
  list_preorder no_trees = []
  list_preorder (tree t ts) = (([], Some t) ∷ descendants t) ++ list_preorder ts

-- The nodes of a value of the name.
abbrev pub preorder : List ℕ → Tree → List NamedSlot
preorder name t = (name, Some t) ∷ descendants t

-- The nodes within what stands at a node.
abbrev pub slot_descendants : Option Tree → List NamedSlot
slot_descendants None = []
slot_descendants (Some t) = descendants t

-- What stands at the i-th node of a tree.
abbrev pub node_at : Tree → ℕ → NamedSlot
node_at t i = get_or (preorder [] t) i ([], None)

-- The value at the i-th node of a tree, or none where a field is absent.
abbrev pub tree_at : Tree → ℕ → Option Tree
tree_at t i = (node_at t i).1

-- How many nodes a tree has.
abbrev pub node_count : Tree → ℕ
node_count t = length (preorder [] t)

-- The choice whose payload stands at a node.
abbrev pub choice_with : NamedSlot → Option Tree
choice_with (id, Some t) = Some (choice id t)
choice_with (id, None) = None

-- The nodes of an item.
abbrev pub item_preorder : Item → List NamedSlot
item_preorder (named id t) = preorder id t
item_preorder (bare t) = preorder [] t

-- The nodes of items.
abbrev pub items_preorder : List Item → List NamedSlot
items_preorder [] = []
items_preorder (x ∷ xs) = item_preorder x ++ items_preorder xs
