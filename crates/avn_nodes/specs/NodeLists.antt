-- What contracts see of nodes that are being built.
use Rattle.std.specs.Prelude.{ℕ, suc, List, [], ◌∷◌, ◌++◌, cond, length}
use Rattle.avn_nodes.specs.declared.node_kind.NodeKind.{NodeKind}
use Rattle.avn_nodes.specs.declared.node_kind.NodeKind.TheVariants as kind
use Rattle.avn_nodes.specs.Preorder.{NamedSlot}
use Rattle.avn_nodes.specs.NodeViews.{NodeView, node_views}
use Rattle.avn_nodes.specs.NodeKinds.{has_text}

-- The nodes, the name of the next one, and what was read after the name.
pub record NodeList : Type 0 where
  pub nodes : List NodeView
  pub name : List ℕ
  pub word : List ℕ

-- No nodes.
abbrev pub no_nodes : NodeList
no_nodes = record { nodes = []; name = []; word = [] }

-- A node more, of the kind, with the name and the word as its text.
abbrev pub next_node : NodeKind → NodeList → NodeView
next_node k s = record { kind = k; name = s.name; text = cond (has_text k) s.word []; octets = []; bits = 0; arcs = []; end = suc (length s.nodes) }

-- A node of the kind, whose text is the word.
abbrev pub with_leaf : NodeKind → NodeList → NodeList
with_leaf k s = record { nodes = s.nodes ++ (next_node k s ∷ []); name = []; word = [] }

-- A node of the kind, with octets and the length of a bit string.
abbrev pub with_octets : NodeKind → List ℕ → ℕ → NodeList → NodeList
with_octets k octets bits s = record { nodes = s.nodes ++ (record { kind = k; name = s.name; text = []; octets = octets; bits = bits; arcs = []; end = suc (length s.nodes) } ∷ []); name = []; word = [] }

-- A node of an object identifier.
abbrev pub with_arcs : List ℕ → NodeList → NodeList
with_arcs arcs s = record { nodes = s.nodes ++ (record { kind = kind.Oid; name = s.name; text = []; octets = []; bits = 0; arcs = arcs; end = suc (length s.nodes) } ∷ []); name = []; word = [] }

-- A node of the kind, over those that follow it: the word is the name of the first one.
abbrev pub with_open : NodeKind → NodeList → NodeList
with_open k s = record { nodes = s.nodes ++ (next_node k s ∷ []); name = s.word; word = [] }

-- A node of the kind over all nodes before the end.
abbrev pub closed_node : NodeKind → ℕ → NodeView → NodeView
closed_node k end node = record node { kind = k; text = []; octets = []; arcs = []; end = end }

-- The nodes, and then those for what stands there.
abbrev pub extended : NodeList → List NamedSlot → NodeList
extended s ss = record { nodes = s.nodes ++ node_views (length s.nodes) ss; name = []; word = [] }
