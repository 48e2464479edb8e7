-- Forms of nodes that proofs rewrite.
use Rattle.std.specs.Prelude.{ℕ, List, []}
use Rattle.avn_nodes.specs.NodeViews.{NodeView}
use Rattle.avn_nodes.specs.NodeLists.{NodeList}
use Rattle.avn_nodes.specs.declared.node_kind.NodeKind.{NodeKind}

-- The nodes with another word.
abbrev pub worded : NodeList → List ℕ → NodeList
worded s w = record s { word = w }

-- Nodes with a name and a word.
abbrev pub list_as : List NodeView → List ℕ → List ℕ → NodeList
list_as ns name word = record { nodes = ns; name = name; word = word }

-- Nodes with neither.
abbrev pub only_nodes : List NodeView → NodeList
only_nodes ns = record { nodes = ns; name = []; word = [] }

-- A node.
abbrev pub view_as : NodeKind → List ℕ → List ℕ → List ℕ → ℕ → List ℕ → ℕ → NodeView
view_as k name text octets bits arcs end = record { kind = k; name = name; text = text; octets = octets; bits = bits; arcs = arcs; end = end }
