-- The ranges of a node, and what they hold.
use Rattle.std.specs.Prelude.{◌≡◌, ℕ, ◌+◌, ◌-◌, ◌≤◌, true, cond, List, [], length, take, slice_range, map, drop}
use Rattle.std.specs.Str.{IsUtf8}
use Rattle.avn_nodes.specs.declared.nodes.Node.{Node}
use Rattle.avn_nodes.specs.NodeViews.{NodeView}
use Rattle.avn_nodes.specs.NodeLists.{NodeList}
use Rattle.avn_nodes.specs.NodeKinds.{has_text, has_octets, has_arcs}

-- The range lies within the text, on edges of characters.
pub record IsCharRange (text : List ℕ) (a b : ℕ) : Type 0 where
  pub order : a ≤ b
  pub within : b ≤ length text
  pub from : IsUtf8 (take a text)
  pub to : IsUtf8 (take b text)

-- The range lies within the buffer.
pub record IsRange (buffer : List ℕ) (a b : ℕ) : Type 0 where
  pub order : a ≤ b
  pub within : b ≤ length buffer

-- The ranges of a node lie within the buffers.
pub record HasRanges (letters bytes numbers : List ℕ) (n : Node) : Type 0 where
  pub name : IsCharRange letters n.name_start n.name_end
  pub text : has_text n.kind ≡ true → IsCharRange letters n.start n.bound
  pub octets : has_octets n.kind ≡ true → IsRange bytes n.start n.bound
  pub arcs : has_arcs n.kind ≡ true → IsRange numbers n.start n.bound

-- What a node holds.
abbrev pub view_of : List ℕ → List ℕ → List ℕ → Node → NodeView
view_of letters bytes numbers n = record {
  kind = n.kind;
  name = slice_range letters n.name_start n.name_end;
  text = cond (has_text n.kind) (slice_range letters n.start n.bound) [];
  octets = cond (has_octets n.kind) (slice_range bytes n.start n.bound) [];
  bits = n.bit_length;
  arcs = cond (has_arcs n.kind) (slice_range numbers n.start n.bound) [];
  end = n.end;
}

-- What contracts see of nodes over buffers, with the name and the word of the next one.
abbrev pub node_list : List ℕ → List ℕ → List ℕ → List Node → ℕ → ℕ → NodeList
node_list letters bytes numbers ns name word = record { nodes = map (view_of letters bytes numbers) ns; name = slice_range letters name word; word = drop word letters }

-- A node of a subtree that moves from a place to another one.
abbrev pub moved_node : ℕ → ℕ → Node → Node
moved_node from to n = record n { end = n.end + to - from }
