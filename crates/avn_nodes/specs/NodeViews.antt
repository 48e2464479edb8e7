-- What a table's node says of its place.
use Rattle.std.specs.Prelude.{ℕ, suc, ◌+◌, List, [], ◌∷◌, Option, Some, None, length, get_or}
use Rattle.avn_grammar.specs.Tree.{Tree, boolean, null, integer, real, octet_string, bit_string, oid, enumerated, char_string, sequence, sequence_of, choice}
use Rattle.avn_nodes.specs.declared.node_kind.NodeKind.{NodeKind}
use Rattle.avn_nodes.specs.declared.node_kind.NodeKind.TheVariants as kind
use Rattle.avn_nodes.specs.Preorder.{NamedSlot, slot_descendants}

-- The kind of a node.
abbrev pub kind_of : Option Tree → NodeKind
kind_of None = kind.Absent
kind_of (Some (boolean b)) = kind.Boolean b
kind_of (Some null) = kind.Null
kind_of (Some (integer n)) = kind.Integer
kind_of (Some (real n)) = kind.Real
kind_of (Some (octet_string octets)) = kind.OctetString
kind_of (Some (bit_string octets n)) = kind.BitString
kind_of (Some (oid arcs)) = kind.Oid
kind_of (Some (enumerated id)) = kind.Enumerated
kind_of (Some (char_string text)) = kind.CharString
kind_of (Some (sequence fs)) = kind.Sequence
kind_of (Some (sequence_of ts)) = kind.SequenceOf
kind_of (Some (choice id t)) = kind.Choice

-- The text of a number, an item or a character string.
abbrev pub text_of : Option Tree → List ℕ
text_of (Some (integer n)) = n
text_of (Some (real n)) = n
text_of (Some (enumerated id)) = id
text_of (Some (char_string text)) = text
text_of o = []

-- The octets of an octet string or a bit string.
abbrev pub octets_of : Option Tree → List ℕ
octets_of (Some (octet_string octets)) = octets
octets_of (Some (bit_string octets n)) = octets
octets_of o = []

-- The length of a bit string.
abbrev pub bit_length_of : Option Tree → ℕ
bit_length_of (Some (bit_string octets n)) = n
bit_length_of o = 0

-- The arcs of an object identifier.
abbrev pub arcs_of : Option Tree → List ℕ
arcs_of (Some (oid arcs)) = arcs
arcs_of o = []

-- A node, with its ranges as what they hold: end is the first node past those within it.
pub record NodeView : Type 0 where
  pub kind : NodeKind
  pub name : List ℕ
  pub text : List ℕ
  pub octets : List ℕ
  pub bits : ℕ
  pub arcs : List ℕ
  pub end : ℕ

-- The node at the place i for what stands there.
abbrev pub node_view : ℕ → NamedSlot → NodeView
node_view i s = record {
  kind = kind_of s.1;
  name = s.0;
  text = text_of s.1;
  octets = octets_of s.1;
  bits = bit_length_of s.1;
  arcs = arcs_of s.1;
  end = suc (i + length (slot_descendants s.1));
}

-- The nodes from the place i on for what stands there.
abbrev pub node_views : ℕ → List NamedSlot → List NodeView
node_views i [] = []
node_views i (s ∷ ss) = node_view i s ∷ node_views (suc i) ss

-- A node of nothing.
abbrev pub no_node : NodeView
no_node = record { kind = kind.Absent; name = []; text = []; octets = []; bits = 0; arcs = []; end = 0 }

-- The node at the place.
abbrev pub view_at : List NodeView → ℕ → NodeView
view_at cs i = get_or cs i no_node
