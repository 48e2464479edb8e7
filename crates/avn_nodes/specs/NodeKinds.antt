-- What kinds of nodes hold.
use Rattle.std.specs.Prelude.{◌≡◌, Bool, true, false}
use Rattle.avn_nodes.specs.declared.node_kind.NodeKind.{NodeKind}
use Rattle.avn_nodes.specs.declared.node_kind.NodeKind.TheVariants as kind

-- The node holds a text.
abbrev pub has_text : NodeKind → Bool
has_text kind.Integer = true
has_text kind.Real = true
has_text kind.Enumerated = true
has_text kind.CharString = true
has_text k = false

-- The node holds octets.
abbrev pub has_octets : NodeKind → Bool
has_octets kind.OctetString = true
has_octets kind.BitString = true
has_octets k = false

-- The node holds arcs.
abbrev pub has_arcs : NodeKind → Bool
has_arcs kind.Oid = true
has_arcs k = false

-- The node holds nothing but the nodes within it.
pub record HasNoContent (k : NodeKind) : Type 0 where
  pub text : has_text k ≡ false
  pub octets : has_octets k ≡ false
  pub arcs : has_arcs k ≡ false
