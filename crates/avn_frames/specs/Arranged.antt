-- What nodes are after the slots from a place on were changed.
use Rattle.std.specs.Prelude.{◌≡◌, ℕ, List, [], ◌++◌, Option, Some, None, Bool, true, false, take}
use Rattle.avn_grammar.specs.Tree.{Tree}
use Rattle.avn_nodes.specs.NodeLists.{NodeList}
use Rattle.avn_nodes.specs.NodeViews.{node_views}
use Rattle.avn_nodes.specs.Preorder.{NamedSlot, preorder}
use Rattle.avn_frames.specs.Listing.{frame_nodes}

-- The nodes before the place, and then those for what stands there now.
abbrev pub AreNodesAfter : NodeList → NodeList → ℕ → List NamedSlot → Type 0
AreNodesAfter old new from ss = new ≡ record old { nodes = take from old.nodes ++ node_views from ss }

-- The nodes before the place, and then those of the slots.
abbrev pub AreSlotsAfter : NodeList → NodeList → ℕ → List (Option Tree) → Type 0
AreSlotsAfter old new from slots = AreNodesAfter old new from (frame_nodes slots)

-- The first slot is present and alone after the place, or no slot is.
abbrev pub KeepsFirst : NodeList → NodeList → ℕ → Option Tree → Bool → Type 0
KeepsFirst old new from first true = (t : Tree) × (first ≡ Some t) × AreNodesAfter old new from (preorder [] t)
KeepsFirst old new from first false = (first ≡ None) × AreNodesAfter old new from []
