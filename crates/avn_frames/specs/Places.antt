-- Where slots stand.
use Rattle.std.specs.Prelude.{◌≡◌, ℕ, List, [], Option, Some, None, All, MatchOption}
use Rattle.asn_model.specs.Sorting.{sort, by_text}
use Rattle.asn_slots.specs.Slots.{last_present}
use Rattle.avn_grammar.specs.Print.{print}
use Rattle.avn_grammar.specs.Tree.{Tree}
use Rattle.avn_nodes.specs.NodeViews.{NodeView}
use Rattle.avn_nodes.specs.Preorder.{preorder}
use Rattle.avn_nodes.specs.Subtrees.{HasSlot, Lists, subtrees_at}
use Rattle.avn_frames.specs.Listing.{frame_nodes, slots_from}

-- The slots stand at the places.
pub record StandAt (nodes : List NodeView) (places : List ℕ) (slots : List (Option Tree)) : Type 0 where
  pub here : All (HasSlot nodes) places
  pub are : subtrees_at nodes places ≡ frame_nodes slots

-- The trees in byte order of their texts, repeats kept.
abbrev pub in_text_order : List Tree → List Tree
in_text_order = sort (by_text (print 0))

-- The last slot from the place i on that is present stands there, or none is present.
abbrev pub IsLastPlace : List NodeView → ℕ → Option ℕ → Type 0
IsLastPlace nodes i found = MatchOption found (last_present (slots_from nodes i) ≡ None) (λ p. (t : Tree) × (last_present (slots_from nodes i) ≡ Some t) × Lists nodes p (preorder [] t))
