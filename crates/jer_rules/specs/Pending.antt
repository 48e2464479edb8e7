-- What the decoder has still to read.
use Rattle.std.specs.Prelude.{◌≡◌, ◌++◌, ℕ, List, map, false}
use Rattle.serde_json.specs.Data.{Members}
use Rattle.serde_json.specs.Find.{get_member}
use Rattle.serde_json.specs.View.{view}
use Rattle.serde_json.specs.declared.value.Value.{Value}
use Rattle.asn_slots.specs.Trees.{trees_of}
use Rattle.asn_traits.specs.Shape.{is_item}
use Rattle.asn_traits.specs.Tree.{Tree, Slot, member_slot}
use Rattle.jer_rules.specs.declared.jer.de.Decoder.{Decoder}

-- The tree of a JSON value.
abbrev pub tree_of : Value → Tree
tree_of v = Tree.json (view v)

-- The slots that are still to be read.
abbrev pub pending_of : Decoder → List Slot
pending_of d = trees_of tree_of d.pending

-- The slots of these names are put before the pending ones, and members of other names stay.
pub record TakesFields (names : List (List ℕ)) (all left : Members) (before after : List Slot) : Type 0 where
  pub slots : after ≡ map (member_slot all) names ++ before
  pub others : (name : List ℕ) → is_item names name ≡ false → get_member name left ≡ get_member name all
