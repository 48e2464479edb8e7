-- What the decoder has still to decode.
use Rattle.std.specs.Prelude.{◌≡◌, ◌≢◌, ◌<◌, ℕ, List, ◌∷◌, Option, Some, None, refl}
use Rattle.std.specs.Coded.{Coded, code_by, coded×, coded_ℕ, coded_list, coded_option}
use Rattle.avn_grammar.specs.Tree.{Tree as AvnTree, null}
use Rattle.avn_nodes.specs.NodeViews.{kind_of}
use Rattle.avn_nodes.specs.Preorder.{tree_at, node_count}
use Rattle.avn_nodes.specs.TreeCode.{tree_code}
use Rattle.avn_value.specs.View.{tree_of as avn_tree_of}
use Rattle.avn_nodes.specs.declared.node_kind.NodeKind.TheVariants as kind
use Rattle.avn_value.specs.declared.value.AvnValue.{AvnValue}
use Rattle.asn_slots.specs.Trees.{trees_of}
use Rattle.asn_traits.specs.Tree.{Tree, Slot}

-- The tree of an AVN value.
abbrev pub tree_of : AvnValue → Tree
tree_of v = Tree.avn (avn_tree_of v)

-- What stands at a node that is no absent field; an absent one counts as NULL.
abbrev pub avn_or_null : Option AvnTree → AvnTree
avn_or_null (Some t) = t
avn_or_null None = null

-- The value at a node of a tree that is no absent field.
abbrev pub value_at : AvnTree → ℕ → Tree
value_at root i = Tree.avn (avn_or_null (tree_at root i))

-- The node is one of the tree's, and no absent field.
abbrev pub IsPresent : AvnTree → ℕ → Type 0
IsPresent root i = (i < node_count root) × (kind_of (tree_at root i) ≢ kind.Absent)

-- The slot is absent, or a node of the tree that is no absent field.
abbrev pub IsSlot : AvnTree → Option ℕ → Type 0
IsSlot root None = Unit {0}
IsSlot root (Some i) = IsPresent root i

-- What contracts see of a decoder: the tree of its table, and the nodes of the values that are still to be decoded, the first one first.
pub record DecoderView : Type 0 where
  pub root : AvnTree
  pub nodes : List (Option ℕ)

-- A decoder as nested pairs, by which proofs tell one from another.
abbrev pub decoder_code : Coded DecoderView
decoder_code = code_by (AvnTree × List (Option ℕ)) (coded× tree_code (coded_list (coded_option coded_ℕ))) (λ d. (d.root, d.nodes)) (λ p. record { root = p.0; nodes = p.1 }) (λ _. refl)

-- The slots that are still to be read.
abbrev pub pending_of : DecoderView → List Slot
pending_of d = trees_of (value_at d.root) d.nodes

-- The first slot was the node, which is taken.
abbrev pub TakesNode : DecoderView → DecoderView → ℕ → Type 0
TakesNode before after i = (after.root ≡ before.root) × IsPresent after.root i × (pending_of before ≡ Some (value_at after.root i) ∷ pending_of after)
