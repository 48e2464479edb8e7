-- Frames of slots as nodes. A slot is a tree or absent.
use Rattle.std.specs.Prelude.{◌≡◌, ℕ, suc, ◌+◌, List, [], ◌∷◌, ◌++◌, Option, Some, None, Bool, true, cond, map, length, take, drop}
use Rattle.avn_grammar.specs.Tree.{Tree}
use Rattle.avn_nodes.specs.Preorder.{NamedSlot, preorder, slot_descendants}
use Rattle.avn_nodes.specs.NodeViews.{NodeView, node_views, kind_of}
use Rattle.avn_nodes.specs.declared.node_kind.NodeKind.{NodeKind}
use Rattle.avn_nodes.specs.declared.node_kind.NodeKind.TheVariants as kind
use Rattle.avn_nodes.specs.NodeLists.{NodeList, no_nodes, extended, with_leaf}
use Rattle.avn_nodes.specs.Forest.{forest}

-- The nodes of a slot, which has no name.
abbrev pub slot_nodes : Option Tree → List NamedSlot
slot_nodes slot = ([], slot) ∷ slot_descendants slot

-- The nodes of the slots of a frame.
abbrev pub frame_nodes : List (Option Tree) → List NamedSlot
frame_nodes [] = []
frame_nodes (slot ∷ slots) = slot_nodes slot ++ frame_nodes slots

-- The nodes of open frames, which are listed last frame first: those of the root's, and for each later frame a node without a value and then those of its slots.
abbrev pub frames_nodes : List (List (Option Tree)) → List NamedSlot
frames_nodes [] = []
frames_nodes (f ∷ []) = frame_nodes f
frames_nodes (f ∷ g ∷ fs) = frames_nodes (g ∷ fs) ++ (([], None) ∷ frame_nodes f)

-- Where the nodes stand that open the frames above the root's, the last one first.
abbrev pub opening_places : List (List (Option Tree)) → List ℕ
opening_places [] = []
opening_places (f ∷ []) = []
opening_places (f ∷ g ∷ fs) = length (frames_nodes (g ∷ fs)) ∷ opening_places (g ∷ fs)

-- The slots that the nodes from the place i on list.
abbrev pub slots_from : List NodeView → ℕ → List (Option Tree)
slots_from nodes i = map (λ s. s.1) (forest i (drop i nodes))

-- The nodes from the place i on are those of slots.
abbrev pub AreSlots : List NodeView → ℕ → Type 0
AreSlots nodes i = drop i nodes ≡ node_views i (frame_nodes (slots_from nodes i))

-- The frames that nodes list, where the nodes at the places open one each, the last one first.
abbrev pub frames_listed : List NodeView → List ℕ → List (List (Option Tree))
frames_listed nodes [] = slots_from nodes 0 ∷ []
frames_listed nodes (p ∷ ps) = slots_from nodes (suc p) ∷ frames_listed (take p nodes) ps

-- The nodes are those of the frames, which open at the places.
pub record AreFrames (s : NodeList) (places : List ℕ) (fs : List (List (Option Tree))) : Type 0 where
  pub nodes : s ≡ extended no_nodes (frames_nodes fs)
  pub opened : places ≡ opening_places fs

-- A node of the kind stands for a slot that is kept: all are, or those that are present.
abbrev pub is_kept : Bool → NodeKind → Bool
is_kept all kind.Absent = all
is_kept all k = true

-- The places from i on where the slots stand that are kept.
abbrev pub slot_places : Bool → ℕ → List (Option Tree) → List ℕ
slot_places all i [] = []
slot_places all i (slot ∷ slots) = cond (is_kept all (kind_of slot)) (i ∷ []) [] ++ slot_places all (i + length (slot_nodes slot)) slots

-- A slot is absent.
abbrev pub has_absent : List (Option Tree) → Bool
has_absent [] = Bool.false
has_absent (None ∷ slots) = true
has_absent (Some t ∷ slots) = has_absent slots

-- The frames, where the root's is not the last one: if it is, it is now above an empty one.
abbrev pub above_root : {A : Type 0} → List (List A) → List (List A)
above_root [] = []
above_root (f ∷ []) = f ∷ [] ∷ []
above_root (f ∷ g ∷ fs) = f ∷ g ∷ fs

-- The slots of the last frame.
abbrev pub last_frame : {A : Type 0} → List (List A) → List A
last_frame [] = []
last_frame (f ∷ fs) = f

-- The nodes are those of the slot alone, which is present.
abbrev pub IsListOf : NodeList → Option Tree → Type 0
IsListOf s None = ⊥
IsListOf s (Some t) = s ≡ extended no_nodes (preorder [] t)

-- Where the slots of the last frame begin.
abbrev pub slots_begin : List ℕ → ℕ
slots_begin [] = 0
slots_begin (p ∷ ps) = p + 1

-- A node of the kind is the slot of its text, and no node is within it.
abbrev pub IsSlotOf : NodeKind → (List ℕ → Option Tree) → Type 0
IsSlotOf k slot = (s : NodeList) → with_leaf k s ≡ extended s ((s.name, slot s.word) ∷ slot_descendants (slot s.word))
