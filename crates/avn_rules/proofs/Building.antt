-- Frames of values, and those of their trees.
use Rattle.std.proofs.Common.{◌≡◌, ◌≢◌, ℕ, zero, suc, List, [], ◌∷◌, map, drop, Option, Some, None, ap, refl, sym, ◌∙◌}
use Rattle.std.specs.Prelude.{option_map}
use Rattle.avn_grammar.specs.Tree.{Tree as AvnTree, sequence, sequence_of, tree, field, absent}
use Rattle.avn_nodes.specs.TreeLists.{trees_in}
use Rattle.avn_frames.specs.Closing.{named_from, as_list as list_of_trees, as_set as set_of_trees, as_members as members_of_trees, as_choice as choice_of_tree}
use Rattle.asn_slots.specs.Frames.{push, close}
use Rattle.asn_slots.specs.Slots.{present_of}
use Rattle.asn_slots.specs.Trees.{trees_of}
use Rattle.asn_slots.proofs.Trees.{push-trees}
use Rattle.asn_traits.specs.Canonical.{avn_tree, avn_trees, avn_fields, sorted_trees}
use Rattle.asn_traits.specs.Notation.{Notation}
use Rattle.asn_traits.specs.Tree.{Tree}
use Rattle.asn_traits.specs.Value.{Value, Values}
use Rattle.asn_names.specs.Rows.{NameRow, name_at, row_names}
use Rattle.asn_coding.proofs.NameRows.{head-drop}
use Rattle.asn_coding.specs.Writing.{Frame, IsWrittenAsSet, present_values, named, tail_names, as_list, as_members, as_choice}

-- Frames of trees, the last one first.
abbrev TreeFrames : Type 0
TreeFrames = List (List (Option AvnTree))

-- The trees of the values of frames.
abbrev frames_of : List Frame → TreeFrames
frames_of = map (trees_of avn_tree)

-- One AVN value stands in a tree.
pub avn_same : {t u : AvnTree} → Tree.avn t ≡ Tree.avn u → t ≡ u
avn_same e = cc e

-- A slot more.
pub slot_added : (s : Option Value) (t : Option AvnTree) (old new : TreeFrames) → option_map avn_tree s ≡ t → new ≡ push t old → (fs : List Frame) → frames_of fs ≡ old → frames_of (push s fs) ≡ new
slot_added s t old new e put fs h = push-trees avn_tree s fs ∙ ap (λ o. push o (frames_of fs)) e ∙ ap (push t) h ∙ sym put

-- The last frame becomes a slot of the one before it.
pub frame_closed : (F : Frame → Option Value) (G : List (Option AvnTree) → Option AvnTree) → ((f : Frame) → option_map avn_tree (F f) ≡ G (trees_of avn_tree f)) → (old new : TreeFrames) → new ≡ close G old
    → (fs : List Frame) → frames_of fs ≡ old → frames_of (close F fs) ≡ new
frame_closed F G same old new put [] h = ap (close G) h ∙ sym put
frame_closed F G same old new put (f ∷ fs) h = push-trees avn_tree (F f) fs ∙ ap (λ o. push o (frames_of fs)) (same f) ∙ ap (close G) h ∙ sym put

present-trees : (f : Frame) → avn_trees (present_values f) ≡ trees_in (present_of (trees_of avn_tree f))
present-trees [] = refl
present-trees (None ∷ ss) = present-trees ss
present-trees (Some v ∷ ss) = ap (tree (avn_tree v)) (present-trees ss)

-- The list of a frame.
pub list-trees : (f : Frame) → option_map avn_tree (as_list f) ≡ list_of_trees (trees_of avn_tree f)
list-trees f = ap (λ ts. Some (sequence_of ts)) (present-trees f)

tail-drop : (k : ℕ) (names : List (List ℕ)) → drop (suc k) names ≡ tail_names (drop k names)
tail-drop zero [] = refl
tail-drop zero (n ∷ names) = refl
tail-drop (suc k) [] = refl
tail-drop (suc k) (n ∷ names) = tail-drop k names

next-names : (names : List (List ℕ)) (i : ℕ) (f : Frame) → avn_fields (named f (tail_names (drop i names))) ≡ avn_fields (named f (drop (suc i) names))
next-names names i f = ap (λ ns. avn_fields (named f ns)) (sym (tail-drop i names))

named-trees : (rows : List NameRow) (i : ℕ) (f : Frame) → avn_fields (named f (drop i (row_names rows))) ≡ named_from (name_at rows) i (trees_of avn_tree f)
named-trees rows i [] = refl
named-trees rows i (None ∷ ss) =
    ap (λ n. absent n (avn_fields (named ss (tail_names (drop i (row_names rows)))))) (head-drop (row_names rows) i) ∙ ap (absent (name_at rows i)) (next-names (row_names rows) i ss ∙ named-trees rows (suc i) ss)
named-trees rows i (Some v ∷ ss) =
    ap (λ n. field n (avn_tree v) (avn_fields (named ss (tail_names (drop i (row_names rows)))))) (head-drop (row_names rows) i) ∙ ap (field (name_at rows i) (avn_tree v)) (next-names (row_names rows) i ss ∙ named-trees rows (suc i) ss)

-- The sequence of a frame.
pub members-trees : (rows : List NameRow) (f : Frame) → option_map avn_tree (as_members (row_names rows) f) ≡ members_of_trees (name_at rows) (trees_of avn_tree f)
members-trees rows f = ap (λ fs. Some (sequence fs)) (named-trees rows 0 f)

-- The choice of a frame.
pub choice-trees : (id : List ℕ) (f : Frame) → option_map avn_tree (as_choice id f) ≡ choice_of_tree id (trees_of avn_tree f)
choice-trees id [] = refl
choice-trees id (None ∷ ss) = refl
choice-trees id (Some v ∷ ss) = refl

not_other : Notation.avn ≢ Notation.other
not_other e = cc e

written-set : {vs : Values} {w : Value} → IsWrittenAsSet Notation.avn vs w → avn_tree w ≡ avn_tree (Value.bag vs)
written-set (IsWrittenAsSet.written_alike same) = avn_same same
written-set (IsWrittenAsSet.set_itself e other) = absurd (not_other other)

-- The last frame becomes any value that is written as its set.
pub set_closed : (old new : TreeFrames) → new ≡ close set_of_trees old → (f : Frame) (fs : List Frame) (w : Value) → frames_of (f ∷ fs) ≡ old → IsWrittenAsSet Notation.avn (present_values f) w → frames_of (push (Some w) fs) ≡ new
set_closed old new put f fs w h written =
    let same : option_map avn_tree (Some w) ≡ set_of_trees (trees_of avn_tree f) = ap Some (written-set written) ∙ ap (λ ts. Some (sequence_of (sorted_trees ts))) (present-trees f) in
    push-trees avn_tree (Some w) fs ∙ ap (λ o. push o (frames_of fs)) same ∙ ap (close set_of_trees) h ∙ sym put
