-- Slots that are put in the place of others.
use Rattle.std.proofs.Common.{◌≡◌, ◌≢◌, ℕ, ◌+◌, ◌<◌, ◌≤◌, List, [], ◌∷◌, ◌++◌, Option, Some, None, Result, true, false, length, take, drop, map, refl, sym, ap, subst, ◌∙◌, arith, append_assoc, length-append}
use Rattle.std.specs.List.{All, AllByRecursion}
use Rattle.std.specs.Prelude.{OnOk}
use Rattle.std.proofs.lemmas.List.{append-nil, take_at, take-append-drop, drop-append-le, drop_at, length-take-le}
use Rattle.std.proofs.lemmas.List.Elements.{recursion_from_All, All-from_recursion}
use Rattle.std.proofs.lemmas.Result.{on_ok_weaker}
use Rattle.asn_slots.specs.Slots.{first_of, present_of}
use Rattle.avn_grammar.specs.Tree.{Tree}
use Rattle.avn_nodes.specs.NodeLists.{NodeList, no_nodes, extended, with_leaf}
use Rattle.avn_nodes.specs.NodeViews.{NodeView, node_views, view_at}
use Rattle.avn_nodes.specs.Preorder.{NamedSlot, preorder, slot_descendants}
use Rattle.avn_nodes.specs.Subtrees.{Lists, HasSlot, slot_at, subtrees_at, tree_from}
use Rattle.avn_nodes.specs.declared.node_kind.NodeKind.{NodeKind}
use Rattle.avn_nodes.specs.declared.node_kind.NodeKind.TheVariants as kind
use Rattle.avn_nodes.proofs.Extending.{length-node_views}
use Rattle.avn_nodes.proofs.Moving.{has_slot, slot_at-is, slot_end}
use Rattle.avn_nodes.proofs.NodeForms.{list_as}
use Rattle.avn_nodes.proofs.Putting.{extended-absent}
use Rattle.avn_nodes.proofs.Subtrees.{lists_first}
use Rattle.avn_frames.specs.Arranged.{AreNodesAfter, AreSlotsAfter, KeepsFirst}
use Rattle.avn_frames.specs.Listing.{slot_nodes, frame_nodes, slots_from, AreSlots, has_absent}
use Rattle.avn_frames.specs.Places.{StandAt}
use Rattle.avn_frames.proofs.Listed.{nameless}
use Rattle.avn_frames.proofs.Walking.{slot_here, present_here}

all_present : (os : List (Option Tree)) → has_absent os ≡ false → map Some (present_of os) ≡ os
all_present [] e = refl
all_present (None ∷ os) e = let n : ⊥ = cc in absurd n
all_present (Some t ∷ os) e = ap (λ x. Some t ∷ x) (all_present os e)

-- Where all slots are present, they stay.
pub present_stay : (s : NodeList) (from : ℕ) → AreSlots s.nodes from → has_absent (slots_from s.nodes from) ≡ false → AreSlotsAfter s s from (map Some (present_of (slots_from s.nodes from)))
present_stay s from a e =
    ap (λ x. list_as x s.name s.word)
    (sym (take-append-drop from s.nodes) ∙ ap (λ x. take from s.nodes ++ x) a ∙ ap (λ x. take from s.nodes ++ node_views from (frame_nodes x)) (sym (all_present (slots_from s.nodes from) e)))

-- The subtrees at the places are those of the slots.
pub arranged_slots : {E : Type 0} (r : Result (Unit {0}) E) (old new : NodeList) (from : ℕ) (places : List ℕ) (os : List (Option Tree)) → StandAt old.nodes places os → OnOk r (AreNodesAfter old new from (subtrees_at old.nodes places)) → OnOk r (AreSlotsAfter old new from os)
arranged_slots r old new from places os s h = on_ok_weaker r (λ e. e ∙ ap (λ x. list_as (take from old.nodes ++ node_views from x) old.name old.word) s.are) h

-- What nodes list, longer ones list.
lists_longer : (nodes more : List NodeView) (i : ℕ) (ss : List NamedSlot) → i ≤ length nodes → Lists nodes i ss → Lists (nodes ++ more) i ss
lists_longer nodes more i ss l h = record { after = h.after ++ more; are = drop-append-le i nodes more l ∙ ap (λ x. x ++ more) h.are ∙ append_assoc (node_views i ss) h.after more }

stand_longer : (nodes more : List NodeView) (places : List ℕ) → AllByRecursion (HasSlot nodes) places → AllByRecursion (HasSlot (nodes ++ more)) places × (subtrees_at (nodes ++ more) places ≡ subtrees_at nodes places)
stand_longer nodes more [] a = (tt, refl)
stand_longer nodes more (i ∷ is) a =
    let s = slot_at nodes i in
    let long = lists_longer nodes more i (s ∷ slot_descendants s.1) (omega (arith, (slot_end nodes i a.0).0)) a.0 in
    let rest = stand_longer nodes more is a.1 in
    ((has_slot (nodes ++ more) i s long, rest.0), ap (λ (x : NamedSlot). (x ∷ slot_descendants x.1) ++ subtrees_at (nodes ++ more) is) (slot_at-is (nodes ++ more) i s long) ∙ ap (λ x. (s ∷ slot_descendants s.1) ++ x) rest.1)

-- A node at the end, and then the slots before it.
module _ (old with : NodeList) (places : List ℕ) (nameless_old : old.name ≡ []) (grown : with ≡ with_leaf kind.Absent old) (stand : StandAt old.nodes places (slots_from old.nodes 0)) where
  more : with ≡ extended old (slot_nodes None)
  more = grown ∙ extended-absent old ∙ ap (λ x. extended old ((x, None) ∷ [])) nameless_old

  here : Lists with.nodes (length old.nodes) (slot_nodes None)
  here = record { after = []; are = ap (λ (x : NodeList). drop (length old.nodes) x.nodes) more ∙ drop_at old.nodes (node_views (length old.nodes) (slot_nodes None)) (length old.nodes) refl ∙ sym (append-nil (node_views (length old.nodes) (slot_nodes None))) }

  longer : AllByRecursion (HasSlot with.nodes) places × (subtrees_at with.nodes places ≡ subtrees_at old.nodes places)
  longer =
      let nodes : with.nodes ≡ old.nodes ++ node_views (length old.nodes) (slot_nodes None) = ap (λ (x : NodeList). x.nodes) more in
      subst (λ x. AllByRecursion (HasSlot x) places × (subtrees_at x places ≡ subtrees_at old.nodes places)) (sym nodes)
      (stand_longer old.nodes (node_views (length old.nodes) (slot_nodes None)) places (recursion_from_All (HasSlot old.nodes) places stand.here))

  pub first_stand : (order : List ℕ) → order ≡ length old.nodes ∷ places → All (HasSlot with.nodes) order
  first_stand order e =
      subst (All (HasSlot with.nodes)) (sym e) (All-from_recursion (HasSlot with.nodes) (length old.nodes ∷ places) (has_slot with.nodes (length old.nodes) (nameless None) here, longer.0))

  pub first_put : {E : Type 0} (r : Result (Unit {0}) E) (new : NodeList) (order : List ℕ) → order ≡ length old.nodes ∷ places → OnOk r (AreNodesAfter with new 0 (subtrees_at with.nodes order)) → OnOk r (new ≡ extended no_nodes (frame_nodes (None ∷ slots_from old.nodes 0)))
  first_put r new order e h =
      let each : subtrees_at with.nodes order ≡ frame_nodes (None ∷ slots_from old.nodes 0) =
      ap (subtrees_at with.nodes) e ∙ ap (λ (x : NamedSlot). (x ∷ slot_descendants x.1) ++ subtrees_at with.nodes places) (slot_at-is with.nodes (length old.nodes) (nameless None) here)
      ∙ ap (λ x. nameless None ∷ x) (longer.1 ∙ stand.are) in
      on_ok_weaker r (λ p. p ∙ ap (λ x. list_as (node_views 0 x) with.name with.word) each ∙ ap (λ (x : NodeList). list_as (node_views 0 (frame_nodes (None ∷ slots_from old.nodes 0))) x.name x.word) more) h

cut : (nodes after vs : List NodeView) (from end : ℕ) → from ≤ length nodes → drop from nodes ≡ vs ++ after → end ≡ from + length vs → take end nodes ≡ take from nodes ++ vs
cut nodes after vs from end l e n =
    let front : length (take from nodes ++ vs) ≡ end = omega (arith, length-append (take from nodes) vs, length-take-le from nodes l, n) in
    ap (take end) (sym (take-append-drop from nodes) ∙ ap (λ x. take from nodes ++ x) e ∙ sym (append_assoc (take from nodes) vs after)) ∙ take_at (take from nodes ++ vs) after end front

pub first_kept : (old new : NodeList) (from end : ℕ) (k : NodeKind) → from ≤ length old.nodes → AreSlots old.nodes from → from ≢ length old.nodes → k ≡ (view_at old.nodes from).kind → k ≢ kind.Absent → end ≡ (view_at old.nodes from).end → new ≡ record old { nodes = take end old.nodes }
    → KeepsFirst old new from (first_of (slots_from old.nodes from)) true
first_kept old new from end k w a n e f g p =
    let l : from < length old.nodes = omega (arith, w, n) in
    let h = slot_here old.nodes from a l in
    let t = present_here old.nodes from h (λ z. f (e ∙ z)) in
    let lists = subst (λ o. Lists old.nodes from (slot_nodes o)) t.1 h.lists in
    let long : end ≡ from + length (node_views from (preorder [] t.0)) = omega (arith, g, h.end ∙ ap (λ o. from + length (slot_nodes o)) t.1, length-node_views from (preorder [] t.0)) in
    (t.0, ap first_of (h.all ∙ ap (λ o. o ∷ h.others) t.1), p ∙ ap (λ x. list_as x old.name old.word) (cut old.nodes lists.after (node_views from (preorder [] t.0)) from end w lists.are long))

-- A subtree alone.
pub alone_first : (old new : NodeList) (node end : ℕ) → node ≡ 0 → Lists old.nodes node (preorder [] (tree_from old.nodes node)) → old.name ≡ [] → old.word ≡ [] → end ≡ (view_at old.nodes 0).end → new ≡ record old { nodes = take end old.nodes } → new ≡ extended no_nodes (preorder [] (tree_from old.nodes node))
alone_first old new node end z lists n w e p =
    let t = tree_from old.nodes node in
    let first = lists_first old.nodes node ([], Some t) (slot_descendants (Some t)) lists in
    let at : (view_at old.nodes 0).end ≡ (view_at old.nodes node).end = ap (λ i. (view_at old.nodes i).end) (sym z) in
    let long : end ≡ 0 + length (node_views node (preorder [] t)) = omega (arith, e, at, ap (λ (v : NodeView). v.end) first.1, z, length-node_views node (preorder [] t)) in
    let whole : drop 0 old.nodes ≡ node_views node (preorder [] t) ++ lists.after = ap (λ i. drop i old.nodes) (sym z) ∙ lists.are in
    p ∙ ap (λ x. list_as x old.name old.word) (cut old.nodes lists.after (node_views node (preorder [] t)) 0 end (omega arith) whole long ∙ ap (λ i. node_views i (preorder [] t)) z)
    ∙ ap (λ x. list_as (node_views 0 (preorder [] t)) x old.word) n ∙ ap (list_as (node_views 0 (preorder [] t)) []) w

pub alone_stands : (nodes : List NodeView) (node : ℕ) → Lists nodes node (preorder [] (tree_from nodes node)) → All (HasSlot nodes) (node ∷ [])
alone_stands nodes node lists = All-from_recursion (HasSlot nodes) (node ∷ []) (has_slot nodes node ([], Some (tree_from nodes node)) lists, tt)

pub alone_moved : {E : Type 0} (r : Result (Unit {0}) E) (old new : NodeList) (node : ℕ) → Lists old.nodes node (preorder [] (tree_from old.nodes node)) → old.name ≡ [] → old.word ≡ [] → OnOk r (AreNodesAfter old new 0 (subtrees_at old.nodes (node ∷ []))) → OnOk r (new ≡ extended no_nodes (preorder [] (tree_from old.nodes node)))
alone_moved r old new node lists n w h =
    let t = tree_from old.nodes node in
    on_ok_weaker r (λ e. e ∙ ap (λ (x : NamedSlot). list_as (node_views 0 ((x ∷ slot_descendants x.1) ++ [])) old.name old.word) (slot_at-is old.nodes node ([], Some t) lists)
    ∙ ap (λ x. list_as (node_views 0 x) old.name old.word) (append-nil (preorder [] t)) ∙ ap (λ x. list_as (node_views 0 (preorder [] t)) x old.word) n ∙ ap (list_as (node_views 0 (preorder [] t)) []) w) h
