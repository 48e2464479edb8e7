-- Frames that nodes list.
use Rattle.std.proofs.Common.{◌≡◌, ℕ, suc, ◌+◌, List, [], ◌∷◌, ◌++◌, Option, Some, None, length, take, drop, map, refl, sym, ap, subst, ◌∙◌, arith, append_assoc, length-append}
use Rattle.std.proofs.lemmas.List.{append-nil, take_at, drop_at}
use Rattle.asn_slots.specs.Frames.{push}
use Rattle.avn_grammar.specs.Tree.{Tree}
use Rattle.avn_nodes.specs.Preorder.{NamedSlot}
use Rattle.avn_nodes.specs.NodeViews.{NodeView, node_view, node_views}
use Rattle.avn_nodes.specs.NodeLists.{NodeList, no_nodes, extended}
use Rattle.avn_nodes.specs.Forest.{forest}
use Rattle.avn_nodes.specs.ForestLaws.{forest-trees, trees, trees-spots, no-later}
use Rattle.avn_nodes.proofs.Extending.{node_views-append, length-node_views, extended-extended}
use Rattle.avn_frames.specs.Listing.{slot_nodes, frame_nodes, frames_nodes, opening_places, slots_from, AreSlots, frames_listed, AreFrames}

abbrev pub nameless : Option Tree → NamedSlot
nameless o = ([], o)

trees-frame : (later : List NamedSlot) (os : List (Option Tree)) → trees later (frame_nodes os) ≡ map nameless os ++ later
unfolding trees
trees-frame later [] = refl
trees-frame later (Some t ∷ os) = trees-spots later [] t (frame_nodes os) ∙ ap (λ x. nameless (Some t) ∷ x) (trees-frame later os)
trees-frame later (None ∷ os) = ap (λ x. nameless None ∷ x) (no-later (trees later (frame_nodes os)) ∙ trees-frame later os)

unnamed : (os : List (Option Tree)) → map (λ s. s.1) (map nameless os) ≡ os
unnamed [] = refl
unnamed (o ∷ os) = ap (λ x. o ∷ x) (unnamed os)

forest-frame : (i : ℕ) (os : List (Option Tree)) → map (λ (s : NamedSlot). s.1) (forest i (node_views i (frame_nodes os))) ≡ os
unfolding forest
forest-frame i os =
    ap (λ cs. map (λ (s : NamedSlot). s.1) (forest i cs)) (sym (append-nil (node_views i (frame_nodes os))))
    ∙ ap (map (λ (s : NamedSlot). s.1)) (forest-trees i (frame_nodes os) [] ∙ trees-frame [] os ∙ append-nil (map nameless os))
    ∙ unnamed os

-- The nodes of slots list these slots.
pub slots_from-is : (nodes : List NodeView) (i : ℕ) (os : List (Option Tree)) → drop i nodes ≡ node_views i (frame_nodes os) → slots_from nodes i ≡ os
slots_from-is nodes i os e = ap (λ cs. map (λ (s : NamedSlot). s.1) (forest i cs)) e ∙ forest-frame i os

pub are_slots : (nodes : List NodeView) (i : ℕ) (os : List (Option Tree)) → drop i nodes ≡ node_views i (frame_nodes os) → AreSlots nodes i
are_slots nodes i os e = e ∙ ap (λ x. node_views i (frame_nodes x)) (sym (slots_from-is nodes i os e))

-- The nodes before a frame, the one that opens it, and those of its slots.
module _ (before : List NamedSlot) (f : List (Option Tree)) where
  abbrev views : List NodeView
  views = node_views 0 (before ++ (nameless None ∷ frame_nodes f))

  parts : views ≡ node_views 0 before ++ (node_view (length before) (nameless None) ∷ node_views (suc (length before)) (frame_nodes f))
  parts =
      let zero : 0 + length before ≡ length before = omega arith in
      node_views-append 0 before (nameless None ∷ frame_nodes f) ∙ ap (λ n. node_views 0 before ++ node_views n (nameless None ∷ frame_nodes f)) zero

  front : take (length before) views ≡ node_views 0 before
  front = ap (take (length before)) parts ∙ take_at (node_views 0 before) (node_view (length before) (nameless None) ∷ node_views (suc (length before)) (frame_nodes f)) (length before) (length-node_views 0 before)

  back : drop (suc (length before)) views ≡ node_views (suc (length before)) (frame_nodes f)
  back =
      let v = node_view (length before) (nameless None) in
      let rest = node_views (suc (length before)) (frame_nodes f) in
      let one : length (node_views 0 before ++ (v ∷ [])) ≡ suc (length before) = omega (arith, length-append (node_views 0 before) (v ∷ []), length-node_views 0 before) in
      ap (drop (suc (length before))) (parts ∙ sym (append_assoc (node_views 0 before) (v ∷ []) rest)) ∙ drop_at (node_views 0 before ++ (v ∷ [])) rest (suc (length before)) one

-- The nodes of frames list these frames.
frames_listed-is : (f : List (Option Tree)) (fs : List (List (Option Tree))) → frames_listed (node_views 0 (frames_nodes (f ∷ fs))) (opening_places (f ∷ fs)) ≡ f ∷ fs
frames_listed-is f [] = ap (λ x. x ∷ []) (slots_from-is (node_views 0 (frame_nodes f)) 0 f refl)
frames_listed-is f (g ∷ fs) =
    let before = frames_nodes (g ∷ fs) in
    let here : slots_from (views before f) (suc (length before)) ≡ f = slots_from-is (views before f) (suc (length before)) f (back before f) in
    ap (λ x. x ∷ frames_listed (take (length before) (views before f)) (opening_places (g ∷ fs))) here
    ∙ ap (λ x. f ∷ x) (ap (λ x. frames_listed x (opening_places (g ∷ fs))) (front before f) ∙ frames_listed-is g fs)

-- What is listed are these frames, and the nodes are those of what is listed.
pub listed : (s : NodeList) (places : List ℕ) (f : List (Option Tree)) (fs : List (List (Option Tree))) → AreFrames s places (f ∷ fs) → frames_listed s.nodes places ≡ f ∷ fs
listed s places f fs k = ap (λ (x : NodeList). frames_listed x.nodes places) k.nodes ∙ ap (frames_listed (node_views 0 (frames_nodes (f ∷ fs)))) k.opened ∙ frames_listed-is f fs

pub settled : (s : NodeList) (places : List ℕ) (fs : List (List (Option Tree))) → AreFrames s places fs → frames_listed s.nodes places ≡ fs → AreFrames s places (frames_listed s.nodes places)
settled s places fs k e = subst (AreFrames s places) (sym e) k

-- Some frame is listed.
pub record HasFrame (fs : List (List (Option Tree))) : Type 0 where
  pub last : List (Option Tree)
  pub others : List (List (Option Tree))
  pub all : fs ≡ last ∷ others

pub has_frame : (nodes : List NodeView) (places : List ℕ) → HasFrame (frames_listed nodes places)
has_frame nodes [] = record { last = slots_from nodes 0; others = []; all = refl }
has_frame nodes (p ∷ ps) = record { last = slots_from nodes (suc p); others = frames_listed (take p nodes) ps; all = refl }

frame_nodes-push : (os : List (Option Tree)) (o : Option Tree) → frame_nodes (os ++ (o ∷ [])) ≡ frame_nodes os ++ slot_nodes o
frame_nodes-push [] o = append-nil (slot_nodes o)
frame_nodes-push (x ∷ os) o = ap (λ y. slot_nodes x ++ y) (frame_nodes-push os o) ∙ sym (append_assoc (slot_nodes x) (frame_nodes os) (slot_nodes o))

frames_nodes-push : (f : List (Option Tree)) (fs : List (List (Option Tree))) (o : Option Tree) → frames_nodes (push o (f ∷ fs)) ≡ frames_nodes (f ∷ fs) ++ slot_nodes o
frames_nodes-push f [] o = frame_nodes-push f o
frames_nodes-push f (g ∷ fs) o =
    ap (λ x. frames_nodes (g ∷ fs) ++ (nameless None ∷ x)) (frame_nodes-push f o) ∙ sym (append_assoc (frames_nodes (g ∷ fs)) (nameless None ∷ frame_nodes f) (slot_nodes o))

places-push : (f : List (Option Tree)) (fs : List (List (Option Tree))) (o : Option Tree) → opening_places (push o (f ∷ fs)) ≡ opening_places (f ∷ fs)
places-push f [] o = refl
places-push f (g ∷ fs) o = refl

-- A slot more in the last frame.
pub pushed : (s new : NodeList) (places : List ℕ) (f : List (Option Tree)) (fs : List (List (Option Tree))) (o : Option Tree) → AreFrames s places (f ∷ fs) → new ≡ extended s (slot_nodes o) → AreFrames new places (push o (f ∷ fs))
pushed s new places f fs o k e = record {
  nodes = e ∙ ap (λ x. extended x (slot_nodes o)) k.nodes ∙ extended-extended no_nodes (frames_nodes (f ∷ fs)) (slot_nodes o) ∙ ap (extended no_nodes) (sym (frames_nodes-push f fs o));
  opened = k.opened ∙ sym (places-push f fs o);
}

-- An empty frame more.
pub opened : (s new : NodeList) (places now : List ℕ) (f : List (Option Tree)) (fs : List (List (Option Tree))) → AreFrames s places (f ∷ fs) → new ≡ extended s (slot_nodes None) → now ≡ length s.nodes ∷ places → AreFrames new now ([] ∷ f ∷ fs)
opened s new places now f fs k e p = record {
  nodes = e ∙ ap (λ x. extended x (slot_nodes None)) k.nodes ∙ extended-extended no_nodes (frames_nodes (f ∷ fs)) (slot_nodes None);
  opened =
      p ∙ ap (λ n. n ∷ places) (ap (λ (x : NodeList). length x.nodes) k.nodes ∙ length-node_views 0 (frames_nodes (f ∷ fs))) ∙ ap (λ x. length (frames_nodes (f ∷ fs)) ∷ x) k.opened;
}
