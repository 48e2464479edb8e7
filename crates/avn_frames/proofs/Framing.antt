-- Frames that are opened and closed.
use Rattle.std.proofs.Common.{◌≡◌, ℕ, ◌+◌, ◌-◌, ◌<◌, ◌≤◌, List, [], ◌∷◌, ◌++◌, Option, Some, None, Result, true, false, length, take, drop, map, refl, sym, ap, subst, ◌∙◌, arith, append_assoc, length-append, reverse}
use Rattle.std.proofs.lemmas.List.{take_at, drop_at, length-take-le, reverse-append}
use Rattle.asn_slots.specs.Frames.{push, close, last_start}
use Rattle.asn_slots.specs.Slots.{first_of, last_present, present_of}
use Rattle.avn_grammar.specs.Tree.{Tree, sequence, sequence_of, choice, tree}
use Rattle.avn_nodes.specs.NodeLists.{NodeList, no_nodes, extended, with_leaf, with_open}
use Rattle.avn_nodes.specs.NodeViews.{NodeView, node_views}
use Rattle.avn_nodes.specs.Preorder.{NamedSlot, preorder, slot_descendants, fields_preorder, list_preorder}
use Rattle.avn_nodes.specs.TreeLists.{trees_in}
use Rattle.avn_nodes.specs.declared.node_kind.NodeKind.{NodeKind}
use Rattle.avn_nodes.specs.declared.node_kind.NodeKind.TheVariants as kind
use Rattle.avn_nodes.proofs.Extending.{IsOver, Closes, closing, over-choice, extended-extended, length-node_views}
use Rattle.avn_nodes.proofs.NodeForms.{list_as, worded}
use Rattle.avn_nodes.proofs.Putting.{extended-absent, over-sequence, over-sequence_of}
use Rattle.asn_model.specs.Canonical.{listed_trees, tree_list}
use Rattle.avn_frames.specs.Arranged.{AreNodesAfter, KeepsFirst}
use Rattle.avn_frames.specs.Places.{in_text_order, IsLastPlace}
use Rattle.avn_nodes.specs.Subtrees.{Lists, tree_from}
use Rattle.avn_nodes.proofs.Subtrees.{tree_from-is}
use Rattle.avn_frames.specs.Closing.{as_choice, as_list, as_members, as_set, named_from}
use Rattle.avn_frames.specs.Listing.{slot_nodes, frame_nodes, frames_nodes, opening_places, slots_from, AreSlots, AreFrames, frames_listed, above_root, last_frame, IsListOf, slots_begin}
use Rattle.avn_frames.proofs.Listed.{nameless, slots_from-is, are_slots, listed, settled, pushed, opened, has_frame}

-- The nodes are those of the frames, and these are what is listed.
pub record Settled (s : NodeList) (places : List ℕ) (fs : List (List (Option Tree))) : Type 0 where
  pub holds : AreFrames s places (frames_listed s.nodes places)
  pub lists : frames_listed s.nodes places ≡ fs

pub settle : (s : NodeList) (places : List ℕ) (f : List (Option Tree)) (fs : List (List (Option Tree))) → AreFrames s places (f ∷ fs) → Settled s places (f ∷ fs)
settle s places f fs k = let e = listed s places f fs k in record { holds = settled s places (f ∷ fs) k e; lists = e }

-- Nothing but an empty root.
pub only_root : (s : NodeList) (places : List ℕ) → s ≡ no_nodes → places ≡ [] → Settled s (reverse places) ([] ∷ [])
only_root s places e p =
    subst (λ x. Settled s (reverse x) ([] ∷ [])) (sym p) (subst (λ x. Settled x [] ([] ∷ [])) (sym e) (settle no_nodes [] [] [] (record { nodes = refl; opened = refl })))

-- The frames that nodes are, by what is listed.
pub record Framed (s : NodeList) (places : List ℕ) (view : List (List (Option Tree))) : Type 0 where
  pub last : List (Option Tree)
  pub others : List (List (Option Tree))
  pub all : view ≡ last ∷ others
  pub are : AreFrames s places (last ∷ others)

pub framed : (s : NodeList) (places : List ℕ) (view : List (List (Option Tree))) → AreFrames s places (frames_listed s.nodes places) → frames_listed s.nodes places ≡ view → Framed s places view
framed s places view k e =
    let h = has_frame s.nodes places in
    record { last = h.last; others = h.others; all = sym e ∙ h.all; are = subst (AreFrames s places) h.all k }

pub clear_name : (s : NodeList) (places : List ℕ) (fs : List (List (Option Tree))) → AreFrames s places fs → s.name ≡ []
clear_name s places fs k = ap (λ (x : NodeList). x.name) k.nodes

pub clear_word : (s : NodeList) (places : List ℕ) (fs : List (List (Option Tree))) → AreFrames s places fs → s.word ≡ []
clear_word s places fs k = ap (λ (x : NodeList). x.word) k.nodes

settle_push : (s : NodeList) (places : List ℕ) (f : List (Option Tree)) (fs : List (List (Option Tree))) (o : Option Tree) → AreFrames s places (push o (f ∷ fs)) → Settled s places (push o (f ∷ fs))
settle_push s places f fs o k = settle s places (f ++ (o ∷ [])) fs k

-- A slot more in the last frame.
pub slot_put : (s new : NodeList) (places : List ℕ) (view : List (List (Option Tree))) (o : Option Tree) → AreFrames s places (frames_listed s.nodes places) → frames_listed s.nodes places ≡ view → new ≡ extended s (slot_nodes o) → Settled new places (push o view)
slot_put s new places view o k e p =
    let h = framed s places view k e in
    let are = pushed s new places h.last h.others o h.are p in
    subst (λ x. Settled new places (push o x)) (sym h.all) (settle_push new places h.last h.others o are)

-- A node of a kind, as the slot that it is of its text.
pub leaf_put : {E : Type 0} (r : Result (Unit {0}) E) (s new : NodeList) (places : List ℕ) (view : List (List (Option Tree))) (kind : NodeKind) (text : List ℕ) (slot : List ℕ → Option Tree) → AreFrames s places (frames_listed s.nodes places) → frames_listed s.nodes places ≡ view
    → ((s : NodeList) → with_leaf kind s ≡ extended s ((s.name, slot s.word) ∷ slot_descendants (slot s.word))) → new ≡ with_leaf kind (worded s (s.word ++ text)) → Settled new places (push (slot text) view)
leaf_put r s new places view kind text slot k e f p =
    let w = worded s (s.word ++ text) in
    let word : s.word ++ text ≡ text = ap (λ x. x ++ text) (clear_word s places (frames_listed s.nodes places) k) in
    let same : extended w ((w.name, slot w.word) ∷ slot_descendants (slot w.word)) ≡ extended s (slot_nodes (slot text)) =
    ap (λ x. extended s ((x, slot (s.word ++ text)) ∷ slot_descendants (slot (s.word ++ text)))) (clear_name s places (frames_listed s.nodes places) k) ∙ ap (λ x. extended s (slot_nodes (slot x))) word in
    slot_put s new places view (slot text) k e (p ∙ f w ∙ same)

reverse-push : (places : List ℕ) (n : ℕ) → reverse (places ++ (n ∷ [])) ≡ n ∷ reverse places
reverse-push places n = reverse-append places (n ∷ [])

-- An empty frame more.
pub frame_opened : (s new : NodeList) (places now : List ℕ) (view : List (List (Option Tree))) (n : ℕ) → AreFrames s (reverse places) (frames_listed s.nodes (reverse places)) → frames_listed s.nodes (reverse places) ≡ view → new ≡ with_leaf kind.Absent s → now ≡ places ++ (n ∷ []) → n ≡ length s.nodes
    → Settled new (reverse now) ([] ∷ view)
frame_opened s new places now view n k e p q m =
    let h = framed s (reverse places) view k e in
    let name = clear_name s (reverse places) (frames_listed s.nodes (reverse places)) k in
    let are = opened s new (reverse places) (reverse now) h.last h.others h.are (p ∙ extended-absent s ∙ ap (λ x. extended s ((x, None) ∷ [])) name) (ap reverse q ∙ reverse-push places n ∙ ap (λ x. x ∷ reverse places) m) in
    subst (λ x. Settled new (reverse now) ([] ∷ x)) (sym h.all) (settle new (reverse now) [] (h.last ∷ h.others) are)

-- Where no frame is open, only the root is.
only : (places : List ℕ) (f : List (Option Tree)) (fs : List (List (Option Tree))) → places ≡ [] → places ≡ opening_places (f ∷ fs) → fs ≡ []
only places f [] e p = refl
only places f (g ∷ fs) e p = let n = ap (λ (x : List ℕ). length x) (sym e ∙ p) in absurd (omega (arith, n))

-- Where a frame is open, the root is not the last one.
pub record Above (s : NodeList) (places : List ℕ) (view : List (List (Option Tree))) : Type 0 where
  pub last : List (Option Tree)
  pub next : List (Option Tree)
  pub others : List (List (Option Tree))
  pub all : view ≡ last ∷ next ∷ others
  pub are : AreFrames s places (last ∷ next ∷ others)

above_by : (s : NodeList) (places : List ℕ) (view : List (List (Option Tree))) (f : List (Option Tree)) (fs : List (List (Option Tree))) → view ≡ f ∷ fs → AreFrames s places (f ∷ fs) → 0 < length places → Above s places view
above_by s places view f [] a k l = let n = ap (λ (x : List ℕ). length x) k.opened in absurd (omega (arith, n, l))
above_by s places view f (g ∷ fs) a k l = record { last = f; next = g; others = fs; all = a; are = k }

pub above : (s : NodeList) (places : List ℕ) (view : List (List (Option Tree))) → AreFrames s places (frames_listed s.nodes places) → frames_listed s.nodes places ≡ view → 0 < length places → Above s places view
above s places view k e l = let h = framed s places view k e in above_by s places view h.last h.others h.all h.are l

pub stays_above : (s : NodeList) (places : List ℕ) (view : List (List (Option Tree))) → AreFrames s places (frames_listed s.nodes places) → frames_listed s.nodes places ≡ view → 0 < length places → view ≡ above_root view
stays_above s places view k e l = let a = above s places view k e l in a.all ∙ sym (ap above_root a.all)

-- The root's slots, where no frame is open.
pub record RootAlone (s : NodeList) (view : List (List (Option Tree))) : Type 0 where
  pub slots : List (Option Tree)
  pub all : view ≡ slots ∷ []
  pub nodes : s ≡ extended no_nodes (frame_nodes slots)
  pub are : AreSlots s.nodes 0
  pub lists : slots_from s.nodes 0 ≡ slots

pub root_alone : (s : NodeList) (places : List ℕ) (view : List (List (Option Tree))) → AreFrames s places (frames_listed s.nodes places) → frames_listed s.nodes places ≡ view → places ≡ [] → RootAlone s view
root_alone s places view k e z =
    let h = framed s places view k e in
    let none = only places h.last h.others z h.are.opened in
    let nodes : s ≡ extended no_nodes (frame_nodes h.last) = h.are.nodes ∙ ap (λ x. extended no_nodes (frames_nodes (h.last ∷ x))) none in
    let from : drop 0 s.nodes ≡ node_views 0 (frame_nodes h.last) = ap (λ (x : NodeList). x.nodes) nodes in
    record { slots = h.last; all = h.all ∙ ap (λ x. h.last ∷ x) none; nodes = nodes; are = are_slots s.nodes 0 h.last from; lists = slots_from-is s.nodes 0 h.last from }

pub put_above : (s new : NodeList) (places now : List ℕ) (view : List (List (Option Tree))) → AreFrames s (reverse places) (frames_listed s.nodes (reverse places)) → frames_listed s.nodes (reverse places) ≡ view → places ≡ [] → now ≡ places ++ (0 ∷ [])
    → new ≡ extended no_nodes (frame_nodes (None ∷ slots_from s.nodes 0)) → Settled new (reverse now) (above_root view)
put_above s new places now view k e z q p =
    let r = root_alone s (reverse places) view k e (ap reverse z) in
    let opened : reverse now ≡ 0 ∷ [] = ap reverse (q ∙ ap (λ x. x ++ (0 ∷ [])) z) in
    let nodes : new ≡ extended no_nodes (frames_nodes (r.slots ∷ [] ∷ [])) = p ∙ ap (λ x. extended no_nodes (frame_nodes (None ∷ x))) r.lists in
    subst (Settled new (reverse now)) (sym (ap above_root r.all)) (settle new (reverse now) r.slots ([] ∷ []) (record { nodes = nodes; opened = opened }))

open_absent : (s : NodeList) → s.name ≡ [] → s.word ≡ [] → with_open kind.Absent s ≡ extended s (nameless None ∷ [])
open_absent s n w = ap (λ x. record (with_leaf kind.Absent s) { name = x }) w ∙ extended-absent s ∙ ap (λ x. extended s ((x, None) ∷ [])) n

-- A frame that is being closed: its node, and those of its slots.
pub record Closable (s : NodeList) (place : ℕ) (left : List ℕ) (view : List (List (Option Tree))) : Type 0 where
  pub last : List (Option Tree)
  pub next : List (Option Tree)
  pub others : List (List (Option Tree))
  pub all : view ≡ last ∷ next ∷ others
  pub base : NodeList
  pub based : AreFrames base left (next ∷ others)
  pub name : base.name ≡ []
  pub word : base.word ≡ []
  pub at : place ≡ length base.nodes
  pub nodes : s ≡ extended (with_open kind.Absent base) (frame_nodes last)
  pub within : place + 1 ≤ length s.nodes
  pub slots : AreSlots s.nodes (place + 1)
  pub lists : slots_from s.nodes (place + 1) ≡ last
  pub front : take (place + 1) s.nodes ≡ (with_open kind.Absent base).nodes

heads : (m n : ℕ) (ms ns : List ℕ) → m ∷ ms ≡ n ∷ ns → m ≡ n
heads m n ms ns e = cc e

tails : (m n : ℕ) (ms ns : List ℕ) → m ∷ ms ≡ n ∷ ns → ms ≡ ns
tails m n ms ns e = cc e

pub closable : (s : NodeList) (places : List ℕ) (place : ℕ) (left : List ℕ) (view : List (List (Option Tree))) → AreFrames s places (frames_listed s.nodes places) → frames_listed s.nodes places ≡ view → places ≡ place ∷ left → Closable s place left view
closable s places place left view k e q =
    let a = above s places view k e (omega (arith, ap (λ (x : List ℕ). length x) q)) in
    let rest = frames_nodes (a.next ∷ a.others) in
    let base = extended no_nodes rest in
    let both = sym q ∙ a.are.opened in
    let at : place ≡ length base.nodes = heads place (length rest) left (opening_places (a.next ∷ a.others)) both ∙ sym (length-node_views 0 rest) in
    let ended : extended base (nameless None ∷ []) ≡ with_open kind.Absent base = sym (open_absent base refl refl) in
    let nodes : s ≡ extended (with_open kind.Absent base) (frame_nodes a.last) =
    a.are.nodes ∙ ap (extended no_nodes) (sym (append_assoc rest (nameless None ∷ []) (frame_nodes a.last))) ∙ sym (extended-extended no_nodes (rest ++ (nameless None ∷ [])) (frame_nodes a.last))
    ∙ ap (λ x. extended x (frame_nodes a.last)) (sym (extended-extended no_nodes rest (nameless None ∷ [])) ∙ ended) in
    let first = (with_open kind.Absent base).nodes in
    let one : place + 1 ≡ length first = omega (arith, at, ap (λ (x : NodeList). length x.nodes) (sym ended), length-append base.nodes (node_views (length base.nodes) (nameless None ∷ []))) in
    let parts : s.nodes ≡ first ++ node_views (length first) (frame_nodes a.last) = ap (λ (x : NodeList). x.nodes) nodes in
    let from : drop (place + 1) s.nodes ≡ node_views (place + 1) (frame_nodes a.last) =
    ap (drop (place + 1)) parts ∙ drop_at first (node_views (length first) (frame_nodes a.last)) (place + 1) (sym one) ∙ ap (λ n. node_views n (frame_nodes a.last)) (sym one) in
    record {
      last = a.last;
      next = a.next;
      others = a.others;
      all = a.all;
      base = base;
      based = record { nodes = refl; opened = tails place (length rest) left (opening_places (a.next ∷ a.others)) both };
      name = refl;
      word = refl;
      at = at;
      nodes = nodes;
      within = omega (arith, one, ap (λ (x : List NodeView). length x) parts, length-append first (node_views (length first) (frame_nodes a.last)));
      slots = are_slots s.nodes (place + 1) a.last from;
      lists = slots_from-is s.nodes (place + 1) a.last from;
      front = ap (take (place + 1)) parts ∙ take_at first (node_views (length first) (frame_nodes a.last)) (place + 1) (sym one);
    }

-- Other nodes in the place of the slots'.
pub refilled : (s new : NodeList) (place : ℕ) (left : List ℕ) (view : List (List (Option Tree))) (c : Closable s place left view) (ss : List NamedSlot) → AreNodesAfter s new (place + 1) ss → new ≡ extended (with_open kind.Absent c.base) ss
refilled s new place left view c ss e =
    let first = (with_open kind.Absent c.base).nodes in
    let one : place + 1 ≡ length first = omega (arith, c.within, ap (λ (x : List NodeView). length x) c.front, length-take-le (place + 1) s.nodes c.within) in
    e ∙ ap (λ x. list_as (x ++ node_views (place + 1) ss) s.name s.word) c.front ∙ ap (λ n. list_as (first ++ node_views n ss) s.name s.word) one
    ∙ ap (λ (x : NodeList). list_as (first ++ node_views (length first) ss) x.name x.word) c.nodes

-- The node is closed over them.
pub closed_over : (s new then : NodeList) (place : ℕ) (left : List ℕ) (view : List (List (Option Tree))) (c : Closable s place left view) (k : NodeKind) (t : Tree) (ss : List NamedSlot) → AreNodesAfter s new (place + 1) ss → IsOver t k ss → Closes new then place k
    → Settled then left (push (Some t) (c.next ∷ c.others))
closed_over s new then place left view c k t ss e o h =
    let grew = refilled s new place left view c ss e in
    let shut : then ≡ extended c.base (preorder c.base.name t) = closing c.base new then kind.Absent k t ss place c.at grew o h in
    settle_push then left c.next c.others (Some t) (pushed c.base then left c.next c.others (Some t) c.based (shut ∙ ap (λ x. extended c.base (preorder x t)) c.name))

-- The node stays without a value.
pub left_absent : (s new : NodeList) (place : ℕ) (left : List ℕ) (view : List (List (Option Tree))) (c : Closable s place left view) → AreNodesAfter s new (place + 1) [] → Settled new left (push None (c.next ∷ c.others))
left_absent s new place left view c e =
    let alone : with_open kind.Absent c.base ≡ extended c.base (nameless None ∷ []) = open_absent c.base c.name c.word in
    let none : extended (with_open kind.Absent c.base) [] ≡ extended c.base (nameless None ∷ []) = ap (λ x. extended x []) alone ∙ extended-extended c.base (nameless None ∷ []) [] in
    settle_push new left c.next c.others None (pushed c.base new left c.next c.others None c.based (refilled s new place left view c [] e ∙ none))

present-nodes : (ts : List Tree) → frame_nodes (map Some ts) ≡ list_preorder (trees_in ts)
unfolding list_preorder
present-nodes [] = refl
present-nodes (t ∷ ts) = ap (λ x. preorder [] t ++ x) (present-nodes ts)

-- A list of trees is closed.
pub list_closed : (s new then : NodeList) (place : ℕ) (left : List ℕ) (view : List (List (Option Tree))) (c : Closable s place left view) (ts : List Tree) → AreNodesAfter s new (place + 1) (frame_nodes (map Some ts)) → Closes new then place kind.SequenceOf
    → Settled then left (push (Some (sequence_of (trees_in ts))) (c.next ∷ c.others))
list_closed s new then place left view c ts e h =
    closed_over s new then place left view c kind.SequenceOf (sequence_of (trees_in ts)) (list_preorder (trees_in ts)) (e ∙ ap (λ x. list_as (take (place + 1) s.nodes ++ node_views (place + 1) x) s.name s.word) (present-nodes ts)) (over-sequence_of (trees_in ts)) h

closes-same : (f : List (Option Tree) → Option Tree) (frames : List (List (Option Tree))) → close f (above_root frames) ≡ close f frames
closes-same f [] = refl
closes-same f (g ∷ []) = refl
closes-same f (g ∷ h ∷ fs) = refl

pub close-above : (f : List (Option Tree) → Option Tree) (view frames : List (List (Option Tree))) (last next : List (Option Tree)) (others : List (List (Option Tree))) → view ≡ above_root frames → view ≡ last ∷ next ∷ others → push (f last) (next ∷ others) ≡ close f frames
close-above f view frames last next others e a = sym (ap (close f) a) ∙ ap (close f) e ∙ closes-same f frames

finish : (f : List (Option Tree) → Option Tree) (s : NodeList) (place : ℕ) (left : List ℕ) (view frames : List (List (Option Tree))) (c : Closable s place left view) (then : NodeList) (o : Option Tree) → view ≡ above_root frames → f c.last ≡ o → Settled then left (push o (c.next ∷ c.others)) → Settled then left (close f frames)
finish f s place left view frames c then o e d k =
    subst (Settled then left) (ap (λ x. push x (c.next ∷ c.others)) (sym d) ∙ close-above f view frames c.last c.next c.others e c.all) k

pub list_done : (s new then : NodeList) (place : ℕ) (left : List ℕ) (view frames : List (List (Option Tree))) (c : Closable s place left view) → view ≡ above_root frames → AreNodesAfter s new (place + 1) (frame_nodes (map Some (present_of (slots_from s.nodes (place + 1))))) → Closes new then place kind.SequenceOf
    → Settled then left (close as_list frames)
list_done s new then place left view frames c e n h =
    let ts = present_of (slots_from s.nodes (place + 1)) in
    finish as_list s place left view frames c then (Some (sequence_of (trees_in ts))) e (ap as_list (sym c.lists)) (list_closed s new then place left view c ts n h)

list-trees : (ts : List Tree) → tree_list (trees_in ts) ≡ ts
list-trees [] = refl
list-trees (t ∷ ts) = ap (λ l. t ∷ l) (list-trees ts)

trees-list : (ts : List Tree) → listed_trees ts ≡ trees_in ts
trees-list [] = refl
trees-list (t ∷ ts) = ap (tree t) (trees-list ts)

pub set_done : (s new then : NodeList) (place : ℕ) (left : List ℕ) (view frames : List (List (Option Tree))) (c : Closable s place left view) → view ≡ above_root frames → AreNodesAfter s new (place + 1) (frame_nodes (map Some (in_text_order (present_of (slots_from s.nodes (place + 1)))))) → Closes new then place kind.SequenceOf
    → Settled then left (close as_set frames)
set_done s new then place left view frames c e n h =
    let ts = present_of (slots_from s.nodes (place + 1)) in
    let same : as_set c.last ≡ Some (sequence_of (trees_in (in_text_order ts))) =
    ap as_set (sym c.lists) ∙ ap (λ x. Some (sequence_of (listed_trees (in_text_order x)))) (list-trees ts) ∙ ap (λ x. Some (sequence_of x)) (trees-list (in_text_order ts)) in
    finish as_set s place left view frames c then (Some (sequence_of (trees_in (in_text_order ts)))) e same (list_closed s new then place left view c (in_text_order ts) n h)

pub members_done : (name : ℕ → List ℕ) (s new then : NodeList) (place : ℕ) (left : List ℕ) (view frames : List (List (Option Tree))) (c : Closable s place left view) → view ≡ above_root frames → AreNodesAfter s new (place + 1) (fields_preorder (named_from name 0 (slots_from s.nodes (place + 1)))) → Closes new then place kind.Sequence
    → Settled then left (close (as_members name) frames)
members_done name s new then place left view frames c e n h =
    let fs = named_from name 0 (slots_from s.nodes (place + 1)) in
    finish (as_members name) s place left view frames c then (Some (sequence fs)) e (ap (as_members name) (sym c.lists)) (closed_over s new then place left view c kind.Sequence (sequence fs) (fields_preorder fs) n (over-sequence fs) h)

choice-some : (id : List ℕ) (os : List (Option Tree)) (t : Tree) → first_of os ≡ Some t → as_choice id os ≡ Some (choice id t)
choice-some id [] t e = let n : ⊥ = cc in absurd n
choice-some id (None ∷ os) t e = let n : ⊥ = cc in absurd n
choice-some id (Some u ∷ os) t e = let f : u ≡ t = cc in ap (λ x. Some (choice id x)) f

choice-none : (id : List ℕ) (os : List (Option Tree)) → first_of os ≡ None → as_choice id os ≡ None
choice-none id [] e = refl
choice-none id (None ∷ os) e = refl
choice-none id (Some u ∷ os) e = let n : ⊥ = cc in absurd n

pub choice_absent : (id : List ℕ) (s new : NodeList) (place : ℕ) (left : List ℕ) (view frames : List (List (Option Tree))) (c : Closable s place left view) → view ≡ above_root frames → KeepsFirst s new (place + 1) (first_of (slots_from s.nodes (place + 1))) false → Settled new left (close (as_choice id) frames)
choice_absent id s new place left view frames c e k =
    finish (as_choice id) s place left view frames c new None e (choice-none id c.last (ap first_of (sym c.lists) ∙ k.0)) (left_absent s new place left view c k.1)

pub place_below : (s new : NodeList) (place : ℕ) (left : List ℕ) (view : List (List (Option Tree))) (c : Closable s place left view) (ss : List NamedSlot) → AreNodesAfter s new (place + 1) ss → place < length new.nodes
place_below s new place left view c ss e =
    omega (arith, ap (λ (x : NodeList). length x.nodes) e, length-append (take (place + 1) s.nodes) (node_views (place + 1) ss), length-take-le (place + 1) s.nodes c.within)

-- What naming the last subtree makes of nodes.
abbrev pub NamesLast : NodeList → NodeList → ℕ → List ℕ → Type 0
NamesLast old new place name = (before : List NodeView) (t : Tree) → old.nodes ≡ before ++ node_views place (preorder [] t) → length before ≡ place → new ≡ record old { nodes = before ++ node_views place (preorder name t) }

pub first_there : (s new : NodeList) (place : ℕ) (left : List ℕ) (view : List (List (Option Tree))) (c : Closable s place left view) → KeepsFirst s new (place + 1) (first_of (slots_from s.nodes (place + 1))) true → place + 1 < length new.nodes
first_there s new place left view c k =
    omega (arith, ap (λ (x : NodeList). length x.nodes) k.2, length-append (take (place + 1) s.nodes) (node_views (place + 1) (preorder [] k.0)), length-take-le (place + 1) s.nodes c.within)

named_nodes : (id : List ℕ) (s kept new : NodeList) (place : ℕ) (left : List ℕ) (view : List (List (Option Tree))) (c : Closable s place left view) (k : KeepsFirst s kept (place + 1) (first_of (slots_from s.nodes (place + 1))) true) → NamesLast kept new (place + 1) id → AreNodesAfter s new (place + 1) (preorder id k.0)
named_nodes id s kept new place left view c k n =
    let front = take (place + 1) s.nodes in
    n front k.0 (ap (λ (x : NodeList). x.nodes) k.2) (length-take-le (place + 1) s.nodes c.within) ∙ ap (λ (x : NodeList). list_as (front ++ node_views (place + 1) (preorder id k.0)) x.name x.word) k.2

pub named_below : (s kept new : NodeList) (place : ℕ) (left : List ℕ) (view : List (List (Option Tree))) (c : Closable s place left view) (k : KeepsFirst s kept (place + 1) (first_of (slots_from s.nodes (place + 1))) true) (id : List ℕ) → NamesLast kept new (place + 1) id → place < length new.nodes
named_below s kept new place left view c k id n = place_below s new place left view c (preorder id k.0) (named_nodes id s kept new place left view c k n)

pub choice_done : (id : List ℕ) (s kept new then : NodeList) (place : ℕ) (left : List ℕ) (view frames : List (List (Option Tree))) (c : Closable s place left view) → view ≡ above_root frames → KeepsFirst s kept (place + 1) (first_of (slots_from s.nodes (place + 1))) true → NamesLast kept new (place + 1) id → Closes new then place kind.Choice
    → Settled then left (close (as_choice id) frames)
choice_done id s kept new then place left view frames c e k n h =
    finish (as_choice id) s place left view frames c then (Some (choice id k.0)) e (choice-some id c.last k.0 (ap first_of (sym c.lists) ∙ k.1)) (closed_over s new then place left view c kind.Choice (choice id k.0) (preorder id k.0) (named_nodes id s kept new place left view c k n) (over-choice id k.0) h)

-- The slots of the last frame.
pub record LastSlots (s : NodeList) (places : List ℕ) (view : List (List (Option Tree))) : Type 0 where
  pub slots : AreSlots s.nodes (slots_begin places)
  pub lists : slots_from s.nodes (slots_begin places) ≡ last_frame view
  pub bound : last_start places ≤ length s.nodes - 1

pub last_slots : (s : NodeList) (places : List ℕ) (view : List (List (Option Tree))) → AreFrames s places (frames_listed s.nodes places) → frames_listed s.nodes places ≡ view → LastSlots s places view
last_slots s [] view k e =
    let r = root_alone s [] view k e refl in
    record { slots = r.are; lists = r.lists ∙ sym (ap last_frame r.all); bound = omega arith }
last_slots s (p ∷ ps) view k e =
    let c = closable s (p ∷ ps) p ps view k e refl in
    record { slots = c.slots; lists = c.lists ∙ sym (ap last_frame c.all); bound = omega (arith, c.within) }

-- The last slot that is present, as a place of the last frame's tells it.
pub last_tree : (nodes : List NodeView) (i : ℕ) (node : ℕ) (f : List (Option Tree)) → IsLastPlace nodes i (Some node) → slots_from nodes i ≡ f → last_present f ≡ Some (tree_from nodes node)
last_tree nodes i node f k e = ap last_present (sym e) ∙ k.1 ∙ ap Some (sym (tree_from-is nodes node [] k.0 k.2))

pub last_lists : (nodes : List NodeView) (i : ℕ) (node : ℕ) → IsLastPlace nodes i (Some node) → Lists nodes node (preorder [] (tree_from nodes node))
last_lists nodes i node k = subst (λ t. Lists nodes node (preorder [] t)) (sym (tree_from-is nodes node [] k.0 k.2)) k.2

-- The nodes that are kept alone are those of the last slot that is present.
pub last_alone : (s new : NodeList) (i : ℕ) (node : ℕ) (f : List (Option Tree)) → IsLastPlace s.nodes i (Some node) → slots_from s.nodes i ≡ f → new ≡ extended no_nodes (preorder [] (tree_from s.nodes node)) → IsListOf new (last_present f)
last_alone s new i node f k e n = subst (IsListOf new) (sym (last_tree s.nodes i node f k e)) n
