-- Slots that get the names of fields.
use Rattle.std.proofs.Common.{◌≡◌, ℕ, suc, ◌+◌, ◌<◌, ◌≤◌, List, [], ◌∷◌, ◌++◌, Option, Some, None, length, take, refl, sym, ap, ◌∙◌, arith, append_assoc, length-append}
use Rattle.std.proofs.lemmas.List.{append-nil, get_or_at, length-take-le, take-append-drop}
use Rattle.avn_grammar.specs.Tree.{Tree}
use Rattle.avn_nodes.specs.NodeViews.{NodeView, node_view, node_views, view_at, no_node}
use Rattle.avn_nodes.specs.NodeLists.{NodeList}
use Rattle.avn_nodes.specs.Preorder.{NamedSlot, fields_preorder, preorder, slot_descendants}
use Rattle.avn_nodes.proofs.Extending.{node_views-append, length-node_views}
use Rattle.avn_nodes.proofs.NodeForms.{list_as}
use Rattle.avn_frames.specs.Closing.{named_from}
use Rattle.avn_frames.specs.Listing.{slot_nodes, frame_nodes, slots_from, AreSlots}
use Rattle.avn_frames.proofs.Listed.{nameless}

module _ (name : ℕ → List ℕ) where
  abbrev pub fields_nodes : ℕ → List (Option Tree) → List NamedSlot
  fields_nodes i os = fields_preorder (named_from name i os)

  pub fields-long : (i : ℕ) (os : List (Option Tree)) → length (fields_nodes i os) ≡ length (frame_nodes os)
  unfolding fields_preorder
  fields-long i [] = refl
  fields-long i (None ∷ os) = ap suc (fields-long (suc i) os)
  fields-long i (Some t ∷ os) = omega (arith, length-append (preorder (name i) t) (fields_nodes (suc i) os), length-append (preorder [] t) (frame_nodes os), fields-long (suc i) os)

  fields-push : (i : ℕ) (os : List (Option Tree)) (o : Option Tree) → fields_nodes i (os ++ (o ∷ [])) ≡ fields_nodes i os ++ ((name (i + length os), o) ∷ slot_descendants o)
  unfolding fields_preorder
  fields-push i [] (Some t) = let e : i ≡ i + 0 = omega arith in append-nil (preorder (name i) t) ∙ ap (λ n. preorder (name n) t) e
  fields-push i [] None = let e : i ≡ i + 0 = omega arith in ap (λ n. (name n, None) ∷ []) e
  fields-push i (Some t ∷ os) o =
      let e : suc i + length os ≡ i + suc (length os) = omega arith in
      ap (λ x. preorder (name i) t ++ x) (fields-push (suc i) os o ∙ ap (λ n. fields_nodes (suc i) os ++ ((name n, o) ∷ slot_descendants o)) e)
      ∙ sym (append_assoc (preorder (name i) t) (fields_nodes (suc i) os) ((name (i + suc (length os)), o) ∷ slot_descendants o))
  fields-push i (None ∷ os) o =
      let e : suc i + length os ≡ i + suc (length os) = omega arith in
      ap (λ x. (name i, None) ∷ x) (fields-push (suc i) os o ∙ ap (λ n. fields_nodes (suc i) os ++ ((name n, o) ∷ slot_descendants o)) e)

  frame-push : (os : List (Option Tree)) (o : Option Tree) → length (frame_nodes (os ++ (o ∷ []))) ≡ length (frame_nodes os) + length (slot_nodes o)
  frame-push [] o = omega (arith, length-append (slot_nodes o) [])
  frame-push (x ∷ os) o = omega (arith, length-append (slot_nodes x) (frame_nodes (os ++ (o ∷ []))), length-append (slot_nodes x) (frame_nodes os), frame-push os o)

  -- The slots that have names so far, and those that are left.
  pub record NamedSoFar (old now : NodeList) (from slot place : ℕ) : Type 0 where
    pub done : List (Option Tree)
    pub left : List (Option Tree)
    pub all : slots_from old.nodes from ≡ done ++ left
    pub count : place ≡ length done
    pub here : slot ≡ from + length (frame_nodes done)
    pub nodes : now ≡ list_as (take from old.nodes ++ (node_views from (fields_nodes 0 done) ++ node_views slot (frame_nodes left))) [] []
    pub few : place ≤ slot

  pub named_none : (old : NodeList) (from : ℕ) → AreSlots old.nodes from → old.name ≡ [] → old.word ≡ [] → NamedSoFar old old from from 0
  unfolding fields_preorder
  named_none old from a n w = record {
    done = [];
    left = slots_from old.nodes from;
    all = refl;
    count = refl;
    here = omega arith;
    nodes = ap (λ x. list_as old.nodes x old.word) n ∙ ap (list_as old.nodes []) w ∙ ap (λ x. list_as x [] []) (sym (take-append-drop from old.nodes) ∙ ap (λ x. take from old.nodes ++ x) a);
    few = omega arith;
  }

  -- The parts of the nodes at the next slot.
  pub record NextSlot (old now : NodeList) (from slot place : ℕ) (s : NamedSoFar old now from slot place) : Type 0 where
    pub first : Option Tree
    pub others : List (Option Tree)
    pub left : s.left ≡ first ∷ others

  long-now : (old now : NodeList) (from slot place : ℕ) (s : NamedSoFar old now from slot place) → from ≤ length old.nodes → length now.nodes ≡ slot + length (frame_nodes s.left)
  long-now old now from slot place s w =
      omega (
        arith,
        ap (λ (x : NodeList). length x.nodes) s.nodes,
        length-append (take from old.nodes) (node_views from (fields_nodes 0 s.done) ++ node_views slot (frame_nodes s.left)),
        length-append (node_views from (fields_nodes 0 s.done)) (node_views slot (frame_nodes s.left)),
        length-node_views from (fields_nodes 0 s.done),
        length-node_views slot (frame_nodes s.left),
        fields-long 0 s.done,
        length-take-le from old.nodes w,
        s.here,
      )

  next_slot : (old now : NodeList) (from slot place : ℕ) (s : NamedSoFar old now from slot place) → (os : List (Option Tree)) → s.left ≡ os → slot < slot + length (frame_nodes os) → NextSlot old now from slot place s
  next_slot old now from slot place s [] e l = absurd (omega (arith, l))
  next_slot old now from slot place s (o ∷ os) e l = record { first = o; others = os; left = e }

  none_left : (slot : ℕ) (os : List (Option Tree)) → slot + length (frame_nodes os) ≤ slot → os ≡ []
  none_left slot [] l = refl
  none_left slot (o ∷ os) l = absurd (omega (arith, l, length-append (slot_nodes o) (frame_nodes os)))

  -- All slots have names.
  pub named_all : (old now : NodeList) (from slot place : ℕ) (s : NamedSoFar old now from slot place) → from ≤ length old.nodes → length now.nodes ≤ slot → old.name ≡ [] → old.word ≡ []
      → now ≡ record old { nodes = take from old.nodes ++ node_views from (fields_nodes 0 (slots_from old.nodes from)) }
  named_all old now from slot place s w l n v =
      let none : s.left ≡ [] = none_left slot s.left (omega (arith, l, long-now old now from slot place s w)) in
      let all : s.done ≡ slots_from old.nodes from = sym (s.all ∙ ap (λ x. s.done ++ x) none ∙ append-nil s.done) in
      s.nodes ∙ ap (λ x. list_as (take from old.nodes ++ (node_views from (fields_nodes 0 s.done) ++ node_views slot (frame_nodes x))) [] []) none
      ∙ ap (λ x. list_as (take from old.nodes ++ x) [] []) (append-nil (node_views from (fields_nodes 0 s.done)) ∙ ap (λ x. node_views from (fields_nodes 0 x)) all)
      ∙ ap (λ x. list_as (take from old.nodes ++ node_views from (fields_nodes 0 (slots_from old.nodes from))) x []) (sym n)
      ∙ ap (list_as (take from old.nodes ++ node_views from (fields_nodes 0 (slots_from old.nodes from))) old.name) (sym v)

  -- What a node that gets the word as its name is among the others.
  abbrev pub IsNamed : NodeList → NodeList → ℕ → Type 0
  IsNamed now then place = (before after : List NodeView) (node : NodeView) → now.nodes ≡ before ++ (node ∷ after) → length before ≡ place → then ≡ list_as (before ++ (record node { name = now.word } ∷ after)) [] []

  -- One more slot has its name.
  pub record NamedNext (old now then : NodeList) (from slot place : ℕ) : Type 0 where
    pub next : NamedSoFar old then from (view_at then.nodes slot).end (place + 1)
    pub grows : slot < (view_at then.nodes slot).end
    pub within : slot < length then.nodes
    pub same : length then.nodes ≡ length now.nodes

  pub named_next : (old now word then : NodeList) (from slot place : ℕ) → NamedSoFar old now from slot place → from ≤ length old.nodes → slot < length now.nodes → word ≡ record now { word = now.word ++ name place } → IsNamed word then slot → NamedNext old now then from slot place
  named_next old now word then from slot place s w l e f =
      let long = long-now old now from slot place s w in
      let k = next_slot old now from slot place s s.left refl (omega (arith, l, long)) in
      let o = k.first in
      let before = take from old.nodes ++ node_views from (fields_nodes 0 s.done) in
      let inner = node_views (suc slot) (slot_descendants o) in
      let tail = node_views (slot + length (slot_nodes o)) (frame_nodes k.others) in
      let text : word.word ≡ name place = ap (λ (x : NodeList). x.word) e ∙ ap (λ (x : NodeList). x.word ++ name place) s.nodes in
      let split : word.nodes ≡ before ++ (node_view slot (nameless o) ∷ (inner ++ tail)) =
      ap (λ (x : NodeList). x.nodes) e ∙ ap (λ (x : NodeList). x.nodes) s.nodes ∙ ap (λ x. take from old.nodes ++ (node_views from (fields_nodes 0 s.done) ++ node_views slot (frame_nodes x))) k.left
      ∙ ap (λ x. take from old.nodes ++ (node_views from (fields_nodes 0 s.done) ++ x)) (node_views-append slot (slot_nodes o) (frame_nodes k.others)) ∙ sym (append_assoc (take from old.nodes) (node_views from (fields_nodes 0 s.done)) (node_view slot (nameless o) ∷ (inner ++ tail))) in
      let front : length before ≡ slot = omega (arith, length-append (take from old.nodes) (node_views from (fields_nodes 0 s.done)), length-node_views from (fields_nodes 0 s.done), fields-long 0 s.done, length-take-le from old.nodes w, s.here) in
      let done : then ≡ list_as (before ++ (node_view slot (name place, o) ∷ (inner ++ tail))) [] [] =
      f before (inner ++ tail) (node_view slot (nameless o)) split front ∙ ap (λ x. list_as (before ++ (node_view slot (x, o) ∷ (inner ++ tail))) [] []) text in
      let at : view_at then.nodes slot ≡ node_view slot (name place, o) =
      ap (λ (x : NodeList). view_at x.nodes slot) done ∙ get_or_at before (node_view slot (name place, o)) (inner ++ tail) no_node slot front in
      let end : (view_at then.nodes slot).end ≡ slot + length (slot_nodes o) = omega (arith, ap (λ (v : NodeView). v.end) at) in
      let spot : from + length (fields_nodes 0 s.done) ≡ slot = omega (arith, fields-long 0 s.done, s.here) in
      let nth : place ≡ 0 + length s.done = omega (arith, s.count) in
      let more : node_views from (fields_nodes 0 s.done) ++ (node_view slot (name place, o) ∷ inner) ≡ node_views from (fields_nodes 0 (s.done ++ (o ∷ []))) =
      ap (λ n. node_views from (fields_nodes 0 s.done) ++ node_views n ((name place, o) ∷ slot_descendants o)) (sym spot) ∙ sym (node_views-append from (fields_nodes 0 s.done) ((name place, o) ∷ slot_descendants o))
      ∙ ap (λ n. node_views from (fields_nodes 0 s.done ++ ((name n, o) ∷ slot_descendants o))) nth ∙ ap (node_views from) (sym (fields-push 0 s.done o)) in
      record {
        next = record {
          done = s.done ++ (o ∷ []);
          left = k.others;
          all = s.all ∙ ap (λ x. s.done ++ x) k.left ∙ sym (append_assoc s.done (o ∷ []) k.others);
          count = omega (arith, s.count, length-append s.done (o ∷ []));
          here = omega (arith, end, s.here, frame-push s.done o);
          nodes =
              done ∙ ap (λ x. list_as x [] []) (append_assoc (take from old.nodes) (node_views from (fields_nodes 0 s.done)) (node_view slot (name place, o) ∷ (inner ++ tail)))
              ∙ ap (λ x. list_as (take from old.nodes ++ x) [] []) (sym (append_assoc (node_views from (fields_nodes 0 s.done)) (node_view slot (name place, o) ∷ inner) tail) ∙ ap (λ x. x ++ tail) more)
              ∙ ap (λ n. list_as (take from old.nodes ++ (node_views from (fields_nodes 0 (s.done ++ (o ∷ []))) ++ node_views n (frame_nodes k.others))) [] []) (sym end);
          few = omega (arith, end, s.few);
        };
        grows = omega (arith, end);
        within = omega (arith, front, ap (λ (x : NodeList). length x.nodes) done, length-append before (node_view slot (name place, o) ∷ (inner ++ tail)));
        same = omega (arith, ap (λ (x : NodeList). length x.nodes) done, length-append before (node_view slot (name place, o) ∷ (inner ++ tail)), ap (λ (x : NodeList). length x.nodes) e, ap (λ (x : List NodeView). length x) split, length-append before (node_view slot (nameless o) ∷ (inner ++ tail)));
      }
