-- Subtrees that are moved.
use Rattle.std.proofs.Common.{◌≡◌, ℕ, suc, ◌+◌, ◌-◌, ◌<◌, ◌≤◌, List, [], ◌∷◌, ◌++◌, None, Some, length, take, drop, get_or, map, refl, sym, ap, subst, ◌∙◌, arith, append_assoc, length-append, length-drop}
use Rattle.std.specs.Prelude.{slice_range}
use Rattle.std.specs.List.{All}
use Rattle.std.proofs.lemmas.List.{append-nil, take_all, take_at, take_more, take-map, map-append, drop-map, length-map, get_or-map}
use Rattle.std.proofs.lemmas.List.Elements.{All-append, All-drop, All-map, All-take}
use Rattle.avn_nodes.specs.Preorder.{NamedSlot, preorder, slot_descendants}
use Rattle.avn_nodes.specs.NodeViews.{NodeView, node_view, node_views, view_at, no_node}
use Rattle.avn_nodes.specs.NodeLists.{NodeList}
use Rattle.avn_nodes.specs.NodeRanges.{HasRanges, view_of, moved_node, node_list}
use Rattle.avn_nodes.specs.Forest.{forest}
use Rattle.avn_nodes.specs.ForestLaws.{forest-trees, trees, trees-spots, no-later}
use Rattle.avn_nodes.specs.Subtrees.{Lists, first_slot, slot_at, HasSlot, subtrees_at}
use Rattle.avn_nodes.specs.declared.nodes.Node.{Node}
use Rattle.avn_nodes.proofs.Extending.{node_views-append, length-node_views}
use Rattle.avn_nodes.proofs.NodeForms.{list_as}
use Rattle.avn_nodes.proofs.Subtrees.{lists_first}

-- A node of a subtree that moves, as contracts see it.
abbrev pub moved_view : ℕ → ℕ → NodeView → NodeView
moved_view from to v = record v { end = v.end + to - from }

moved-one : (from to k : ℕ) (s : NamedSlot) → moved_view from to (node_view (from + k) s) ≡ node_view (to + k) s
moved-one from to k s =
    let n = length (slot_descendants s.1) in
    let e : suc (from + k + n) + to - from ≡ suc (to + k + n) = omega arith in
    ap (λ (x : ℕ). record (node_view (to + k) s) { end = x }) e

-- The nodes of a subtree at another place.
pub moved-views : (from to k : ℕ) (ss : List NamedSlot) → map (moved_view from to) (node_views (from + k) ss) ≡ node_views (to + k) ss
moved-views from to k [] = refl
moved-views from to k (s ∷ ss) =
    let e : suc (from + k) ≡ from + suc k = omega arith in
    let f : to + suc k ≡ suc (to + k) = omega arith in
    ap (λ v. v ∷ map (moved_view from to) (node_views (suc (from + k)) ss)) (moved-one from to k s)
    ∙ ap (λ j. node_view (to + k) s ∷ map (moved_view from to) (node_views j ss)) e
    ∙ ap (λ vs. node_view (to + k) s ∷ vs) (moved-views from to (suc k) ss ∙ ap (λ j. node_views j ss) f)

views-moved : (xs ys zs : List ℕ) (from to : ℕ) (ns : List Node) → map (view_of xs ys zs) (map (moved_node from to) ns) ≡ map (moved_view from to) (map (view_of xs ys zs) ns)
views-moved xs ys zs from to [] = refl
views-moved xs ys zs from to (n ∷ ns) = ap (λ vs. moved_view from to (view_of xs ys zs n) ∷ vs) (views-moved xs ys zs from to ns)

-- What a place lists is what stands there.
pub slot_at-is : (nodes : List NodeView) (i : ℕ) (s : NamedSlot) → Lists nodes i (s ∷ slot_descendants s.1) → slot_at nodes i ≡ s
unfolding trees
slot_at-is nodes i (name, Some t) h =
    let later = forest (i + length (preorder name t)) h.after in
    ap first_slot (ap (forest i) h.are ∙ forest-trees i (preorder name t) h.after ∙ ap (trees later) (sym (append-nil (preorder name t))) ∙ trees-spots later name t [])
slot_at-is nodes i (name, None) h =
    let later = forest (i + 1) h.after in
    ap first_slot (ap (forest i) h.are ∙ forest-trees i ((name, None) ∷ []) h.after ∙ ap (λ x. (name, None) ∷ x) (no-later later))

-- A slot that a place lists is there.
pub has_slot : (nodes : List NodeView) (i : ℕ) (s : NamedSlot) → Lists nodes i (s ∷ slot_descendants s.1) → HasSlot nodes i
has_slot nodes i s h = subst (λ x. Lists nodes i (x ∷ slot_descendants x.1)) (sym (slot_at-is nodes i s h)) h

-- The end of a subtree, by its first node.
pub slot_end : (nodes : List NodeView) (i : ℕ) → HasSlot nodes i → (i < length nodes) × ((view_at nodes i).end ≡ suc (i + length (slot_descendants (slot_at nodes i).1))) × ((view_at nodes i).end ≤ length nodes)
slot_end nodes i h =
    let s = slot_at nodes i in
    let f = lists_first nodes i s (slot_descendants s.1) h in
    let e : (view_at nodes i).end ≡ suc (i + length (slot_descendants s.1)) = ap (λ (v : NodeView). v.end) f.1 in
    let l = ap (λ (x : List NodeView). length x) h.are in
    (f.0, e, omega (arith, f.0, e, l, length-drop i nodes, length-append (node_views i (s ∷ slot_descendants s.1)) h.after, length-node_views i (s ∷ slot_descendants s.1)))

-- The nodes of a subtree.
slot_part : (nodes : List NodeView) (i end : ℕ) → HasSlot nodes i → end ≡ (view_at nodes i).end → slice_range nodes i end ≡ node_views i (slot_at nodes i ∷ slot_descendants (slot_at nodes i).1)
slot_part nodes i end h e =
    let ss = slot_at nodes i ∷ slot_descendants (slot_at nodes i).1 in
    let n : end - i ≡ length (node_views i ss) = omega (arith, e, (slot_end nodes i h).1, length-node_views i ss) in
    ap (take (end - i)) h.are ∙ ap (λ n. take n (node_views i ss ++ h.after)) n ∙ take_at (node_views i ss) h.after (length (node_views i ss)) refl

pub subtrees-push : (nodes : List NodeView) (is : List ℕ) (i : ℕ) → subtrees_at nodes (is ++ (i ∷ [])) ≡ subtrees_at nodes is ++ (slot_at nodes i ∷ slot_descendants (slot_at nodes i).1)
subtrees-push nodes [] i = append-nil (slot_at nodes i ∷ slot_descendants (slot_at nodes i).1)
subtrees-push nodes (j ∷ is) i =
    let s = slot_at nodes j ∷ slot_descendants (slot_at nodes j).1 in
    ap (λ x. s ++ x) (subtrees-push nodes is i) ∙ sym (append_assoc s (subtrees_at nodes is) (slot_at nodes i ∷ slot_descendants (slot_at nodes i).1))

module _ (xs ys zs : List ℕ) where
  abbrev pub view : Node → NodeView
  view = view_of xs ys zs

  -- A subtree more is moved behind the others.
  pub moved_more : (ns old new : List Node) (place to i end : ℕ) (is : List ℕ) → HasSlot (map view ns) i → end ≡ (view_at (map view ns) i).end → to ≡ place + length old → map view old ≡ node_views place (subtrees_at (map view ns) is)
      → new ≡ old ++ map (moved_node i to) (slice_range ns i end) → map view new ≡ node_views place (subtrees_at (map view ns) (is ++ (i ∷ [])))
  moved_more ns old new place to i end is h e t m p =
      let nodes = map view ns in
      let ss = slot_at nodes i ∷ slot_descendants (slot_at nodes i).1 in
      let part : map view (slice_range ns i end) ≡ node_views i ss =
      sym (take-map view (end - i) (drop i ns)) ∙ ap (take (end - i)) (sym (drop-map view i ns)) ∙ slot_part nodes i end h e in
      let zero : i + 0 ≡ i = omega arith in
      let nought : to + 0 ≡ place + length (subtrees_at nodes is) = omega (arith, t, sym (length-map old view), ap (λ (x : List NodeView). length x) m, length-node_views place (subtrees_at nodes is)) in
      ap (map view) p ∙ map-append view old (map (moved_node i to) (slice_range ns i end))
      ∙ ap (λ x. x ++ map view (map (moved_node i to) (slice_range ns i end))) m
      ∙ ap (λ x. node_views place (subtrees_at nodes is) ++ x) (views-moved xs ys zs i to (slice_range ns i end) ∙ ap (map (moved_view i to)) (part ∙ ap (λ j. node_views j ss) (sym zero)) ∙ moved-views i to 0 ss ∙ ap (λ j. node_views j ss) nought)
      ∙ sym (node_views-append place (subtrees_at nodes is) ss) ∙ ap (node_views place) (sym (subtrees-push nodes is i))

  moved_within : (from to : ℕ) (n : Node) → HasRanges xs ys zs n → HasRanges xs ys zs (moved_node from to n)
  moved_within from to n k = record { name = k.name; text = k.text; octets = k.octets; arcs = k.arcs }

  -- The nodes that were moved are the subtrees at these places.
  pub record AreMoved (ns moved : List Node) (place : ℕ) (is : List ℕ) : Type 0 where
    pub views : map view moved ≡ node_views place (subtrees_at (map view ns) is)
    pub ranges : All (HasRanges xs ys zs) moved

  -- The first node of a subtree, in the list that has it.
  pub record RawSlot (ns : List Node) (nodes : List NodeView) (i : ℕ) (n : Node) : Type 0 where
    pub below : i < length ns
    pub end : n.end ≡ (view_at nodes i).end
    pub order : i ≤ n.end
    pub within : n.end ≤ length ns

  pub raw_slot : (ns : List Node) (s : NodeList) (a b i : ℕ) (n : Node) → node_list xs ys zs ns a b ≡ s → HasSlot s.nodes i → n ≡ get_or ns i n → RawSlot ns s.nodes i n
  raw_slot ns s a b i n v h e =
      let nodes : map view ns ≡ s.nodes = ap (λ (x : NodeList). x.nodes) v in
      let long : length s.nodes ≡ length ns = sym (ap (λ (x : List NodeView). length x) nodes) ∙ length-map ns view in
      let k = slot_end s.nodes i h in
      let l : i < length ns = omega (arith, k.0, long) in
      let same : view_at s.nodes i ≡ view n = ap (λ (x : List NodeView). get_or x i no_node) (sym nodes) ∙ get_or-map view ns i n no_node l ∙ ap view (sym e) in
      let end : n.end ≡ (view_at s.nodes i).end = sym (ap (λ (x : NodeView). x.end) same) in
      record { below = l; end = end; order = omega (arith, end, k.1); within = omega (arith, end, k.2, long) }

  pub moved_next : (ns old new : List Node) (s : NodeList) (a b place to i j : ℕ) (n : Node) (order : List ℕ) → node_list xs ys zs ns a b ≡ s → All (HasRanges xs ys zs) ns → HasSlot s.nodes i → n ≡ get_or ns i n → to ≡ place + length old → AreMoved ns old place (take j order)
      → new ≡ old ++ map (moved_node i to) (slice_range ns i n.end) → j < length order → i ≡ get_or order j 0 → AreMoved ns new place (take (j + 1) order)
  moved_next ns old new s a b place to i j n order v all h e t m p l q =
      let nodes : map view ns ≡ s.nodes = ap (λ (x : NodeList). x.nodes) v in
      let raw = raw_slot ns s a b i n v h e in
      let more : take j order ++ (i ∷ []) ≡ take (j + 1) order = ap (λ x. take j order ++ (x ∷ [])) q ∙ sym (take_more order j 0 l) in
      let P : Node → Type 0 = HasRanges xs ys zs in
      record {
        views =
            moved_more ns old new place to i n.end (take j order) (subst (λ x. HasSlot x i) (sym nodes) h) (raw.end ∙ ap (λ (x : List NodeView). (view_at x i).end) (sym nodes)) t m.views p
            ∙ ap (λ x. node_views place (subtrees_at (map view ns) x)) more;
        ranges = subst (All P) (sym p) (All-append P old _ m.ranges (All-map P (moved_node i to) (slice_range ns i n.end) (All-take (λ x. P (moved_node i to x)) (n.end - i) (drop i ns) (All-drop (λ x. P (moved_node i to x)) i ns (λ k d g. moved_within i to (get_or ns k d) (all k d g))))));
      }

  pub arranged : (ns moved new : List Node) (place j : ℕ) (order : List ℕ) (s : NodeList) (a b : ℕ) → node_list xs ys zs ns a b ≡ s → new ≡ take place ns ++ moved → AreMoved ns moved place (take j order) → length order ≤ j
      → node_list xs ys zs new a b ≡ record s { nodes = take place s.nodes ++ node_views place (subtrees_at s.nodes order) }
  arranged ns moved new place j order s a b v e m l =
      ap (λ cs. list_as cs (slice_range xs a b) (drop b xs))
      (ap (map view) e ∙ map-append view (take place ns) moved ∙ ap (λ x. x ++ map view moved) (sym (take-map view place ns))
      ∙ ap (λ x. take place (map view ns) ++ x) (m.views ∙ ap (λ x. node_views place (subtrees_at (map view ns) x)) (take_all j order l)))
      ∙ ap (λ (x : NodeList). list_as (take place x.nodes ++ node_views place (subtrees_at x.nodes order)) x.name x.word) v

  pub arranged_within : (ns moved new : List Node) (place : ℕ) (is : List ℕ) → new ≡ take place ns ++ moved → AreMoved ns moved place is → All (HasRanges xs ys zs) ns → All (HasRanges xs ys zs) new
  arranged_within ns moved new place is e m all = let P : Node → Type 0 = HasRanges xs ys zs in subst (All P) (sym e) (All-append P (take place ns) moved (All-take P place ns all) m.ranges)

  pub shortened : (ns new : List Node) (count : ℕ) (s : NodeList) (a b : ℕ) → node_list xs ys zs ns a b ≡ s → new ≡ take count ns → node_list xs ys zs new a b ≡ record s { nodes = take count s.nodes }
  shortened ns new count s a b v e =
      ap (λ cs. list_as cs (slice_range xs a b) (drop b xs)) (ap (map view) e ∙ sym (take-map view count ns)) ∙ ap (λ (x : NodeList). list_as (take count x.nodes) x.name x.word) v
