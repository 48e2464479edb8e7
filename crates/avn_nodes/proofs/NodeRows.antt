-- Rows of the nodes within a node, as a printer writes them.
use Rattle.std.proofs.Common.{◌≡◌, ◌≢◌, ℕ, suc, ◌+◌, ◌<◌, ◌≤◌, List, [], ◌∷◌, Option, Some, None, length, refl, sym, ap, subst, ◌∙◌, arith}
use Rattle.avn_grammar.specs.Tree.{Tree, Trees, Fields, sequence, sequence_of, choice, no_trees, tree, no_fields}
use Rattle.avn_nodes.specs.NodeViews.{NodeView, node_view, view_at, kind_of}
use Rattle.avn_nodes.specs.Preorder.{NamedSlot, preorder, descendants, slot_descendants, node_at, tree_at, node_count}
use Rattle.avn_nodes.specs.Subtrees.{Lists, tree_from, HasTree}
use Rattle.avn_nodes.specs.declared.node_kind.NodeKind.{NodeKind}
use Rattle.avn_nodes.specs.declared.node_kind.NodeKind.TheVariants as kind
use Rattle.avn_nodes.proofs.JoinedFields.{join}
use Rattle.avn_nodes.proofs.Rows.{count_of, present, count-more, present-more}
use Rattle.avn_nodes.proofs.Subtrees.{lists_first, lists_within, has_tree, tree_from-is}
use Rattle.avn_nodes.proofs.Walks.{entry, chained, join-next, chained-next, kind_absent, kind_not_absent, some_is, payload_at, Fielding, fielding_begun, fielding_first, fielding_more, fielding_done, Listing, listing_begun, listing_first, listing_more, listing_done}

-- A node that lists a tree stands below the number of nodes, and says what the tree is.
pub tree_here : (nodes : List NodeView) (i : ℕ) → (h : HasTree nodes i) → (i < length nodes) × (view_at nodes i ≡ node_view i (h.0, Some (tree_from nodes i)))
tree_here nodes i h = lists_first nodes i (h.0, Some (tree_from nodes i)) (descendants (tree_from nodes i)) h.1

-- The nodes within a tree end past its nodes.
pub tree_end : (nodes : List NodeView) (i : ℕ) → HasTree nodes i → (view_at nodes i).end ≡ i + node_count (tree_from nodes i)
tree_end nodes i h = omega (arith, ap (λ (v : NodeView). v.end) (tree_here nodes i h).1)

-- What the kind of a node says of its tree.
pub kind_here : (nodes : List NodeView) (i : ℕ) (k : NodeKind) → HasTree nodes i → k ≡ (view_at nodes i).kind → kind_of (Some (tree_from nodes i)) ≡ k
kind_here nodes i k h e = sym (e ∙ ap (λ (v : NodeView). v.kind) (tree_here nodes i h).1)

-- What stands at a node within another.
pub record Child (nodes : List NodeView) (i : ℕ) (id : List ℕ) (slot : Option Tree) : Type 0 where
  pub below : i < length nodes
  pub view : view_at nodes i ≡ node_view i (id, slot)
  pub has : (t : Tree) → slot ≡ Some t → HasTree nodes i × (tree_from nodes i ≡ t)

within : (nodes : List NodeView) (i j c : ℕ) (id : List ℕ) (slot : Option Tree) → c ≡ i + j → HasTree nodes i → 0 < j → j < node_count (tree_from nodes i) → node_at (tree_from nodes i) j ≡ (id, slot) → Child nodes c id slot
within nodes i j c id slot a h z l e =
    let t = tree_from nodes i in
    let all = lists_within nodes i h.0 t h.1 j z l in
    let k : Lists nodes c ((id, slot) ∷ slot_descendants slot) = subst (λ n. Lists nodes n ((id, slot) ∷ slot_descendants slot)) (sym a) (subst (λ (s : NamedSlot). Lists nodes (i + j) (s ∷ slot_descendants s.1)) e all) in
    let q = lists_first nodes c (id, slot) (slot_descendants slot) k in record {
      below = q.0;
      view = q.1;
      has = λ u is.
          let m : Lists nodes c (preorder id u) = subst (λ o. Lists nodes c ((id, o) ∷ slot_descendants o)) is k in
          (has_tree nodes c id u m, tree_from-is nodes c id u m);
    }

-- A child that is no absent field has a tree.
pub child_present : (nodes : List NodeView) (i : ℕ) (id : List ℕ) (slot : Option Tree) (k : NodeKind) → Child nodes i id slot → k ≡ (view_at nodes i).kind → k ≢ kind.Absent → (t : Tree) × (slot ≡ Some t)
child_present nodes i id slot k h e n = kind_not_absent slot (λ a. n (e ∙ ap (λ (v : NodeView). v.kind) h.view ∙ a))

pub child_absent : (nodes : List NodeView) (i : ℕ) (id : List ℕ) (slot : Option Tree) (k : NodeKind) → Child nodes i id slot → k ≡ (view_at nodes i).kind → k ≡ kind.Absent → slot ≡ None
child_absent nodes i id slot k h e a = kind_absent slot (sym (ap (λ (v : NodeView). v.kind) h.view) ∙ sym e ∙ a)

-- The payload of a choice.
pub record Payload (nodes : List NodeView) (node : ℕ) : Type 0 where
  pub id : List ℕ
  pub item : Tree
  pub here : Child nodes (node + 1) id (Some item)
  pub is : choice id item ≡ tree_from nodes node

pub payload_here : (nodes : List NodeView) (node : ℕ) → HasTree nodes node → kind_of (Some (tree_from nodes node)) ≡ kind.Choice → Payload nodes node
payload_here nodes node h e =
    let p = payload_at (tree_from nodes node) 0 (omega arith) e in record {
      id = p.0;
      item = p.1;
      here = within nodes node 1 (node + 1) p.0 (Some p.1) refl h (omega arith) p.3 p.4;
      is = sym (some_is _ _ p.2);
    }

-- The fields of a node that were written, up to a child.
pub record FieldsWritten (nodes : List NodeView) (node child row : ℕ) : Type 0 where
  pub place : ℕ
  pub done : Fields
  pub at : child ≡ node + place
  pub walk : Fielding (tree_from nodes node) 0 place (node_count (tree_from nodes node)) done
  pub rows : row ≡ present done
  pub few : row < child

pub fields_begun : (nodes : List NodeView) (node child row : ℕ) → kind_of (Some (tree_from nodes node)) ≡ kind.Sequence → child ≡ node + 1 → row ≡ 0 → (w : FieldsWritten nodes node child row) × (no_fields ≡ w.done)
fields_begun nodes node child row e c r = (
  record {
    place = 1;
    done = no_fields;
    at = c;
    walk = fielding_begun (tree_from nodes node) 0 (node_count (tree_from nodes node)) (omega arith) e (omega arith);
    rows = r;
    few = omega (arith, c, r);
  },
  refl,
)

-- A row at most is written for a field.
fewer : (row after child then : ℕ) (id : List ℕ) (slot : Option Tree) → child < then → after ≡ row + present (entry id slot no_fields) → row < child → after < then
fewer row after child then id (Some t) l r f = omega (arith, r)
fewer row after child then id None l r f = omega (arith, r)

-- The child that comes next, and the fields written once it is.
pub record NextField (nodes : List NodeView) (node child row : ℕ) (w : FieldsWritten nodes node child row) : Type 0 where
  pub id : List ℕ
  pub slot : Option Tree
  pub here : Child nodes child id slot
  pub later : node < child
  pub next : (then after : ℕ) → then ≡ (view_at nodes child).end → after ≡ row + present (entry id slot no_fields) → (k : FieldsWritten nodes node then after) × (k.done ≡ join w.done (entry id slot no_fields))

pub fields_next : (nodes : List NodeView) (node child row end : ℕ) → (w : FieldsWritten nodes node child row) → HasTree nodes node → end ≡ (view_at nodes node).end → child < end → NextField nodes node child row w
fields_next nodes node child row end w h is l =
    let t = tree_from nodes node in
    let f = fielding_first t 0 w.place (node_count t) w.done w.walk (omega (arith, w.at, is, tree_end nodes node h)) in
    let here = within nodes node w.place child f.id f.slot w.at h w.walk.after f.below f.here in record {
      id = f.id;
      slot = f.slot;
      here = here;
      later = omega (arith, w.at, w.walk.after);
      next = λ then after e r.
          let size : (view_at nodes child).end ≡ suc (child + length (slot_descendants f.slot)) = ap (λ (v : NodeView). v.end) here.view in
          let same : length (slot_descendants (tree_at t w.place)) ≡ length (slot_descendants f.slot) = ap (λ (s : NamedSlot). length (slot_descendants s.1)) f.here in
          let place = w.place + length (slot_descendants f.slot) + 1 in
          let done = join w.done (entry f.id f.slot no_fields) in (
            record {
              place = place;
              done = done;
              at = omega (arith, e, size, w.at);
              walk = fielding_more t 0 w.place (node_count t) place w.done done w.walk f (omega (arith, same)) (join-next w.done f.others f.id f.slot);
              rows = omega (arith, r, w.rows, present-more w.done f.id f.slot);
              few = fewer row after child then f.id f.slot (omega (arith, e, size)) r w.few;
            },
            refl,
          );
    }

pub fields_all : (nodes : List NodeView) (node child row end : ℕ) → (w : FieldsWritten nodes node child row) → HasTree nodes node → end ≡ (view_at nodes node).end → end ≤ child → sequence w.done ≡ tree_from nodes node
fields_all nodes node child row end w h is l =
    sym (some_is _ _ (fielding_done (tree_from nodes node) 0 w.place (node_count (tree_from nodes node)) w.done w.walk (omega (arith, w.at, is, tree_end nodes node h))))

-- The values of a list that were written, up to a child.
pub record ListWritten (nodes : List NodeView) (node child row : ℕ) : Type 0 where
  pub place : ℕ
  pub done : Trees
  pub at : child ≡ node + place
  pub walk : Listing (tree_from nodes node) 0 place (node_count (tree_from nodes node)) done
  pub rows : row ≡ count_of done
  pub few : row < child

pub list_begun : (nodes : List NodeView) (node child row : ℕ) → kind_of (Some (tree_from nodes node)) ≡ kind.SequenceOf → child ≡ node + 1 → row ≡ 0 → (w : ListWritten nodes node child row) × (no_trees ≡ w.done)
list_begun nodes node child row e c r = (
  record {
    place = 1;
    done = no_trees;
    at = c;
    walk = listing_begun (tree_from nodes node) 0 (node_count (tree_from nodes node)) (omega arith) e (omega arith);
    rows = r;
    few = omega (arith, c, r);
  },
  refl,
)

-- The child that comes next, and the values written once it is.
pub record NextItem (nodes : List NodeView) (node child row : ℕ) (w : ListWritten nodes node child row) : Type 0 where
  pub item : Tree
  pub here : Child nodes child [] (Some item)
  pub later : node < child
  pub next : (then after : ℕ) → then ≡ (view_at nodes child).end → after ≡ row + 1 → (k : ListWritten nodes node then after) × (k.done ≡ chained w.done (tree item no_trees))

pub list_next : (nodes : List NodeView) (node child row end : ℕ) → (w : ListWritten nodes node child row) → HasTree nodes node → end ≡ (view_at nodes node).end → child < end → NextItem nodes node child row w
list_next nodes node child row end w h is l =
    let t = tree_from nodes node in
    let f = listing_first t 0 w.place (node_count t) w.done w.walk (omega (arith, w.at, is, tree_end nodes node h)) in
    let here = within nodes node w.place child [] (Some f.item) w.at h w.walk.after f.below f.here in record {
      item = f.item;
      here = here;
      later = omega (arith, w.at, w.walk.after);
      next = λ then after e r.
          let size : (view_at nodes child).end ≡ suc (child + length (descendants f.item)) = ap (λ (v : NodeView). v.end) here.view in
          let same : length (slot_descendants (tree_at t w.place)) ≡ length (descendants f.item) = ap (λ (s : NamedSlot). length (slot_descendants s.1)) f.here in
          let place = w.place + length (descendants f.item) + 1 in
          let done = chained w.done (tree f.item no_trees) in (
            record {
              place = place;
              done = done;
              at = omega (arith, e, size, w.at);
              walk = listing_more t 0 w.place (node_count t) place w.done done w.walk f (omega (arith, same)) (chained-next w.done f.others f.item);
              rows = omega (arith, r, w.rows, count-more w.done f.item);
              few = omega (arith, e, size, r, w.few);
            },
            refl,
          );
    }

pub list_all : (nodes : List NodeView) (node child row end : ℕ) → (w : ListWritten nodes node child row) → HasTree nodes node → end ≡ (view_at nodes node).end → end ≤ child → sequence_of w.done ≡ tree_from nodes node
list_all nodes node child row end w h is l =
    sym (some_is _ _ (listing_done (tree_from nodes node) 0 w.place (node_count (tree_from nodes node)) w.done w.walk (omega (arith, w.at, is, tree_end nodes node h))))
