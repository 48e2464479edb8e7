-- Trees that nodes list from a place on, and the nodes within them.
use Rattle.std.proofs.Common.{◌≡◌, ℕ, zero, suc, ◌+◌, ◌<◌, ◌≤◌, List, [], ◌∷◌, ◌++◌, Some, length, get_or, drop, sym, ap, subst, ◌∙◌, arith, append_assoc, length-drop}
use Rattle.std.proofs.lemmas.List.{drop-drop, get_or-drop, append-nil}
use Rattle.avn_grammar.specs.Tree.{Tree}
use Rattle.avn_nodes.specs.Preorder.{NamedSlot, preorder, slot_descendants, node_at, tree_at, node_count}
use Rattle.avn_nodes.specs.NodeViews.{NodeView, node_view, node_views, view_at, no_node}
use Rattle.avn_nodes.specs.ForestLaws.{first_tree-node_views}
use Rattle.avn_nodes.specs.Forest.{forest, first_tree}
use Rattle.avn_nodes.specs.Subtrees.{Lists, tree_from, HasTree}
use Rattle.avn_nodes.proofs.Extending.{node_views-append}
use Rattle.avn_nodes.proofs.Descendants.{under}

-- The tree that nodes list from a place on is the one that they list first there.
pub tree_from-is : (nodes : List NodeView) (i : ℕ) (name : List ℕ) (t : Tree) → Lists nodes i (preorder name t) → tree_from nodes i ≡ t
tree_from-is nodes i name t h = ap (λ cs. first_tree (forest i cs)) h.are ∙ first_tree-node_views i name t h.after

pub has_tree : (nodes : List NodeView) (i : ℕ) (name : List ℕ) (t : Tree) → Lists nodes i (preorder name t) → HasTree nodes i
has_tree nodes i name t h = (name, subst (λ x. Lists nodes i (preorder name x)) (sym (tree_from-is nodes i name t h)) h)

-- The first of the nodes from a place on.
pub lists_first : (nodes : List NodeView) (i : ℕ) (s : NamedSlot) (ss : List NamedSlot) → Lists nodes i (s ∷ ss) → (i < length nodes) × (view_at nodes i ≡ node_view i s)
lists_first nodes i s ss h =
    let l : length (drop i nodes) ≡ suc (length (node_views (suc i) ss ++ h.after)) = ap (λ (x : List NodeView). length x) h.are in
    let e : i + 0 ≡ i = omega arith in
    (omega (arith, l, length-drop i nodes), ap (λ k. get_or nodes k no_node) (sym e) ∙ sym (get_or-drop i nodes 0 no_node) ∙ ap (λ x. get_or x 0 no_node) h.are)

drop-node_views : (n i : ℕ) (ss : List NamedSlot) (after : List NodeView) → n ≤ length ss → drop n (node_views i ss ++ after) ≡ node_views (i + n) (drop n ss) ++ after
drop-node_views zero i ss after h = let e : i ≡ i + 0 = omega arith in ap (λ k. node_views k ss ++ after) e
drop-node_views (suc n) i [] after h = absurd (omega arith)
drop-node_views (suc n) i (s ∷ ss) after h = let e : suc i + n ≡ i + suc n = omega arith in drop-node_views n (suc i) ss after (omega arith) ∙ ap (λ k. node_views k (drop n ss) ++ after) e

-- The nodes from a later place on.
pub lists_part : (nodes : List NodeView) (i : ℕ) (ss : List NamedSlot) → Lists nodes i ss → (j : ℕ) → j ≤ length ss → (xs rest : List NamedSlot) → drop j ss ≡ xs ++ rest → Lists nodes (i + j) xs
lists_part nodes i ss h j l xs rest e = record {
  after = node_views (i + j + length xs) rest ++ h.after;
  are =
      sym (drop-drop j i nodes) ∙ ap (drop j) h.are ∙ drop-node_views j i ss h.after l ∙ ap (λ x. node_views (i + j) x ++ h.after) e
      ∙ ap (λ x. x ++ h.after) (node_views-append (i + j) xs rest) ∙ append_assoc (node_views (i + j) xs) (node_views (i + j + length xs) rest) h.after;
}

-- A node within a tree, and the nodes within it.
pub lists_within : (nodes : List NodeView) (i : ℕ) (name : List ℕ) (t : Tree) → Lists nodes i (preorder name t) → (j : ℕ) → 0 < j → j < node_count t → Lists nodes (i + j) (node_at t j ∷ slot_descendants (tree_at t j))
lists_within nodes i name t h zero z l = absurd (omega arith)
lists_within nodes i name t h (suc k) z l =
    let u = under t (suc k) l in
    lists_part nodes i (preorder name t) h (suc k) (omega arith) (node_at t (suc k) ∷ slot_descendants (tree_at t (suc k))) u.0 u.1

-- A table lists the tree at each node.
pub table_lists : (nodes : List NodeView) (t : Tree) → nodes ≡ node_views 0 (preorder [] t) → (i : ℕ) → i < node_count t → Lists nodes i (node_at t i ∷ slot_descendants (tree_at t i))
table_lists nodes t e i l =
    let all : Lists nodes 0 (preorder [] t) = record { after = []; are = e ∙ sym (append-nil (node_views 0 (preorder [] t))) } in
    let u = under t i l in
    let z : 0 + i ≡ i = omega arith in
    subst (λ k. Lists nodes k (node_at t i ∷ slot_descendants (tree_at t i))) z (lists_part nodes 0 (preorder [] t) all i (omega arith) (node_at t i ∷ slot_descendants (tree_at t i)) u.0 u.1)

pub table_tree : (nodes : List NodeView) (t : Tree) → nodes ≡ node_views 0 (preorder [] t) → (i : ℕ) → i < node_count t → (u : Tree) → tree_at t i ≡ Some u → HasTree nodes i × (tree_from nodes i ≡ u)
table_tree nodes t e i l u is =
    let id = (node_at t i).0 in
    let k : Lists nodes i (preorder id u) = subst (λ o. Lists nodes i ((id, o) ∷ slot_descendants o)) is (table_lists nodes t e i l) in
    (has_tree nodes i id u k, tree_from-is nodes i id u k)
