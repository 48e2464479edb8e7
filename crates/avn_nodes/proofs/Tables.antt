-- What a table's nodes say of the tree.
use Rattle.std.proofs.Common.{◌≡◌, ℕ, zero, suc, ◌+◌, ◌<◌, List, [], ◌∷◌, None, length, get_or, ap, sym, ◌∙◌, arith}
use Rattle.avn_grammar.specs.Tree.{Tree}
use Rattle.avn_nodes.proofs.Extending.{length-node_views}
use Rattle.avn_nodes.specs.NodeViews.{NodeView, node_view, node_views, view_at, no_node}
use Rattle.avn_nodes.specs.ForestLaws.{tree_of_nodes-node_views}
use Rattle.avn_nodes.specs.NodeLists.{NodeList, no_nodes, extended}
use Rattle.avn_nodes.specs.Forest.{tree_of_nodes}
use Rattle.avn_nodes.specs.Preorder.{NamedSlot, preorder, node_at, node_count}

get_or-node_views : (j i : ℕ) (ss : List NamedSlot) (d : NodeView) (s : NamedSlot) → i < length ss → get_or (node_views j ss) i d ≡ node_view (j + i) (get_or ss i s)
get_or-node_views j i [] d s h = absurd (omega arith)
get_or-node_views j zero (x ∷ ss) d s h = let e : j ≡ j + 0 = omega arith in ap (λ k. node_view k x) e
get_or-node_views j (suc i) (x ∷ ss) d s h = let e : suc j + i ≡ j + suc i = omega arith in get_or-node_views (suc j) i ss d s (omega arith) ∙ ap (λ k. node_view k (get_or ss i s)) e

-- The nodes of a table, which is seen as the tree.
module _ (nodes : List NodeView) (t : Tree) (held : nodes ≡ node_views 0 (preorder [] (tree_of_nodes nodes))) (is : tree_of_nodes nodes ≡ t) where
  pub table_nodes : nodes ≡ node_views 0 (preorder [] t)
  table_nodes = held ∙ ap (λ x. node_views 0 (preorder [] x)) is

  pub table_size : length nodes ≡ node_count t
  table_size = ap (λ (x : List NodeView). length x) table_nodes ∙ length-node_views 0 (preorder [] t)

  pub table_below : (i : ℕ) → i < node_count t → i < length nodes
  table_below i h = omega (arith, table_size)

  pub table_at : (i : ℕ) → i < node_count t → view_at nodes i ≡ node_view i (node_at t i)
  table_at i h = let e : 0 + i ≡ i = omega arith in ap (λ cs. get_or cs i no_node) table_nodes ∙ get_or-node_views 0 i (preorder [] t) no_node ([], None) h ∙ ap (λ k. node_view k (node_at t i)) e

-- The nodes of one tree are a table of it.
pub table_holds : (s : NodeList) (t : Tree) → s ≡ extended no_nodes (preorder [] t) → (s.nodes ≡ node_views 0 (preorder [] (tree_of_nodes s.nodes))) × (tree_of_nodes s.nodes ≡ t)
table_holds s t e =
    let nodes = ap (λ (x : NodeList). x.nodes) e in
    let same = ap tree_of_nodes nodes ∙ tree_of_nodes-node_views t in
    (nodes ∙ ap (λ x. node_views 0 (preorder [] x)) (sym same), same)

pub new_holds : (s0 s : NodeList) (t : Tree) → s0 ≡ no_nodes → s ≡ extended s0 (preorder s0.name t) → (s.nodes ≡ node_views 0 (preorder [] (tree_of_nodes s.nodes))) × (tree_of_nodes s.nodes ≡ t)
new_holds s0 s t e f = table_holds s t (f ∙ ap (λ (x : NodeList). extended x (preorder x.name t)) e)
