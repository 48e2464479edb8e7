-- The nodes of a tree list it.
use Rattle.std.proofs.Common.{◌≡◌, ℕ, suc, add-zero, ◌+◌, ◌-◌, List, [], ◌∷◌, ◌++◌, Some, None, length, refl, sym, ap, ◌∙◌, append_assoc, length-append}
use Rattle.avn_grammar.specs.Tree.{Tree, Trees, Fields, boolean, null, integer, real, octet_string, bit_string, oid, enumerated, char_string, sequence, sequence_of, choice, no_trees, tree, no_fields, field, absent}
use Rattle.avn_nodes.specs.Preorder.{NamedSlot, descendants, fields_preorder, list_preorder, preorder, slot_descendants}
use Rattle.avn_nodes.specs.NodeViews.{NodeView, node_view, node_views}
use Rattle.avn_nodes.specs.Forest.{first_trees, later_trees, fields_of_trees, list_of_trees, planted, forest, tree_of_nodes, first_tree}
use Rattle.std.proofs.lemmas.List.{append-nil}
use Rattle.std.proofs.Math.Nat.{suc-sub-suc, add-sub_cancel_left, sub-zero, sub_self, suc-add, add-suc}

within : (i n : ℕ) → suc (i + n) - suc i ≡ n
within i n = suc-sub-suc (i + n) i ∙ add-sub_cancel_left i n

-- The fields and the values of a list, each with its name.
field_tops : Fields → List NamedSlot
field_tops no_fields = []
field_tops (field id t fs) = (id, Some t) ∷ field_tops fs
field_tops (absent id fs) = (id, None) ∷ field_tops fs

item_tops : Trees → List NamedSlot
item_tops no_trees = []
item_tops (tree t ts) = ([], Some t) ∷ item_tops ts

fields_in-tops : (fs : Fields) → fields_of_trees (field_tops fs) ≡ fs
unfolding field_tops
fields_in-tops no_fields = refl
fields_in-tops (field id t fs) = ap (field id t) (fields_in-tops fs)
fields_in-tops (absent id fs) = ap (absent id) (fields_in-tops fs)

trees_in-tops : (ts : Trees) → list_of_trees (item_tops ts) ≡ ts
unfolding item_tops
trees_in-tops no_trees = refl
trees_in-tops (tree t ts) = ap (tree t) (trees_in-tops ts)

no-first : (ss : List NamedSlot) → first_trees 0 ss ≡ []
no-first [] = refl
no-first (s ∷ ss) = refl

pub no-later : (ss : List NamedSlot) → later_trees 0 ss ≡ ss
no-later [] = refl
no-later (s ∷ ss) = refl

front : (a b : List NamedSlot) → length (a ++ b) - length a ≡ length b
front a b = ap (λ k. k - length a) (length-append a b) ∙ add-sub_cancel_left (length a) (length b)

none-off : (n : ℕ) → n - 0 ≡ n
none-off n = sub-zero n

first-fields : (fs : Fields) (ss : List NamedSlot) → first_trees (length (fields_preorder fs)) (field_tops fs ++ ss) ≡ field_tops fs
unfolding field_tops descendants
first-fields no_fields ss = no-first ss
first-fields (field id t fs) ss = ap (λ n. (id, Some t) ∷ first_trees n (field_tops fs ++ ss)) (front (descendants t) (fields_preorder fs)) ∙ ap (λ x. (id, Some t) ∷ x) (first-fields fs ss)
first-fields (absent id fs) ss = ap (λ n. (id, None) ∷ first_trees n (field_tops fs ++ ss)) (none-off (length (fields_preorder fs))) ∙ ap (λ x. (id, None) ∷ x) (first-fields fs ss)

later-fields : (fs : Fields) (ss : List NamedSlot) → later_trees (length (fields_preorder fs)) (field_tops fs ++ ss) ≡ ss
unfolding field_tops descendants
later-fields no_fields ss = no-later ss
later-fields (field id t fs) ss = ap (λ n. later_trees n (field_tops fs ++ ss)) (front (descendants t) (fields_preorder fs)) ∙ later-fields fs ss
later-fields (absent id fs) ss = ap (λ n. later_trees n (field_tops fs ++ ss)) (none-off (length (fields_preorder fs))) ∙ later-fields fs ss

first-items : (ts : Trees) (ss : List NamedSlot) → first_trees (length (list_preorder ts)) (item_tops ts ++ ss) ≡ item_tops ts
unfolding item_tops descendants
first-items no_trees ss = no-first ss
first-items (tree t ts) ss = ap (λ n. ([], Some t) ∷ first_trees n (item_tops ts ++ ss)) (front (descendants t) (list_preorder ts)) ∙ ap (λ x. ([], Some t) ∷ x) (first-items ts ss)

later-items : (ts : Trees) (ss : List NamedSlot) → later_trees (length (list_preorder ts)) (item_tops ts ++ ss) ≡ ss
unfolding item_tops descendants
later-items no_trees ss = no-later ss
later-items (tree t ts) ss = ap (λ n. later_trees n (item_tops ts ++ ss)) (front (descendants t) (list_preorder ts)) ∙ later-items ts ss

-- The trees of what stands at nodes, before later ones: of a value, of fields and of a list's values.
module _ (later : List NamedSlot) where
  unfoldable pub trees : List NamedSlot → List NamedSlot
  trees [] = later
  trees (s ∷ ss) = planted (node_view 0 s) (length (slot_descendants s.1)) (trees ss)

  mutual
    unfolding trees descendants field_tops item_tops

    pub trees-spots : (name : List ℕ) (t : Tree) (ss : List NamedSlot) → trees (preorder name t ++ ss) ≡ (name, Some t) ∷ trees ss
    trees-spots name (boolean b) ss = ap (λ x. (name, Some (boolean b)) ∷ x) (no-later (trees ss))
    trees-spots name (null) ss = ap (λ x. (name, Some (null)) ∷ x) (no-later (trees ss))
    trees-spots name (integer n) ss = ap (λ x. (name, Some (integer n)) ∷ x) (no-later (trees ss))
    trees-spots name (real n) ss = ap (λ x. (name, Some (real n)) ∷ x) (no-later (trees ss))
    trees-spots name (octet_string o) ss = ap (λ x. (name, Some (octet_string o)) ∷ x) (no-later (trees ss))
    trees-spots name (bit_string o n) ss = ap (λ x. (name, Some (bit_string o n)) ∷ x) (no-later (trees ss))
    trees-spots name (oid a) ss = ap (λ x. (name, Some (oid a)) ∷ x) (no-later (trees ss))
    trees-spots name (enumerated n) ss = ap (λ x. (name, Some (enumerated n)) ∷ x) (no-later (trees ss))
    trees-spots name (char_string n) ss = ap (λ x. (name, Some (char_string n)) ∷ x) (no-later (trees ss))
    trees-spots name (sequence fs) ss =
        ap (planted (node_view 0 (name, Some (sequence fs))) (length (fields_preorder fs))) (trees-fields fs ss) ∙ ap (λ x. (name, Some (sequence (fields_of_trees x))) ∷ later_trees (length (fields_preorder fs)) (field_tops fs ++ trees ss)) (first-fields fs (trees ss))
        ∙ ap (λ x. (name, Some (sequence x)) ∷ later_trees (length (fields_preorder fs)) (field_tops fs ++ trees ss)) (fields_in-tops fs) ∙ ap (λ x. (name, Some (sequence fs)) ∷ x) (later-fields fs (trees ss))
    trees-spots name (sequence_of ts) ss =
        ap (planted (node_view 0 (name, Some (sequence_of ts))) (length (list_preorder ts))) (trees-items ts ss) ∙ ap (λ x. (name, Some (sequence_of (list_of_trees x))) ∷ later_trees (length (list_preorder ts)) (item_tops ts ++ trees ss)) (first-items ts (trees ss))
        ∙ ap (λ x. (name, Some (sequence_of x)) ∷ later_trees (length (list_preorder ts)) (item_tops ts ++ trees ss)) (trees_in-tops ts) ∙ ap (λ x. (name, Some (sequence_of ts)) ∷ x) (later-items ts (trees ss))
    trees-spots name (choice id t) ss =
        ap (planted (node_view 0 (name, Some (choice id t))) (suc (length (descendants t)))) (trees-spots id t ss) ∙ ap (λ n. (name, Some (choice id t)) ∷ later_trees n (trees ss)) (sub_self (length (descendants t))) ∙ ap (λ x. (name, Some (choice id t)) ∷ x) (no-later (trees ss))

    trees-fields : (fs : Fields) (ss : List NamedSlot) → trees (fields_preorder fs ++ ss) ≡ field_tops fs ++ trees ss
    trees-fields no_fields ss = refl
    trees-fields (field id t fs) ss = ap trees (append_assoc ((id, Some t) ∷ descendants t) (fields_preorder fs) ss) ∙ trees-spots id t (fields_preorder fs ++ ss) ∙ ap (λ x. (id, Some t) ∷ x) (trees-fields fs ss)
    trees-fields (absent id fs) ss = ap (λ x. (id, None) ∷ x) (no-later (trees (fields_preorder fs ++ ss)) ∙ trees-fields fs ss)

    trees-items : (ts : Trees) (ss : List NamedSlot) → trees (list_preorder ts ++ ss) ≡ item_tops ts ++ trees ss
    trees-items no_trees ss = refl
    trees-items (tree t ts) ss = ap trees (append_assoc (([], Some t) ∷ descendants t) (list_preorder ts) ss) ∙ trees-spots [] t (list_preorder ts ++ ss) ∙ ap (λ x. ([], Some t) ∷ x) (trees-items ts ss)

-- The nodes for what stands there list those trees, before the ones that the nodes after them list.
pub forest-trees : (i : ℕ) (ss : List NamedSlot) (after : List NodeView) → forest i (node_views i ss ++ after) ≡ trees (forest (i + length ss) after) ss
unfolding forest trees
forest-trees i [] after = ap (λ k. forest k after) (sym (add-zero i))
forest-trees i (s ∷ ss) after =
    ap (λ n. planted (node_view i s) n (forest (suc i) (node_views (suc i) ss ++ after))) (within i (length (slot_descendants s.1)))
    ∙ ap (planted (node_view 0 s) (length (slot_descendants s.1))) (forest-trees (suc i) ss after ∙ ap (λ k. trees (forest k after) ss) (suc-add i (length ss) ∙ sym (add-suc i (length ss))))

-- The nodes of a tree list it, whatever follows them.
pub first_tree-node_views : (i : ℕ) (name : List ℕ) (t : Tree) (after : List NodeView) → first_tree (forest i (node_views i (preorder name t) ++ after)) ≡ t
unfolding trees
first_tree-node_views i name t after =
    let later = forest (i + length (preorder name t)) after in
    ap first_tree (forest-trees i (preorder name t) after ∙ ap (trees later) (sym (append-nil (preorder name t))) ∙ trees-spots later name t [])

-- The nodes of a tree list it.
pub tree_of_nodes-node_views : (t : Tree) → tree_of_nodes (node_views 0 (preorder [] t)) ≡ t
tree_of_nodes-node_views t = ap (λ cs. first_tree (forest 0 cs)) (sym (append-nil (node_views 0 (preorder [] t)))) ∙ first_tree-node_views 0 [] t []
