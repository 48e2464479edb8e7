-- The nodes within a value follow its node.
use Rattle.std.proofs.Common.{◌≡◌, ℕ, zero, suc, ◌<◌, List, [], ◌∷◌, ◌++◌, Some, None, length, get_or, drop, refl, sym, ap, subst, arith, append_assoc}
use Rattle.avn_grammar.specs.Tree.{Tree, Trees, Fields, sequence, sequence_of, choice, no_trees, tree, no_fields, field, absent}
use Rattle.avn_nodes.specs.Preorder.{NamedSlot, descendants, fields_preorder, list_preorder, preorder, slot_descendants}
use Rattle.std.specs.Prelude.{⊤}
use Rattle.std.proofs.lemmas.List.{append-nil}

-- Each node is followed by the nodes within it.
Closed : List NamedSlot → Type 0
Closed [] = ⊤
Closed (s ∷ ss) = ((rest : List NamedSlot) × (ss ≡ slot_descendants s.1 ++ rest)) × Closed ss

mutual
  unfolding Closed descendants

  closed-inner : (t : Tree) (ss : List NamedSlot) → Closed ss → Closed (descendants t ++ ss)
  closed-inner (sequence fs) ss k = closed-fields fs ss k
  closed-inner (sequence_of ts) ss k = closed-items ts ss k
  closed-inner (choice id t) ss k = ((ss, refl), closed-inner t ss k)
  closed-inner t ss k = k

  closed-fields : (fs : Fields) (ss : List NamedSlot) → Closed ss → Closed (fields_preorder fs ++ ss)
  closed-fields no_fields ss k = k
  closed-fields (field id t fs) ss k = subst Closed (sym (append_assoc ((id, Some t) ∷ descendants t) (fields_preorder fs) ss)) ((fields_preorder fs ++ ss, refl), closed-inner t (fields_preorder fs ++ ss) (closed-fields fs ss k))
  closed-fields (absent id fs) ss k = ((fields_preorder fs ++ ss, refl), closed-fields fs ss k)

  closed-items : (ts : Trees) (ss : List NamedSlot) → Closed ss → Closed (list_preorder ts ++ ss)
  closed-items no_trees ss k = k
  closed-items (tree t ts) ss k = subst Closed (sym (append_assoc (([], Some t) ∷ descendants t) (list_preorder ts) ss)) ((list_preorder ts ++ ss, refl), closed-inner t (list_preorder ts ++ ss) (closed-items ts ss k))

closed-at : (ss : List NamedSlot) (i : ℕ) → Closed ss → i < length ss → (rest : List NamedSlot) × (drop i ss ≡ get_or ss i ([], None) ∷ (slot_descendants (get_or ss i ([], None)).1 ++ rest))
unfolding Closed
closed-at [] i k h = absurd (omega arith)
closed-at (s ∷ ss) zero k h = (k.0.0, ap (λ x. s ∷ x) k.0.1)
closed-at (s ∷ ss) (suc i) k h = closed-at ss i k.1 (omega arith)

-- From a node on, what stands there and the nodes within it.
pub under : (root : Tree) (i : ℕ) → i < length (preorder [] root) → (rest : List NamedSlot) × (drop i (preorder [] root) ≡ get_or (preorder [] root) i ([], None) ∷ (slot_descendants (get_or (preorder [] root) i ([], None)).1 ++ rest))
unfolding Closed
under root i h = closed-at (preorder [] root) i (subst Closed (append-nil (preorder [] root)) (([], refl), closed-inner root [] tt)) h
