-- Arcs that are read one by one.
use Rattle.std.proofs.Common.{◌≡◌, ap, sym, refl, ◌∙◌, ℕ, ◌+◌, ◌<◌, ◌≤◌, List, [], ◌∷◌, ◌++◌, length, Option, Some, Result, Ok, Err, inl, inr, append_assoc, append-nil}
use Rattle.asn_fault.specs.Failure.{Cause, Failure}
use Rattle.asn_traits.specs.Arcs.{arc_before, braced_arc, braced_arcs}
use Rattle.avn_grammar.specs.Tree.{Tree as AvnTree, sequence_of}
use Rattle.avn_nodes.specs.NodeViews.{kind_of}
use Rattle.avn_nodes.specs.Preorder.{descendants, list_preorder, slot_descendants, tree_at}
use Rattle.avn_nodes.specs.declared.node_kind.NodeKind.TheVariants as kind
use Rattle.avn_rules.specs.LeafAnswer.{IsWrong}
use Rattle.avn_rules.specs.Parts.{elements_of}
use Rattle.avn_rules.specs.Pending.{IsPresent, avn_or_null}
use Rattle.avn_rules.proofs.Walks.{Left, left_begun, left_first, left_more, left_done, item_is}

-- The arcs with these in front, or what is wrong.
abbrev arcs_after : List ℕ → Result (List ℕ) Cause → Result (List ℕ) Cause
arcs_after front (Ok arcs) = Ok (front ++ arcs)
arcs_after front (Err w) = Err w

none_before : (r : Result (List ℕ) Cause) → r ≡ arcs_after [] r
none_before (Ok arcs) = refl
none_before (Err w) = refl

one_before : (front : List ℕ) (a : ℕ) (r : Result (List ℕ) Cause) → arcs_after front (arc_before (Ok a) r) ≡ arcs_after (front ++ a ∷ []) r
one_before front a (Ok arcs) = ap Ok (sym (append_assoc front (a ∷ []) arcs))
one_before front a (Err w) = refl

-- The arcs so far stand before those of the elements that are left.
pub record ArcsLeft (root : AvnTree) (node item end : ℕ) (arcs : List ℕ) : Type 0 where
  pub left : Left root item end
  pub taken : braced_arcs (elements_of (tree_at root node)) ≡ arcs_after arcs (braced_arcs left.others)

elements_within : (o : Option AvnTree) → kind_of o ≡ kind.SequenceOf → slot_descendants o ≡ list_preorder (elements_of o)
unfolding descendants
elements_within (Some (sequence_of ts)) e = refl
elements_within o e = let n : ⊥ = cc in absurd n

pub arcs_begun : (root : AvnTree) (node end : ℕ) (arcs : List ℕ) → IsPresent root node → kind_of (tree_at root node) ≡ kind.SequenceOf → end ≡ node + length (slot_descendants (tree_at root node)) + 1 → arcs ≡ [] → ArcsLeft root node (node + 1) end arcs
unfolding left_begun
arcs_begun root node end arcs h k e none =
    let ts = elements_of (tree_at root node) in
    record { left = left_begun root node end ts h.0 (elements_within (tree_at root node) k) e; taken = none_before (braced_arcs ts) ∙ ap (λ x. arcs_after x (braced_arcs ts)) (sym none) }

-- One arc more.
pub arcs_more : (root : AvnTree) (node item end next a : ℕ) (arcs later : List ℕ) → ArcsLeft root node item end arcs → item < end → braced_arc (avn_or_null (tree_at root item)) ≡ Ok a → next ≡ item + length (slot_descendants (tree_at root item)) + 1 → later ≡ arcs ++ a ∷ [] → ArcsLeft root node next end later
unfolding left_more left_first
arcs_more root node item end next a arcs later g h is e n =
    let f = left_first root item end g.left h in
    let here : braced_arc f.item ≡ Ok a = sym (ap (λ o. braced_arc (avn_or_null o)) (item_is root item g.left.others f)) ∙ is in
    record {
      left = left_more root item end next g.left f e;
      taken =
          g.taken ∙ ap (λ x. arcs_after arcs (braced_arcs x)) f.is ∙ ap (λ r. arcs_after arcs (arc_before r (braced_arcs f.others))) here ∙ one_before arcs a (braced_arcs f.others)
          ∙ ap (λ x. arcs_after x (braced_arcs f.others)) (sym n);
    }

-- An element that is no arc.
pub arcs_stopped : (root : AvnTree) (node item end : ℕ) (arcs : List ℕ) (failure : Failure) → ArcsLeft root node item end arcs → item < end → IsWrong (braced_arc (avn_or_null (tree_at root item))) failure → IsWrong (braced_arcs (elements_of (tree_at root node))) failure
arcs_stopped root node item end arcs failure g h (inr e) = inr e
arcs_stopped root node item end arcs failure g h (inl w) =
    let f = left_first root item end g.left h in
    let here : braced_arc f.item ≡ Err w.0 = sym (ap (λ o. braced_arc (avn_or_null o)) (item_is root item g.left.others f)) ∙ w.1 in
    inl (w.0, g.taken ∙ ap (λ x. arcs_after arcs (braced_arcs x)) f.is ∙ ap (λ r. arcs_after arcs (arc_before r (braced_arcs f.others))) here, w.2, w.3)

-- No element is left.
pub arcs_done : (root : AvnTree) (node item end : ℕ) (arcs : List ℕ) → ArcsLeft root node item end arcs → end ≤ item → braced_arcs (elements_of (tree_at root node)) ≡ Ok arcs
arcs_done root node item end arcs g h = g.taken ∙ ap (λ x. arcs_after arcs (braced_arcs x)) (left_done root item end g.left h) ∙ ap Ok (append-nil arcs)
