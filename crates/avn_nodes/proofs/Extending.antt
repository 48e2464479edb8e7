-- Nodes that are pushed for what stands there.
use Rattle.std.proofs.Common.{◌≡◌, ℕ, suc, ◌+◌, List, [], ◌∷◌, ◌++◌, Bool, true, false, cond, Some, length, refl, sym, ap, ◌∙◌, subst, arith, append_assoc, length-append}
use Rattle.std.proofs.lemmas.List.{append-nil}
use Rattle.std.specs.Prelude.{codes}
use Rattle.std.specs.Str.{bytes_eq}
use Rattle.avn_grammar.specs.Tree.{Tree, boolean, null, integer, real, octet_string, bit_string, oid, enumerated, char_string, sequence, sequence_of, choice, no_trees}
use Rattle.avn_grammar.specs.Grammar.{Item, named, bare, fields_of, trees_of, AllNamed, AllBare, AreBraceItems, word_of, is_real_keyword, is_integer}
use Rattle.std.proofs.Common.{inl, inr}
use Rattle.avn_nodes.specs.Preorder.{NamedSlot, descendants, fields_preorder, list_preorder, preorder, item_preorder, items_preorder}
use Rattle.avn_nodes.specs.NodeViews.{NodeView, node_view, node_views, kind_of, text_of, octets_of, bit_length_of, arcs_of}
use Rattle.avn_nodes.proofs.NodeForms.{only_nodes, view_as}
use Rattle.avn_nodes.specs.NodeLists.{NodeList, next_node, with_leaf, with_octets, with_arcs, with_open, closed_node, extended}
use Rattle.avn_nodes.specs.declared.node_kind.NodeKind.{NodeKind}
use Rattle.avn_nodes.specs.declared.node_kind.NodeKind.TheVariants as kind

pub node_views-append : (i : ℕ) (xs ys : List NamedSlot) → node_views i (xs ++ ys) ≡ node_views i xs ++ node_views (i + length xs) ys
node_views-append i [] ys = let e : i ≡ i + 0 = omega arith in ap (λ j. node_views j ys) e
node_views-append i (x ∷ xs) ys = let e : suc i + length xs ≡ i + suc (length xs) = omega arith in ap (λ z. node_view i x ∷ z) (node_views-append (suc i) xs ys ∙ ap (λ j. node_views (suc i) xs ++ node_views j ys) e)

pub length-node_views : (i : ℕ) (xs : List NamedSlot) → length (node_views i xs) ≡ length xs
length-node_views i [] = refl
length-node_views i (x ∷ xs) = ap suc (length-node_views (suc i) xs)

pub extended-extended : (s : NodeList) (xs ys : List NamedSlot) → extended (extended s xs) ys ≡ extended s (xs ++ ys)
extended-extended s xs ys =
    let e : length (s.nodes ++ node_views (length s.nodes) xs) ≡ length s.nodes + length xs = omega (arith, length-append s.nodes (node_views (length s.nodes) xs), length-node_views (length s.nodes) xs) in
    ap (λ i. only_nodes ((s.nodes ++ node_views (length s.nodes) xs) ++ node_views i ys)) e
    ∙ ap only_nodes (append_assoc s.nodes (node_views (length s.nodes) xs) (node_views (length s.nodes + length xs) ys) ∙ ap (λ z. s.nodes ++ z) (sym (node_views-append (length s.nodes) xs ys)))

-- A node that nothing is within.
abbrev alone : NodeList → Tree → ℕ → NodeView
alone s t end = record { kind = kind_of (Some t); name = s.name; text = text_of (Some t); octets = octets_of (Some t); bits = bit_length_of (Some t); arcs = arcs_of (Some t); end = end }

pub extended-leaf : (s : NodeList) (t : Tree) → descendants t ≡ [] → record { nodes = s.nodes ++ (alone s t (suc (length s.nodes)) ∷ []); name = []; word = [] } ≡ extended s (preorder s.name t)
extended-leaf s t e =
    let f : suc (length s.nodes) ≡ suc (length s.nodes + length (descendants t)) = omega (arith, ap (λ (x : List NamedSlot). length x) e) in
    ap (λ n. only_nodes (s.nodes ++ (alone s t n ∷ []))) f ∙ ap (λ x. only_nodes (s.nodes ++ (alone s t (suc (length s.nodes + length (descendants t))) ∷ node_views (suc (length s.nodes)) x))) (sym e)

pub extended-integer : (s : NodeList) → with_leaf kind.Integer s ≡ extended s (preorder s.name (integer s.word))
unfolding descendants
extended-integer s = extended-leaf s (integer s.word) refl

pub extended-real : (s : NodeList) → with_leaf kind.Real s ≡ extended s (preorder s.name (real s.word))
unfolding descendants
extended-real s = extended-leaf s (real s.word) refl

pub extended-enumerated : (s : NodeList) → with_leaf kind.Enumerated s ≡ extended s (preorder s.name (enumerated s.word))
unfolding descendants
extended-enumerated s = extended-leaf s (enumerated s.word) refl

pub extended-text : (s : NodeList) → with_leaf kind.CharString s ≡ extended s (preorder s.name (char_string s.word))
unfolding descendants
extended-text s = extended-leaf s (char_string s.word) refl

pub extended-boolean : (s : NodeList) (b : Bool) → with_leaf (kind.Boolean b) s ≡ extended s (preorder s.name (boolean b))
unfolding descendants
extended-boolean s b = extended-leaf s (boolean b) refl

pub extended-null : (s : NodeList) → with_leaf kind.Null s ≡ extended s (preorder s.name null)
unfolding descendants
extended-null s = extended-leaf s null refl

pub extended-no_trees : (s : NodeList) → with_leaf kind.SequenceOf s ≡ extended s (preorder s.name (sequence_of no_trees))
unfolding descendants
extended-no_trees s = extended-leaf s (sequence_of no_trees) refl

pub extended-octets : (s : NodeList) (o : List ℕ) → with_octets kind.OctetString o 0 s ≡ extended s (preorder s.name (octet_string o))
unfolding descendants
extended-octets s o = extended-leaf s (octet_string o) refl

pub extended-bits : (s : NodeList) (o : List ℕ) (n : ℕ) → with_octets kind.BitString o n s ≡ extended s (preorder s.name (bit_string o n))
unfolding descendants
extended-bits s o n = extended-leaf s (bit_string o n) refl

pub extended-arcs : (s : NodeList) (a : List ℕ) → with_arcs a s ≡ extended s (preorder s.name (oid a))
unfolding descendants
extended-arcs s a = extended-leaf s (oid a) refl

cond_case : {A : Type 0} (P : A → Type 0) (b : Bool) (x y : A) → P x → P y → P (cond b x y)
cond_case P true x y h k = h
cond_case P false x y h k = k

word_case : (P : Tree → Type 0) (w : List ℕ) → ((b : Bool) → P (boolean b)) → P null → P (real w) → P (enumerated w) → P (word_of w)
unfolding word_of
word_case P w b n r e =
    cond_case P (bytes_eq w (codes "TRUE")) _ _ (b true) (cond_case P (bytes_eq w (codes "FALSE")) _ _ (b false) (cond_case P (bytes_eq w (codes "NULL")) _ _ n (cond_case P (is_real_keyword w) _ _ r e)))

pub extended-word : (s : NodeList) (k : NodeKind) → k ≡ kind_of (Some (word_of s.word)) → with_leaf k s ≡ extended s (preorder s.name (word_of s.word))
extended-word s k e =
    let P : Tree → Type 0 = λ t. with_leaf (kind_of (Some t)) s ≡ extended s (preorder s.name t) in
    ap (λ k. with_leaf k s) e ∙ word_case P s.word (extended-boolean s) (extended-null s) (extended-real s) (extended-enumerated s)

pub word-integer : (w : List ℕ) → is_integer (word_of w) ≡ false
word-integer w = let P : Tree → Type 0 = λ t. is_integer t ≡ false in word_case P w (λ b. refl) refl refl refl

pub record IsOver (t : Tree) (k : NodeKind) (ss : List NamedSlot) : Type 0 where
  pub within : descendants t ≡ ss
  pub kind : k ≡ kind_of (Some t)
  pub text : [] ≡ text_of (Some t)
  pub octets : [] ≡ octets_of (Some t)
  pub bits : 0 ≡ bit_length_of (Some t)
  pub arcs : [] ≡ arcs_of (Some t)

over-view : (s : NodeList) (t : Tree) (k : NodeKind) (ss : List NamedSlot) → IsOver t k ss → view_as k s.name [] [] 0 [] (suc (length s.nodes + length ss)) ≡ node_view (length s.nodes) (s.name, Some t)
over-view s t k ss o =
    ap (λ x. view_as x s.name [] [] 0 [] (suc (length s.nodes + length ss))) o.kind ∙ ap (λ x. view_as (kind_of (Some t)) s.name x [] 0 [] (suc (length s.nodes + length ss))) o.text
    ∙ ap (λ x. view_as (kind_of (Some t)) s.name (text_of (Some t)) x 0 [] (suc (length s.nodes + length ss))) o.octets
    ∙ ap (λ x. view_as (kind_of (Some t)) s.name (text_of (Some t)) (octets_of (Some t)) x [] (suc (length s.nodes + length ss))) o.bits
    ∙ ap (λ x. view_as (kind_of (Some t)) s.name (text_of (Some t)) (octets_of (Some t)) (bit_length_of (Some t)) x (suc (length s.nodes + length ss))) o.arcs
    ∙ ap (λ x. view_as (kind_of (Some t)) s.name (text_of (Some t)) (octets_of (Some t)) (bit_length_of (Some t)) (arcs_of (Some t)) (suc (length s.nodes + length x))) (sym o.within)

-- What closing a node says of the nodes after it.
abbrev pub Closes : NodeList → NodeList → ℕ → NodeKind → Type 0
Closes now then place k = (before after : List NodeView) (c : NodeView) → now.nodes ≡ before ++ (c ∷ after) → length before ≡ place
    → then ≡ record now { nodes = before ++ (closed_node k (length now.nodes) c ∷ after) }

pub closing : (s now then : NodeList) (j k : NodeKind) (t : Tree) (ss : List NamedSlot) (place : ℕ) → place ≡ length s.nodes → now ≡ extended (with_open j s) ss → IsOver t k ss
    → Closes now then place k
    → then ≡ extended s (preorder s.name t)
closing s now then j k t ss place e f o h =
    let one : length (s.nodes ++ (next_node j s ∷ [])) ≡ suc (length s.nodes) = omega (arith, length-append s.nodes (next_node j s ∷ [])) in
    let after = node_views (suc (length s.nodes)) ss in
    let split : now.nodes ≡ s.nodes ++ (next_node j s ∷ after) =
    ap (λ x. x.nodes) f ∙ ap (λ i. (s.nodes ++ (next_node j s ∷ [])) ++ node_views i ss) one ∙ append_assoc s.nodes (next_node j s ∷ []) after in
    let end : length now.nodes ≡ suc (length s.nodes + length ss) = omega (arith, ap (λ (x : List NodeView). length x) split, length-append s.nodes (next_node j s ∷ after), length-node_views (suc (length s.nodes)) ss) in
    h s.nodes after (next_node j s) split (sym e)
    ∙ ap (λ (x : NodeList). record x { nodes = s.nodes ++ (closed_node k (length now.nodes) (next_node j s) ∷ after) }) f
    ∙ ap (λ (n : ℕ). only_nodes (s.nodes ++ (closed_node k n (next_node j s) ∷ after))) end
    ∙ ap (λ x. only_nodes (s.nodes ++ (x ∷ after))) (over-view s t k ss o)
    ∙ ap (λ x. only_nodes (s.nodes ++ (node_view (length s.nodes) (s.name, Some t) ∷ node_views (suc (length s.nodes)) x))) (sym o.within)

pub over-choice : (id : List ℕ) (p : Tree) → IsOver (choice id p) kind.Choice (preorder id p)
unfolding descendants
over-choice id p = record { within = refl; kind = refl; text = refl; octets = refl; bits = refl; arcs = refl }

nodes-fields : (xs : List Item) → AllNamed xs → fields_preorder (fields_of xs) ≡ items_preorder xs
unfolding descendants
nodes-fields [] a = refl
nodes-fields (named id t ∷ xs) a = ap (λ z. preorder id t ++ z) (nodes-fields xs a)
nodes-fields (bare t ∷ xs) a = absurd a

nodes-items : (xs : List Item) → AllBare xs → list_preorder (trees_of xs) ≡ items_preorder xs
unfolding descendants
nodes-items [] a = refl
nodes-items (named id t ∷ xs) a = absurd a
nodes-items (bare t ∷ xs) a = ap (λ z. preorder [] t ++ z) (nodes-items xs a)

over-fields : (xs : List Item) → AllNamed xs → IsOver (sequence (fields_of xs)) kind.Sequence (items_preorder xs)
unfolding descendants
over-fields xs a = record { within = nodes-fields xs a; kind = refl; text = refl; octets = refl; bits = refl; arcs = refl }

over-items : (xs : List Item) → AllBare xs → IsOver (sequence_of (trees_of xs)) kind.SequenceOf (items_preorder xs)
unfolding descendants
over-items xs a = record { within = nodes-items xs a; kind = refl; text = refl; octets = refl; bits = refl; arcs = refl }

pub over-braces : (xs : List Item) (t : Tree) (k : NodeKind) → AreBraceItems xs t → k ≡ kind_of (Some t) → IsOver t k (items_preorder xs)
over-braces xs t k (inl a) e =
    subst (λ j. IsOver t j (items_preorder xs)) (sym (e ∙ ap (λ x. kind_of (Some x)) a.1)) (subst (λ x. IsOver x kind.Sequence (items_preorder xs)) (sym a.1) (over-fields xs a.0))
over-braces xs t k (inr a) e =
    subst (λ j. IsOver t j (items_preorder xs)) (sym (e ∙ ap (λ x. kind_of (Some x)) a.1)) (subst (λ x. IsOver x kind.SequenceOf (items_preorder xs)) (sym a.1) (over-items xs a.0))

pub braces-integer : (xs : List Item) (t : Tree) → AreBraceItems xs t → is_integer t ≡ false
braces-integer xs t (inl a) = ap is_integer a.1
braces-integer xs t (inr a) = ap is_integer a.1

pub items_preorder-push : (xs : List Item) (x : Item) → items_preorder (xs ++ (x ∷ [])) ≡ items_preorder xs ++ item_preorder x
items_preorder-push [] x = append-nil (item_preorder x)
items_preorder-push (y ∷ xs) x = ap (λ z. item_preorder y ++ z) (items_preorder-push xs x) ∙ sym (append_assoc (item_preorder y) (items_preorder xs) (item_preorder x))

pub extended-push : (s now then : NodeList) (xs : List Item) (x : Item) → now ≡ extended s (items_preorder xs) → then ≡ extended now (item_preorder x) → then ≡ extended s (items_preorder (xs ++ (x ∷ [])))
extended-push s now then xs x e f = f ∙ ap (λ z. extended z (item_preorder x)) e ∙ extended-extended s (items_preorder xs) (item_preorder x) ∙ ap (extended s) (sym (items_preorder-push xs x))
