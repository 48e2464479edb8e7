-- Walks over the nodes within a node.
use Rattle.std.proofs.Common.{◌≡◌, ◌≢◌, ℕ, suc, ◌+◌, ◌<◌, ◌≤◌, List, [], ◌∷◌, ◌++◌, Option, Some, None, length, get_or, drop, refl, sym, ap, subst, ◌∙◌, arith, append_assoc, length-append, length-drop}
use Rattle.std.specs.Prelude.{map, option_map, String, string_bytes}
use Rattle.avn_nodes.specs.TreeLists.{trees_in, fields_in}
use Rattle.std.proofs.lemmas.List.{drop-drop, drop_at, get_or-drop}
use Rattle.avn_grammar.specs.Tree.{Tree, Trees, Fields, boolean, null, integer, real, octet_string, bit_string, oid, enumerated, char_string, sequence, sequence_of, choice, no_trees, tree, no_fields, field, absent}
use Rattle.avn_nodes.proofs.Descendants.{under}
use Rattle.avn_nodes.proofs.JoinedFields.{join, join-nil}
use Rattle.avn_nodes.specs.NodeViews.{kind_of}
use Rattle.avn_nodes.specs.Preorder.{NamedSlot, descendants, fields_preorder, list_preorder, preorder, slot_descendants, node_at, tree_at, node_count}
use Rattle.avn_nodes.specs.declared.node_kind.NodeKind.TheVariants as kind

-- What the kind says of the tree.
pub kind_sequence : (o : Option Tree) → kind_of o ≡ kind.Sequence → (fs : Fields) × (o ≡ Some (sequence fs))
kind_sequence (Some (sequence fs)) e = (fs, refl)
kind_sequence o e = let n : ⊥ = cc in absurd n

pub kind_sequence_of : (o : Option Tree) → kind_of o ≡ kind.SequenceOf → (ts : Trees) × (o ≡ Some (sequence_of ts))
kind_sequence_of (Some (sequence_of ts)) e = (ts, refl)
kind_sequence_of o e = let n : ⊥ = cc in absurd n

pub kind_choice : (o : Option Tree) → kind_of o ≡ kind.Choice → (id : List ℕ) × (t : Tree) × (o ≡ Some (choice id t))
kind_choice (Some (choice id t)) e = (id, t, refl)
kind_choice o e = let n : ⊥ = cc in absurd n

pub kind_present : (t : Tree) → kind_of (Some t) ≢ kind.Absent
kind_present (boolean b) e = cc
kind_present null e = cc
kind_present (integer n) e = cc
kind_present (real n) e = cc
kind_present (octet_string o) e = cc
kind_present (bit_string o n) e = cc
kind_present (oid a) e = cc
kind_present (enumerated n) e = cc
kind_present (char_string n) e = cc
kind_present (sequence fs) e = cc
kind_present (sequence_of ts) e = cc
kind_present (choice id t) e = cc

pub kind_absent : (o : Option Tree) → kind_of o ≡ kind.Absent → o ≡ None
kind_absent None e = refl
kind_absent (Some t) e = absurd (kind_present t e)

pub kind_not_absent : (o : Option Tree) → kind_of o ≢ kind.Absent → (t : Tree) × (o ≡ Some t)
kind_not_absent None n = absurd (n refl)
kind_not_absent (Some t) n = (t, refl)

-- The nodes from a place on are these, and others after them.
pub record From (root : Tree) (i : ℕ) (ss : List NamedSlot) : Type 0 where
  pub after : List NamedSlot
  pub are : drop i (preorder [] root) ≡ ss ++ after

-- The nodes within a node stand after it.
pub from_inside : (root : Tree) (i : ℕ) → i < node_count root → From root (i + 1) (slot_descendants (tree_at root i))
from_inside root i h =
    let u = under root i h in
    record { after = u.0; are = sym (drop-drop 1 i (preorder [] root)) ∙ ap (drop 1) u.1 }

-- The first of the nodes from a place on.
pub from_first : (root : Tree) (i : ℕ) (s : NamedSlot) (ss : List NamedSlot) → From root i (s ∷ ss) → (i < node_count root) × (node_at root i ≡ s)
from_first root i s ss f =
    let l : length (drop i (preorder [] root)) ≡ suc (length (ss ++ f.after)) = ap (λ (x : List NamedSlot). length x) f.are in
    let e : i + 0 ≡ i = omega arith in
    (omega (arith, l, length-drop i (preorder [] root)), ap (λ k. get_or (preorder [] root) k ([], None)) (sym e) ∙ sym (get_or-drop i (preorder [] root) 0 ([], None)) ∙ ap (λ x. get_or x 0 ([], None)) f.are)

-- The nodes past some of those from a place on.
pub from_past : (root : Tree) (i n : ℕ) (xs ys : List NamedSlot) → n ≡ i + length xs → From root i (xs ++ ys) → From root n ys
from_past root i n xs ys e f =
    record { after = f.after; are = ap (λ k. drop k (preorder [] root)) e ∙ sym (drop-drop (length xs) i (preorder [] root)) ∙ ap (drop (length xs)) (f.are ∙ append_assoc xs ys f.after) ∙ drop_at xs (ys ++ f.after) (length xs) refl }

-- The entry of a field.
abbrev pub entry : List ℕ → Option Tree → Fields → Fields
entry id (Some t) fs = field id t fs
entry id None fs = absent id fs

-- The first field of those from a place on.
pub record FirstField (root : Tree) (i : ℕ) (fs : Fields) : Type 0 where
  pub id : List ℕ
  pub slot : Option Tree
  pub others : Fields
  pub is : fs ≡ entry id slot others
  pub here : node_at root i ≡ (id, slot)
  pub below : i < node_count root
  pub next : (n : ℕ) → n ≡ i + length (slot_descendants slot) + 1 → From root n (fields_preorder others) × (n + length (fields_preorder others) ≡ i + length (fields_preorder fs))

pub first_field : (root : Tree) (i : ℕ) (fs : Fields) → 0 < length (fields_preorder fs) → From root i (fields_preorder fs) → FirstField root i fs
unfolding descendants
first_field root i no_fields h f = absurd (omega arith)
first_field root i (field id t fs) h f =
    let q = from_first root i (id, Some t) (descendants t ++ fields_preorder fs) f in record {
      id = id;
      slot = Some t;
      others = fs;
      is = refl;
      here = q.1;
      below = q.0;
      next = λ n e. (from_past root i n (preorder id t) (fields_preorder fs) (omega arith) f, omega (arith, length-append (preorder id t) (fields_preorder fs)));
    }
first_field root i (absent id fs) h f =
    let q = from_first root i (id, None) (fields_preorder fs) f in record {
      id = id;
      slot = None;
      others = fs;
      is = refl;
      here = q.1;
      below = q.0;
      next = λ n e. (from_past root i n ((id, None) ∷ []) (fields_preorder fs) (omega arith) f, omega arith);
    }

-- The first value of those from a place on.
pub record FirstItem (root : Tree) (i : ℕ) (ts : Trees) : Type 0 where
  pub item : Tree
  pub others : Trees
  pub is : ts ≡ tree item others
  pub here : node_at root i ≡ ([], Some item)
  pub below : i < node_count root
  pub next : (n : ℕ) → n ≡ i + length (descendants item) + 1 → From root n (list_preorder others) × (n + length (list_preorder others) ≡ i + length (list_preorder ts))

pub first_item : (root : Tree) (i : ℕ) (ts : Trees) → 0 < length (list_preorder ts) → From root i (list_preorder ts) → FirstItem root i ts
unfolding descendants
first_item root i no_trees h f = absurd (omega arith)
first_item root i (tree t ts) h f =
    let q = from_first root i ([], Some t) (descendants t ++ list_preorder ts) f in record {
      item = t;
      others = ts;
      is = refl;
      here = q.1;
      below = q.0;
      next = λ n e. (from_past root i n (preorder [] t) (list_preorder ts) (omega arith) f, omega (arith, length-append (preorder [] t) (list_preorder ts)));
    }

-- A choice's payload is the next node.
pub payload_at : (root : Tree) (i : ℕ) → i < node_count root → kind_of (tree_at root i) ≡ kind.Choice → (id : List ℕ) × (t : Tree) × (tree_at root i ≡ Some (choice id t)) × (i + 1 < node_count root) × (node_at root (i + 1) ≡ (id, Some t))
unfolding descendants
payload_at root i h e =
    let k = kind_choice (tree_at root i) e in
    let f : From root (i + 1) (preorder k.0 k.1) = subst (λ o. From root (i + 1) (slot_descendants o)) k.2 (from_inside root i h) in
    let q = from_first root (i + 1) (k.0, Some k.1) (descendants k.1) f in
    (k.0, k.1, k.2, q.0, q.1)

-- A field put before the others is one put after those from before.
pub join-next : (fs gs : Fields) (id : List ℕ) (slot : Option Tree) → join (join fs (entry id slot no_fields)) gs ≡ join fs (entry id slot gs)
join-next no_fields gs id (Some t) = refl
join-next no_fields gs id None = refl
join-next (field n u fs) gs id slot = ap (field n u) (join-next fs gs id slot)
join-next (absent n fs) gs id slot = ap (absent n) (join-next fs gs id slot)

-- Values, and others after them.
abbrev pub chained : Trees → Trees → Trees
chained no_trees us = us
chained (tree t ts) us = tree t (chained ts us)

pub chained-none : (ts : Trees) → chained ts no_trees ≡ ts
chained-none no_trees = refl
chained-none (tree t ts) = ap (tree t) (chained-none ts)

-- A value put before the others is one put after those from before.
pub chained-next : (ts us : Trees) (t : Tree) → chained (chained ts (tree t no_trees)) us ≡ chained ts (tree t us)
chained-next no_trees us t = refl
chained-next (tree u ts) us t = ap (tree u) (chained-next ts us t)

module _ {A : Type 0} (see : A → Tree) where
  pub join-push : {S : Type 0} (xs : List (String S × Option A)) (name : String S) (o : Option A) (fs : Fields) → join (fields_in (map (λ f. (f.0, option_map see f.1)) (xs ++ ((name, o) ∷ [])))) fs ≡ join (fields_in (map (λ f. (f.0, option_map see f.1)) xs)) (entry (string_bytes name) (option_map see o) fs)
  join-push [] name (Some v) fs = refl
  join-push [] name None fs = refl
  join-push ((n, Some w) ∷ xs) name o fs = ap (field (string_bytes n) (see w)) (join-push xs name o fs)
  join-push ((n, None) ∷ xs) name o fs = ap (absent (string_bytes n)) (join-push xs name o fs)

  pub chained-push : (xs : List A) (v : A) (ts : Trees) → chained (trees_in (map see (xs ++ (v ∷ [])))) ts ≡ chained (trees_in (map see xs)) (tree (see v) ts)
  chained-push [] v ts = refl
  chained-push (w ∷ xs) v ts = ap (tree (see w)) (chained-push xs v ts)

no_more_fields : (fs : Fields) → length (fields_preorder fs) ≡ 0 → fs ≡ no_fields
unfolding descendants
no_more_fields no_fields e = refl
no_more_fields (field id t fs) e = absurd (omega (arith, e))
no_more_fields (absent id fs) e = absurd (omega (arith, e))

no_more_items : (ts : Trees) → length (list_preorder ts) ≡ 0 → ts ≡ no_trees
unfolding descendants
no_more_items no_trees e = refl
no_more_items (tree t ts) e = absurd (omega (arith, e))

-- Fields that were walked over, and those that are left.
pub record Fielding (root : Tree) (node child end : ℕ) (done : Fields) : Type 0 where
  pub others : Fields
  pub from : From root child (fields_preorder others)
  pub whole : tree_at root node ≡ Some (sequence (join done others))
  pub ends : child + length (fields_preorder others) ≡ end
  pub after : node < child

pub fielding_begun : (root : Tree) (node end : ℕ) → node < node_count root → kind_of (tree_at root node) ≡ kind.Sequence → end ≡ node + length (slot_descendants (tree_at root node)) + 1 → Fielding root node (node + 1) end no_fields
unfolding descendants
fielding_begun root node end h e f =
    let k = kind_sequence (tree_at root node) e in
    let l : end ≡ node + length (fields_preorder k.0) + 1 = f ∙ ap (λ o. node + length (slot_descendants o) + 1) k.1 in
    record { others = k.0; from = subst (λ o. From root (node + 1) (slot_descendants o)) k.1 (from_inside root node h); whole = k.1; ends = omega arith; after = omega arith }

pub fielding_first : (root : Tree) (node child end : ℕ) (done : Fields) (g : Fielding root node child end done) → child < end → FirstField root child g.others
fielding_first root node child end done g h = first_field root child g.others (omega (arith, g.ends)) g.from

pub fielding_more : (root : Tree) (node child end next : ℕ) (done then : Fields) (g : Fielding root node child end done) (f : FirstField root child g.others) → next ≡ child + length (slot_descendants (tree_at root child)) + 1 → join then f.others ≡ join done (entry f.id f.slot f.others) → Fielding root node next end then
fielding_more root node child end next done then g f e j =
    let q = f.next next (e ∙ ap (λ (s : NamedSlot). child + length (slot_descendants s.1) + 1) f.here) in
    record { others = f.others; from = q.0; whole = g.whole ∙ ap (λ x. Some (sequence (join done x))) f.is ∙ ap (λ x. Some (sequence x)) (sym j); ends = omega (arith, q.1, g.ends); after = omega (arith, g.after) }

pub fielding_done : (root : Tree) (node child end : ℕ) (done : Fields) → Fielding root node child end done → end ≤ child → tree_at root node ≡ Some (sequence done)
fielding_done root node child end done g h = g.whole ∙ ap (λ x. Some (sequence (join done x))) (no_more_fields g.others (omega (arith, g.ends))) ∙ ap (λ x. Some (sequence x)) (join-nil done)

-- Values that were walked over, and those that are left.
pub record Listing (root : Tree) (node child end : ℕ) (done : Trees) : Type 0 where
  pub others : Trees
  pub from : From root child (list_preorder others)
  pub whole : tree_at root node ≡ Some (sequence_of (chained done others))
  pub ends : child + length (list_preorder others) ≡ end
  pub after : node < child

pub listing_begun : (root : Tree) (node end : ℕ) → node < node_count root → kind_of (tree_at root node) ≡ kind.SequenceOf → end ≡ node + length (slot_descendants (tree_at root node)) + 1 → Listing root node (node + 1) end no_trees
unfolding descendants
listing_begun root node end h e f =
    let k = kind_sequence_of (tree_at root node) e in
    let l : end ≡ node + length (list_preorder k.0) + 1 = f ∙ ap (λ o. node + length (slot_descendants o) + 1) k.1 in
    record { others = k.0; from = subst (λ o. From root (node + 1) (slot_descendants o)) k.1 (from_inside root node h); whole = k.1; ends = omega arith; after = omega arith }

pub listing_first : (root : Tree) (node child end : ℕ) (done : Trees) (g : Listing root node child end done) → child < end → FirstItem root child g.others
listing_first root node child end done g h = first_item root child g.others (omega (arith, g.ends)) g.from

pub listing_more : (root : Tree) (node child end next : ℕ) (done then : Trees) (g : Listing root node child end done) (f : FirstItem root child g.others) → next ≡ child + length (slot_descendants (tree_at root child)) + 1 → chained then f.others ≡ chained done (tree f.item f.others) → Listing root node next end then
listing_more root node child end next done then g f e j =
    let q = f.next next (e ∙ ap (λ (s : NamedSlot). child + length (slot_descendants s.1) + 1) f.here) in
    record { others = f.others; from = q.0; whole = g.whole ∙ ap (λ x. Some (sequence_of (chained done x))) f.is ∙ ap (λ x. Some (sequence_of x)) (sym j); ends = omega (arith, q.1, g.ends); after = omega (arith, g.after) }

pub listing_done : (root : Tree) (node child end : ℕ) (done : Trees) → Listing root node child end done → end ≤ child → tree_at root node ≡ Some (sequence_of done)
listing_done root node child end done g h = g.whole ∙ ap (λ x. Some (sequence_of (chained done x))) (no_more_items g.others (omega (arith, g.ends))) ∙ ap (λ x. Some (sequence_of x)) (chained-none done)

pub some_is : (a b : Tree) → Some a ≡ Some b → a ≡ b
some_is a b e = cc
