-- Walks over the slots that nodes list.
use Rattle.std.proofs.Common.{◌≡◌, ◌≢◌, true≢false, ℕ, ◌+◌, ◌<◌, ◌≤◌, List, [], ◌∷◌, ◌++◌, Option, Some, None, Bool, true, false, cond, length, drop, map, refl, sym, ap, subst, ◌∙◌, arith, append_assoc, length-append, length-drop}
use Rattle.std.specs.List.{All, AllByRecursion}
use Rattle.std.specs.Prelude.{IfSome, option_map, if◌then◌else◌}
use Rattle.std.specs.declared.cmp.Ordering.{Ordering}
use Rattle.std.specs.Ordering.{is_gt}
use Rattle.asn_slots.proofs.Lasts.{or_some-assoc, or_some-none}
use Rattle.std.proofs.lemmas.List.{append-nil, map-append, drop-drop, drop_at, drop_all}
use Rattle.std.proofs.lemmas.List.Elements.{recursion_from_All, All-nil, All-cons, All-push}
use Rattle.asn_model.specs.Sorting.{sort, by_text, insert_in_order}
use Rattle.asn_slots.specs.Slots.{last_present, or_some, present_of}
use Rattle.asn_sorting.specs.Entries.{text_of, value_of}
use Rattle.asn_sorting.proofs.Trees.{trees-sorted}
use Rattle.avn_grammar.specs.Print.{print}
use Rattle.avn_grammar.specs.Tree.{Tree, boolean, null, integer, real, octet_string, bit_string, oid, enumerated, char_string, sequence, sequence_of, choice}
use Rattle.avn_nodes.specs.NodeViews.{NodeView, node_views, view_at, kind_of}
use Rattle.avn_nodes.specs.Preorder.{preorder, slot_descendants}
use Rattle.avn_nodes.specs.Subtrees.{Lists, HasSlot, HasTree, subtrees_at, tree_from}
use Rattle.avn_nodes.specs.declared.node_kind.NodeKind.{NodeKind}
use Rattle.avn_nodes.specs.declared.node_kind.NodeKind.TheVariants as kind
use Rattle.avn_nodes.proofs.Extending.{node_views-append, length-node_views}
use Rattle.avn_nodes.proofs.Moving.{has_slot, slot_at-is}
use Rattle.avn_nodes.proofs.Subtrees.{lists_first, has_tree, tree_from-is}
use Rattle.avn_nodes.proofs.Walks.{kind_absent, kind_not_absent}
use Rattle.avn_frames.specs.Listing.{slot_nodes, frame_nodes, slots_from, AreSlots, has_absent, is_kept, slot_places}
use Rattle.avn_frames.specs.Places.{StandAt, in_text_order, IsLastPlace}
use Rattle.avn_frames.proofs.Listed.{nameless, slots_from-is, are_slots}

-- The first slot from a place on, and those after it.
pub record SlotHere (nodes : List NodeView) (i : ℕ) : Type 0 where
  pub slot : Option Tree
  pub others : List (Option Tree)
  pub all : slots_from nodes i ≡ slot ∷ others
  pub lists : Lists nodes i (slot_nodes slot)
  pub kind : (view_at nodes i).kind ≡ kind_of slot
  pub end : (view_at nodes i).end ≡ i + length (slot_nodes slot)
  pub next : AreSlots nodes (view_at nodes i).end
  pub rest : slots_from nodes (view_at nodes i).end ≡ others
  pub grows : i < (view_at nodes i).end
  pub within : (view_at nodes i).end ≤ length nodes

here_by : (nodes : List NodeView) (i : ℕ) (os : List (Option Tree)) → drop i nodes ≡ node_views i (frame_nodes os) → i < length nodes → SlotHere nodes i
here_by nodes i [] e l = let n = ap (λ (x : List NodeView). length x) e in absurd (omega (arith, n, l, length-drop i nodes))
here_by nodes i (o ∷ os) e l =
    let tail = node_views (i + length (slot_nodes o)) (frame_nodes os) in
    let split : drop i nodes ≡ node_views i (slot_nodes o) ++ tail = e ∙ node_views-append i (slot_nodes o) (frame_nodes os) in
    let lists : Lists nodes i (slot_nodes o) = record { after = tail; are = split } in
    let view = (lists_first nodes i (nameless o) (slot_descendants o) lists).1 in
    let end : (view_at nodes i).end ≡ i + length (slot_nodes o) = omega (arith, ap (λ (v : NodeView). v.end) view) in
    let past : drop (view_at nodes i).end nodes ≡ node_views (view_at nodes i).end (frame_nodes os) =
    ap (λ n. drop n nodes) end ∙ sym (drop-drop (length (slot_nodes o)) i nodes) ∙ ap (drop (length (slot_nodes o))) split
    ∙ drop_at (node_views i (slot_nodes o)) tail (length (slot_nodes o)) (length-node_views i (slot_nodes o)) ∙ ap (λ n. node_views n (frame_nodes os)) (sym end) in
    let long = ap (λ (x : List NodeView). length x) split in
    record {
      slot = o;
      others = os;
      all = slots_from-is nodes i (o ∷ os) e;
      lists = lists;
      kind = ap (λ (v : NodeView). v.kind) view;
      end = end;
      next = are_slots nodes (view_at nodes i).end os past;
      rest = slots_from-is nodes (view_at nodes i).end os past;
      grows = omega (arith, end);
      within = omega (arith, end, long, l, length-drop i nodes, length-append (node_views i (slot_nodes o)) tail, length-node_views i (slot_nodes o));
    }

pub slot_here : (nodes : List NodeView) (i : ℕ) → AreSlots nodes i → i < length nodes → SlotHere nodes i
slot_here nodes i a l = here_by nodes i (slots_from nodes i) a l

-- No slot stands past the nodes.
pub no_slot : (nodes : List NodeView) (i : ℕ) → length nodes ≤ i → slots_from nodes i ≡ []
no_slot nodes i l = slots_from-is nodes i [] (drop_all i nodes l)

-- An absent slot is told by its kind.
pub absent_here : (nodes : List NodeView) (i : ℕ) (h : SlotHere nodes i) → (view_at nodes i).kind ≡ kind.Absent → h.slot ≡ None
absent_here nodes i h e = kind_absent h.slot (sym h.kind ∙ e)

pub present_here : (nodes : List NodeView) (i : ℕ) (h : SlotHere nodes i) → (view_at nodes i).kind ≢ kind.Absent → (t : Tree) × (h.slot ≡ Some t)
present_here nodes i h n = kind_not_absent h.slot (λ e. n (h.kind ∙ e))

pub absent_found : (nodes : List NodeView) (i : ℕ) → AreSlots nodes i → i < length nodes → (view_at nodes i).kind ≡ kind.Absent → has_absent (slots_from nodes i) ≡ true
absent_found nodes i a l e = let h = slot_here nodes i a l in ap has_absent (h.all ∙ ap (λ o. o ∷ h.others) (absent_here nodes i h e))

pub absent_later : (nodes : List NodeView) (i : ℕ) → AreSlots nodes i → i < length nodes → (view_at nodes i).kind ≢ kind.Absent → has_absent (slots_from nodes (view_at nodes i).end) ≡ has_absent (slots_from nodes i)
absent_later nodes i a l n =
    let h = slot_here nodes i a l in
    let p = present_here nodes i h n in
    ap has_absent h.rest ∙ sym (ap has_absent (h.all ∙ ap (λ o. o ∷ h.others) p.1))

-- What is kept, by the slot.
pub kept_present : (all : Bool) (t : Tree) → is_kept all (kind_of (Some t)) ≡ true
kept_present all (boolean b) = refl
kept_present all null = refl
kept_present all (integer n) = refl
kept_present all (real n) = refl
kept_present all (octet_string o) = refl
kept_present all (bit_string o n) = refl
kept_present all (oid a) = refl
kept_present all (enumerated n) = refl
kept_present all (char_string n) = refl
kept_present all (sequence fs) = refl
kept_present all (sequence_of ts) = refl
kept_present all (choice id t) = refl

-- The slot is kept, and it is present.
pub kept_tree : (o : Option Tree) → is_kept false (kind_of o) ≡ true → (t : Tree) × (o ≡ Some t)
kept_tree None e = let n : ⊥ = cc in absurd n
kept_tree (Some t) e = (t, refl)

pub left_none : (all : Bool) (o : Option Tree) → is_kept all (kind_of o) ≡ false → o ≡ None
left_none all None e = refl
left_none all (Some t) e = let n : true ≡ false = sym (kept_present all t) ∙ e in absurd (true≢false n)

-- The places so far, with the slot at the next one, and those that are left.
pub place_on : (all kept : Bool) (nodes : List NodeView) (i end : ℕ) (whole before after : List ℕ) → AreSlots nodes i → i < length nodes → before ++ slot_places all i (slots_from nodes i) ≡ whole
    → kept ≡ is_kept all (view_at nodes i).kind → end ≡ (view_at nodes i).end → after ≡ before ++ cond kept (i ∷ []) [] → after ++ slot_places all end (slots_from nodes end) ≡ whole
place_on all kept nodes i end whole before after a l w k f e =
    let h = slot_here nodes i a l in
    let here : kept ≡ is_kept all (kind_of h.slot) = k ∙ ap (is_kept all) h.kind in
    let rest = slot_places all (i + length (slot_nodes h.slot)) h.others in
    ap (λ x. x ++ slot_places all end (slots_from nodes end)) e
    ∙ ap (λ x. (before ++ cond kept (i ∷ []) []) ++ slot_places all x (slots_from nodes x)) f
    ∙ ap (λ x. (before ++ cond kept (i ∷ []) []) ++ slot_places all (view_at nodes i).end x) h.rest
    ∙ ap (λ x. (before ++ cond kept (i ∷ []) []) ++ slot_places all x h.others) h.end
    ∙ ap (λ x. (before ++ cond x (i ∷ []) []) ++ rest) here
    ∙ append_assoc before (cond (is_kept all (kind_of h.slot)) (i ∷ []) []) rest
    ∙ ap (λ x. before ++ slot_places all i x) (sym h.all) ∙ w

-- The slots that are kept.
abbrev pub kept_slots : Bool → List (Option Tree) → List (Option Tree)
kept_slots all [] = []
kept_slots all (o ∷ os) = cond (is_kept all (kind_of o)) (o ∷ []) [] ++ kept_slots all os

pub kept_all : (os : List (Option Tree)) → kept_slots true os ≡ os
kept_all [] = refl
kept_all (None ∷ os) = ap (λ x. None ∷ x) (kept_all os)
kept_all (Some t ∷ os) = ap (λ b. cond b (Some t ∷ []) [] ++ kept_slots true os) (kept_present true t) ∙ ap (λ x. Some t ∷ x) (kept_all os)

pub kept_present_of : (os : List (Option Tree)) → kept_slots false os ≡ map Some (present_of os)
kept_present_of [] = refl
kept_present_of (None ∷ os) = kept_present_of os
kept_present_of (Some t ∷ os) = ap (λ b. cond b (Some t ∷ []) [] ++ kept_slots false os) (kept_present false t) ∙ ap (λ x. Some t ∷ x) (kept_present_of os)

stand_none : (nodes : List NodeView) → StandAt nodes [] []
stand_none nodes = record { here = All-nil (HasSlot nodes); are = refl }

stand_cons : (nodes : List NodeView) (i : ℕ) (is : List ℕ) (o : Option Tree) (os : List (Option Tree)) → Lists nodes i (slot_nodes o) → StandAt nodes is os → StandAt nodes (i ∷ is) (o ∷ os)
stand_cons nodes i is o os l s = record {
  here = All-cons (HasSlot nodes) i is (has_slot nodes i (nameless o) l) s.here;
  are = ap (λ x. (x ∷ slot_descendants x.1) ++ subtrees_at nodes is) (slot_at-is nodes i (nameless o) l) ∙ ap (λ x. slot_nodes o ++ x) s.are;
}

stand_cond : (nodes : List NodeView) (b : Bool) (i : ℕ) (is : List ℕ) (o : Option Tree) (os : List (Option Tree)) → Lists nodes i (slot_nodes o) → StandAt nodes is os → StandAt nodes (cond b (i ∷ []) [] ++ is) (cond b (o ∷ []) [] ++ os)
stand_cond nodes true i is o os l s = stand_cons nodes i is o os l s
stand_cond nodes false i is o os l s = s

-- The slots that are kept stand at their places.
stand_by : (all : Bool) (nodes : List NodeView) (i : ℕ) (os : List (Option Tree)) → drop i nodes ≡ node_views i (frame_nodes os) → StandAt nodes (slot_places all i os) (kept_slots all os)
stand_by all nodes i [] e = stand_none nodes
stand_by all nodes i (o ∷ os) e =
    let tail = node_views (i + length (slot_nodes o)) (frame_nodes os) in
    let split : drop i nodes ≡ node_views i (slot_nodes o) ++ tail = e ∙ node_views-append i (slot_nodes o) (frame_nodes os) in
    let past : drop (i + length (slot_nodes o)) nodes ≡ tail =
    sym (drop-drop (length (slot_nodes o)) i nodes) ∙ ap (drop (length (slot_nodes o))) split ∙ drop_at (node_views i (slot_nodes o)) tail (length (slot_nodes o)) (length-node_views i (slot_nodes o)) in
    let others = stand_by all nodes (i + length (slot_nodes o)) os past in
    stand_cond nodes (is_kept all (kind_of o)) i (slot_places all (i + length (slot_nodes o)) os) o (kept_slots all os) (record { after = tail; are = split }) others

pub stand_all : (nodes : List NodeView) (i : ℕ) (places : List ℕ) → AreSlots nodes i → places ≡ slot_places true i (slots_from nodes i) → StandAt nodes places (slots_from nodes i)
stand_all nodes i places a e = subst (λ x. StandAt nodes x (slots_from nodes i)) (sym e) (subst (StandAt nodes (slot_places true i (slots_from nodes i))) (kept_all (slots_from nodes i)) (stand_by true nodes i (slots_from nodes i) a))

pub stand_present : (nodes : List NodeView) (i : ℕ) (places : List ℕ) → AreSlots nodes i → places ≡ slot_places false i (slots_from nodes i) → StandAt nodes places (map Some (present_of (slots_from nodes i)))
stand_present nodes i places a e =
    subst (λ x. StandAt nodes x (map Some (present_of (slots_from nodes i)))) (sym e) (subst (StandAt nodes (slot_places false i (slots_from nodes i))) (kept_present_of (slots_from nodes i)) (stand_by false nodes i (slots_from nodes i) a))

-- An entry has a place that lists a tree without a name, and the tree's text.
pub record IsEntry (nodes : List NodeView) (p : List ℕ × ℕ) : Type 0 where
  pub text : text_of p ≡ print 0 (tree_from nodes (value_of p))
  pub lists : Lists nodes (value_of p) (preorder [] (tree_from nodes (value_of p)))

abbrev pub tree_in : List NodeView → List ℕ × ℕ → Tree
tree_in nodes p = tree_from nodes (value_of p)

-- The entries so far, and the slots that are left.
pub record Gathered (nodes : List NodeView) (from slot : ℕ) (entries : List (List ℕ × ℕ)) : Type 0 where
  pub slots : AreSlots nodes slot
  pub texts : All (IsEntry nodes) entries
  pub trees : map (tree_in nodes) entries ++ present_of (slots_from nodes slot) ≡ present_of (slots_from nodes from)

pub gathered_none : (nodes : List NodeView) (from : ℕ) (entries : List (List ℕ × ℕ)) → AreSlots nodes from → entries ≡ [] → Gathered nodes from from entries
gathered_none nodes from entries a e = record { slots = a; texts = subst (All (IsEntry nodes)) (sym e) (All-nil (IsEntry nodes)); trees = ap (λ x. map (tree_in nodes) x ++ present_of (slots_from nodes from)) e }

-- A slot that is kept lists its tree.
pub record TreeHere (nodes : List NodeView) (i : ℕ) (h : SlotHere nodes i) : Type 0 where
  pub slot : h.slot ≡ Some (tree_from nodes i)
  pub lists : Lists nodes i (preorder [] (tree_from nodes i))

pub tree_here : (nodes : List NodeView) (i : ℕ) (h : SlotHere nodes i) (k : NodeKind) → k ≡ (view_at nodes i).kind → is_kept false k ≡ true → TreeHere nodes i h
tree_here nodes i h k e f =
    let p = kept_tree h.slot (ap (is_kept false) (sym h.kind ∙ sym e) ∙ f) in
    let lists : Lists nodes i (preorder [] p.0) = subst (λ o. Lists nodes i (slot_nodes o)) p.1 h.lists in
    let same : tree_from nodes i ≡ p.0 = tree_from-is nodes i [] p.0 lists in
    record { slot = p.1 ∙ ap Some (sym same); lists = subst (λ x. Lists nodes i (preorder [] x)) (sym same) lists }

pub has_tree_here : (nodes : List NodeView) (i : ℕ) → AreSlots nodes i → i < length nodes → (k : NodeKind) → k ≡ (view_at nodes i).kind → is_kept false k ≡ true → HasTree nodes i
has_tree_here nodes i a l k e f = let h = slot_here nodes i a l in has_tree nodes i [] (tree_from nodes i) (tree_here nodes i h k e f).lists

pub gathered_more : (nodes : List NodeView) (from slot end : ℕ) (entries new : List (List ℕ × ℕ)) (text : List ℕ) (k : NodeKind) → Gathered nodes from slot entries → slot < length nodes → k ≡ (view_at nodes slot).kind → is_kept false k ≡ true → text ≡ print 0 (tree_from nodes slot)
    → new ≡ entries ++ ((text, slot) ∷ []) → end ≡ (view_at nodes slot).end → Gathered nodes from end new
gathered_more nodes from slot end entries new text k g l e f w p q =
    let h = slot_here nodes slot g.slots l in
    let t = tree_here nodes slot h k e f in
    record {
      slots = subst (AreSlots nodes) (sym q) h.next;
      texts = subst (All (IsEntry nodes)) (sym p) (All-push (IsEntry nodes) entries (text, slot) g.texts (record { text = w; lists = t.lists }));
      trees =
          ap (λ x. map (tree_in nodes) x ++ present_of (slots_from nodes end)) p
          ∙ ap (λ x. x ++ present_of (slots_from nodes end)) (map-append (tree_in nodes) entries ((text, slot) ∷ []))
          ∙ append_assoc (map (tree_in nodes) entries) (tree_from nodes slot ∷ []) (present_of (slots_from nodes end))
          ∙ ap (λ x. map (tree_in nodes) entries ++ (tree_from nodes slot ∷ present_of (slots_from nodes x))) q
          ∙ ap (λ x. map (tree_in nodes) entries ++ (tree_from nodes slot ∷ present_of x)) h.rest
          ∙ ap (λ x. map (tree_in nodes) entries ++ present_of x) (sym (h.all ∙ ap (λ o. o ∷ h.others) t.slot)) ∙ g.trees;
    }

pub gathered_left : (nodes : List NodeView) (from slot end : ℕ) (entries : List (List ℕ × ℕ)) (k : NodeKind) → Gathered nodes from slot entries → slot < length nodes → k ≡ (view_at nodes slot).kind → is_kept false k ≡ false → end ≡ (view_at nodes slot).end → Gathered nodes from end entries
gathered_left nodes from slot end entries k g l e f q =
    let h = slot_here nodes slot g.slots l in
    let none : h.slot ≡ None = left_none false h.slot (ap (is_kept false) (sym h.kind ∙ sym e) ∙ f) in
    record {
      slots = subst (AreSlots nodes) (sym q) h.next;
      texts = g.texts;
      trees =
          ap (λ x. map (tree_in nodes) entries ++ present_of (slots_from nodes x)) q ∙ ap (λ x. map (tree_in nodes) entries ++ present_of x) h.rest
          ∙ ap (λ x. map (tree_in nodes) entries ++ present_of x) (sym (h.all ∙ ap (λ o. o ∷ h.others) none)) ∙ g.trees;
    }

insert_all : {X : Type 0} (P : X → Type 0) (cmp : X → X → Ordering) (x : X) (xs : List X) → P x → AllByRecursion P xs → AllByRecursion P (insert_in_order cmp x xs)
insert_all P cmp x [] p a = (p, tt)
insert_all P cmp x (y ∷ ys) p a = elim (is_gt (cmp x y)) as (λ b. AllByRecursion P (if b then y ∷ insert_in_order cmp x ys else x ∷ y ∷ ys)) [
  | true ↦ (a.0, insert_all P cmp x ys p a.1)
  | false ↦ (p, a)
]

sort_all : {X : Type 0} (P : X → Type 0) (cmp : X → X → Ordering) (xs : List X) → AllByRecursion P xs → AllByRecursion P (sort cmp xs)
sort_all P cmp [] a = tt
sort_all P cmp (x ∷ xs) a = insert_all P cmp x (sort cmp xs) a.0 (sort_all P cmp xs a.1)

stand_entries : (nodes : List NodeView) (es : List (List ℕ × ℕ)) → AllByRecursion (IsEntry nodes) es → StandAt nodes (map value_of es) (map Some (map (tree_from nodes) (map value_of es)))
stand_entries nodes [] a = stand_none nodes
stand_entries nodes (e ∷ es) a = stand_cons nodes (value_of e) (map value_of es) (Some (tree_in nodes e)) (map Some (map (tree_from nodes) (map value_of es))) (a.0).lists (stand_entries nodes es a.1)

entry_texts : (nodes : List NodeView) (es : List (List ℕ × ℕ)) → AllByRecursion (IsEntry nodes) es → AllByRecursion (λ p. text_of p ≡ print 0 (tree_from nodes (value_of p))) es
entry_texts nodes [] a = tt
entry_texts nodes (e ∷ es) a = ((a.0).text, entry_texts nodes es a.1)

map-map : {A B C : Type 0} (f : B → C) (g : A → B) (xs : List A) → map f (map g xs) ≡ map (λ x. f (g x)) xs
map-map f g [] = refl
map-map f g (x ∷ xs) = ap (λ l. f (g x) ∷ l) (map-map f g xs)

-- The places of the entries in the order of their texts.
pub stand_sorted : (nodes : List NodeView) (from slot : ℕ) (entries : List (List ℕ × ℕ)) (places : List ℕ) → Gathered nodes from slot entries → length nodes ≤ slot → places ≡ map value_of (sort (by_text text_of) entries) → StandAt nodes places (map Some (in_text_order (present_of (slots_from nodes from))))
stand_sorted nodes from slot entries places g l e =
    let each = recursion_from_All (IsEntry nodes) entries g.texts in
    let order = sort (by_text text_of) entries in
    let all : map (tree_from nodes) (map value_of entries) ≡ present_of (slots_from nodes from) =
    map-map (tree_from nodes) value_of entries ∙ sym (append-nil (map (tree_in nodes) entries)) ∙ ap (λ x. map (tree_in nodes) entries ++ present_of x) (sym (no_slot nodes slot l)) ∙ g.trees in
    let sorted : map (tree_from nodes) (map value_of order) ≡ in_text_order (present_of (slots_from nodes from)) =
    trees-sorted (print 0) (tree_from nodes) entries (map value_of entries) (map value_of order) refl (entry_texts nodes entries each) refl ∙ ap in_text_order all in
    subst (λ x. StandAt nodes x (map Some (in_text_order (present_of (slots_from nodes from))))) (sym e)
    (subst (λ x. StandAt nodes (map value_of order) (map Some x)) sorted (stand_entries nodes order (sort_all (IsEntry nodes) (by_text text_of) entries each)))

-- The last tree so far, and the slots that are left.
pub record LastSoFar (nodes : List NodeView) (from slot : ℕ) (last : Option ℕ) : Type 0 where
  pub slots : AreSlots nodes slot
  pub found : last_present (slots_from nodes from) ≡ or_some (last_present (slots_from nodes slot)) (option_map (tree_from nodes) last)
  pub lists : IfSome last (λ p. Lists nodes p (preorder [] (tree_from nodes p)))

pub last_begun : (nodes : List NodeView) (from : ℕ) → AreSlots nodes from → LastSoFar nodes from from None
last_begun nodes from a = record { slots = a; found = sym (or_some-none (last_present (slots_from nodes from))); lists = tt }

pub last_more : (nodes : List NodeView) (from slot end : ℕ) (last : Option ℕ) (k : NodeKind) → LastSoFar nodes from slot last → slot < length nodes → k ≡ (view_at nodes slot).kind → is_kept false k ≡ true → end ≡ (view_at nodes slot).end → LastSoFar nodes from end (Some slot)
last_more nodes from slot end last k g l e f q =
    let h = slot_here nodes slot g.slots l in
    let t = tree_here nodes slot h k e f in
    record {
      slots = subst (AreSlots nodes) (sym q) h.next;
      found =
          g.found ∙ ap (λ x. or_some (last_present x) (option_map (tree_from nodes) last)) (h.all ∙ ap (λ o. o ∷ h.others) t.slot)
          ∙ or_some-assoc (last_present h.others) (Some (tree_from nodes slot)) (option_map (tree_from nodes) last)
          ∙ ap (λ x. or_some (last_present x) (Some (tree_from nodes slot))) (sym h.rest) ∙ ap (λ x. or_some (last_present (slots_from nodes x)) (Some (tree_from nodes slot))) (sym q);
      lists = t.lists;
    }

pub last_left : (nodes : List NodeView) (from slot end : ℕ) (last : Option ℕ) (k : NodeKind) → LastSoFar nodes from slot last → slot < length nodes → k ≡ (view_at nodes slot).kind → is_kept false k ≡ false → end ≡ (view_at nodes slot).end → LastSoFar nodes from end last
last_left nodes from slot end last k g l e f q =
    let h = slot_here nodes slot g.slots l in
    let none : h.slot ≡ None = left_none false h.slot (ap (is_kept false) (sym h.kind ∙ sym e) ∙ f) in
    let was = option_map (tree_from nodes) last in
    record {
      slots = subst (AreSlots nodes) (sym q) h.next;
      found =
          g.found ∙ ap (λ x. or_some (last_present x) was) (h.all ∙ ap (λ o. o ∷ h.others) none)
          ∙ ap (λ x. or_some x was) (or_some-none (last_present h.others)) ∙ ap (λ x. or_some (last_present x) was) (sym h.rest) ∙ ap (λ x. or_some (last_present (slots_from nodes x)) was) (sym q);
      lists = g.lists;
    }

pub last_found : (nodes : List NodeView) (from slot : ℕ) (last : Option ℕ) → LastSoFar nodes from slot last → length nodes ≤ slot → IsLastPlace nodes from last
last_found nodes from slot None g l = g.found ∙ ap (λ x. or_some (last_present x) None) (no_slot nodes slot l)
last_found nodes from slot (Some p) g l = (tree_from nodes p, g.found ∙ ap (λ x. or_some (last_present x) (Some (tree_from nodes p))) (no_slot nodes slot l), g.lists)
