-- Walks over the elements and the fields of a node.
use Rattle.std.proofs.Common.{◌≡◌, ◌≢◌, ℕ, suc, ◌+◌, ◌<◌, ◌≤◌, List, [], ◌∷◌, ◌++◌, map, length, set, replicate, Option, Some, None, Bool, true, false, is_some, nat_eq, nat_le, refl, sym, ap, subst, ◌∙◌, arith, append_assoc}
use Rattle.std.specs.Prelude.{option_map}
use Rattle.std.specs.List.{All, AllByRecursion}
use Rattle.std.proofs.lemmas.Bool.{eqb-true, le-leb}
use Rattle.std.proofs.lemmas.List.{append-nil, map-append, map-set, length-map, length-set, length-replicate}
use Rattle.std.proofs.lemmas.List.Elements.{All-from_recursion, All-push, All-set, All-replicate}
use Rattle.avn_grammar.specs.Tree.{Tree as AvnTree, Trees as AvnTrees, Fields as AvnFields, sequence, sequence_of, choice, tree, no_trees, no_fields, field, absent}
use Rattle.avn_nodes.proofs.Walks.{From, from_inside, FirstField, first_field, FirstItem, first_item, entry, kind_present}
use Rattle.avn_nodes.specs.NodeViews.{kind_of}
use Rattle.avn_nodes.specs.Preorder.{NamedSlot, choice_with, descendants, fields_preorder, list_preorder, slot_descendants, node_at, tree_at, node_count}
use Rattle.avn_nodes.specs.declared.node_kind.NodeKind.TheVariants as kind
use Rattle.asn_slots.specs.Trees.{trees_of}
use Rattle.asn_traits.specs.Notation.{Notation}
use Rattle.asn_traits.specs.Shape.{are_distinct}
use Rattle.asn_traits.specs.Tree.{Tree, Slot, as_choice, as_list, as_members, is_repeated, times_present, tree_slots, field_slot}
use Rattle.asn_coding.specs.Opening.{IsFirstRepeated}
use Rattle.asn_names.specs.Rows.{NameRow, row_names}
use Rattle.avn_rules.specs.Parts.{AreFieldSlots, place_of_slot}
use Rattle.avn_rules.specs.Pending.{IsPresent, IsSlot, avn_or_null, value_at}
use Rattle.avn_rules.proofs.Repeats.{absent_kept, EachMet, KeptIsMet, Keeps, none_met, each_other, each_more, kept_more, none_twice, kept_first}
use Rattle.avn_rules.proofs.Taken.{over, over-none, over-absent, over-other, put_at, not_placed}

-- The value of what stands at a node.
abbrev seen : Option AvnTree → Tree
seen o = Tree.avn (avn_or_null o)

-- Which braces without parts are lists, and which have fields.

some_or_none : (n : ℕ) (b : Bool) → nat_eq (suc n) 0 ≡ b → b ≡ false
some_or_none n false e = refl
some_or_none n true e = let z : suc n ≡ 0 = eqb-true (suc n) 0 e in absurd (omega (arith, z))

not_none : (n : ℕ) → nat_eq (suc n) 0 ≡ false
not_none n = some_or_none n (nat_eq (suc n) 0) refl

pub list_of_no_fields : (o : Option AvnTree) → kind_of o ≡ kind.Sequence → nat_eq (length (slot_descendants o)) 0 ≡ is_some (as_list Notation.avn (seen o))
unfolding descendants
list_of_no_fields (Some (sequence no_fields)) e = refl
list_of_no_fields (Some (sequence (field id t fs))) e = not_none _
list_of_no_fields (Some (sequence (absent id fs))) e = not_none _
list_of_no_fields o e = let n : ⊥ = cc in absurd n

pub members_of_no_elements : (o : Option AvnTree) → kind_of o ≡ kind.SequenceOf → nat_eq (length (slot_descendants o)) 0 ≡ is_some (as_members Notation.avn (seen o))
unfolding descendants
members_of_no_elements (Some (sequence_of no_trees)) e = refl
members_of_no_elements (Some (sequence_of (tree t ts))) e = not_none _
members_of_no_elements o e = let n : ⊥ = cc in absurd n

-- What is not there is none.
pub none_there : {A : Type 0} (o : Option A) → is_some o ≡ false → o ≡ None
none_there None e = refl
none_there (Some x) e = let n : ⊥ = cc in absurd n

-- The parts that a node has.

pub list_parts : (o : Option AvnTree) → is_some (as_list Notation.avn (seen o)) ≡ true → (ts : AvnTrees) × (slot_descendants o ≡ list_preorder ts) × (as_list Notation.avn (seen o) ≡ Some (tree_slots ts))
unfolding descendants
list_parts (Some (sequence_of ts)) e = (ts, refl, refl)
list_parts (Some (sequence no_fields)) e = (no_trees, refl, refl)
list_parts o e = let n : ⊥ = cc in absurd n

pub members_parts : (o : Option AvnTree) → is_some (as_members Notation.avn (seen o)) ≡ true
    → (fs : AvnFields) × (slot_descendants o ≡ fields_preorder fs) × (as_members Notation.avn (seen o) ≡ Some (field_slot fs)) × ((name : List ℕ) → is_repeated Notation.avn (seen o) name ≡ nat_le 2 (times_present fs name))
unfolding descendants
members_parts (Some (sequence fs)) e = (fs, refl, refl, λ name. refl)
members_parts (Some (sequence_of no_trees)) e = (no_fields, refl, refl, λ name. refl)
members_parts o e = let n : ⊥ = cc in absurd n

payload_parts : (s : NamedSlot) → kind_of s.1 ≢ kind.Absent → as_choice Notation.avn (seen (choice_with s)) ≡ Some (Some (s.0, seen s.1))
payload_parts (id, None) h = absurd (h refl)
payload_parts (id, Some t) h = refl

pub choice_parts : (root : AvnTree) (node payload : ℕ) (name : List ℕ) → tree_at root node ≡ choice_with (node_at root payload) → kind_of (tree_at root payload) ≢ kind.Absent → name ≡ (node_at root payload).0 → as_choice Notation.avn (value_at root node) ≡ Some (Some (name, value_at root payload))
choice_parts root node payload name e p is = ap (λ o. as_choice Notation.avn (seen o)) e ∙ payload_parts (node_at root payload) p ∙ ap (λ n. Some (Some (n, value_at root payload))) (sym is)

pub no_choice_here : (o : Option AvnTree) → kind_of o ≢ kind.Choice → as_choice Notation.avn (seen o) ≡ None
no_choice_here None h = refl
no_choice_here (Some (choice id t)) h = absurd (h refl)
no_choice_here (Some t) h = refl

-- The elements that are left.
pub record Left (root : AvnTree) (item end : ℕ) : Type 0 where
  pub others : AvnTrees
  pub from : From root item (list_preorder others)
  pub ends : item + length (list_preorder others) ≡ end

unfoldable pub left_begun : (root : AvnTree) (node end : ℕ) (ts : AvnTrees) → node < node_count root → slot_descendants (tree_at root node) ≡ list_preorder ts → end ≡ node + length (slot_descendants (tree_at root node)) + 1 → Left root (node + 1) end
left_begun root node end ts h parts e = record {
  others = ts;
  from = subst (From root (node + 1)) parts (from_inside root node h);
  ends = omega (arith, e, ap (λ (x : List NamedSlot). length x) parts);
}

unfoldable pub left_first : (root : AvnTree) (item end : ℕ) (g : Left root item end) → item < end → FirstItem root item g.others
left_first root item end g h = first_item root item g.others (omega (arith, g.ends)) g.from

pub item_is : (root : AvnTree) (item : ℕ) (ts : AvnTrees) (f : FirstItem root item ts) → tree_at root item ≡ Some f.item
item_is root item ts f = ap (λ (s : NamedSlot). s.1) f.here

pub item_present : (root : AvnTree) (item : ℕ) (ts : AvnTrees) → FirstItem root item ts → IsPresent root item
item_present root item ts f = (f.below, λ k. kind_present f.item (sym (ap kind_of (item_is root item ts f)) ∙ k))

unfoldable pub left_more : (root : AvnTree) (item end next : ℕ) (g : Left root item end) (f : FirstItem root item g.others) → next ≡ item + length (slot_descendants (tree_at root item)) + 1 → Left root next end
left_more root item end next g f e =
    let q = f.next next (e ∙ ap (λ o. item + length (slot_descendants o) + 1) (item_is root item g.others f)) in
    record { others = f.others; from = q.0; ends = omega (arith, q.1, g.ends) }

pub none_left : (ts : AvnTrees) → length (list_preorder ts) ≡ 0 → ts ≡ no_trees
unfolding descendants
none_left no_trees e = refl
none_left (tree t ts) e = absurd (omega (arith, e))

pub left_done : (root : AvnTree) (item end : ℕ) (g : Left root item end) → end ≤ item → g.others ≡ no_trees
left_done root item end g h = none_left g.others (omega (arith, g.ends))

-- The elements that were taken, and those that are left.
pub record ItemsLeft (root : AvnTree) (node item end : ℕ) (items : List ℕ) : Type 0 where
  pub left : Left root item end
  pub slots : List Slot
  pub list : as_list Notation.avn (value_at root node) ≡ Some slots
  pub taken : trees_of (value_at root) (map Some items) ++ tree_slots left.others ≡ slots
  pub present : All (IsPresent root) items

pub items_begun : (root : AvnTree) (node end : ℕ) (items : List ℕ) → IsPresent root node → is_some (as_list Notation.avn (value_at root node)) ≡ true → end ≡ node + length (slot_descendants (tree_at root node)) + 1 → items ≡ [] → ItemsLeft root node (node + 1) end items
unfolding list_parts left_begun
items_begun root node end items h some e none =
    let p = list_parts (tree_at root node) some in
    subst (ItemsLeft root node (node + 1) end) (sym none) (record { left = left_begun root node end p.0 h.0 p.1 e; slots = tree_slots p.0; list = p.2; taken = refl; present = λ i d l. absurd (omega (arith, l)) })

pub items_more : (root : AvnTree) (node item end next : ℕ) (items later : List ℕ) → ItemsLeft root node item end items → item < end → next ≡ item + length (slot_descendants (tree_at root item)) + 1 → later ≡ items ++ (item ∷ []) → ItemsLeft root node next end later
unfolding left_more left_first
items_more root node item end next items later g h e n =
    let f = left_first root item end g.left h in
    let see = value_at root in
    let here : see item ≡ Tree.avn f.item = ap seen (item_is root item g.left.others f) in
    let P : ℕ → Type 0 = IsPresent root in
    subst (ItemsLeft root node next end) (sym n) (record {
      left = left_more root item end next g.left f e;
      slots = g.slots;
      list = g.list;
      taken =
          ap (λ x. trees_of see x ++ tree_slots f.others) (map-append Some items (item ∷ []))
          ∙ ap (λ x. x ++ tree_slots f.others) (map-append (option_map see) (map Some items) (Some item ∷ []))
          ∙ append_assoc (trees_of see (map Some items)) (Some (see item) ∷ []) (tree_slots f.others)
          ∙ ap (λ x. trees_of see (map Some items) ++ (Some x ∷ tree_slots f.others)) here
          ∙ sym (ap (λ x. trees_of see (map Some items) ++ tree_slots x) f.is)
          ∙ g.taken;
      present = All-push P items item g.present (item_present root item g.left.others f);
    })

pub items_done : (root : AvnTree) (node item end : ℕ) (items : List ℕ) → ItemsLeft root node item end items → end ≤ item → as_list Notation.avn (value_at root node) ≡ Some (trees_of (value_at root) (map Some items))
items_done root node item end items g h =
    let taken = trees_of (value_at root) (map Some items) in
    g.list ∙ ap Some (sym g.taken ∙ ap (λ x. taken ++ tree_slots x) (left_done root item end g.left h) ∙ append-nil taken)

-- The slots of the fields that were taken, the first of the rows whose names were met twice, and the fields that are left.
pub record FieldsLeft (root : AvnTree) (node child end : ℕ) (rows : List NameRow) (slots : List (Option ℕ)) (kept : Option NameRow) : Type 0 where
  pub others : AvnFields
  pub from : From root child (fields_preorder others)
  pub ends : child + length (fields_preorder others) ≡ end
  pub whole : AvnFields
  pub members : as_members Notation.avn (value_at root node) ≡ Some (field_slot whole)
  pub taken : over others (row_names rows) (trees_of (value_at root) slots) ≡ map (field_slot whole) (row_names rows)
  pub each : length slots ≡ length rows
  pub held : All (IsSlot root) slots
  pub counted : (name : List ℕ) → is_repeated Notation.avn (value_at root node) name ≡ nat_le 2 (times_present whole name)
  pub met : EachMet whole others kept rows slots
  pub kept_met : KeptIsMet whole others rows kept

pub fields_begun : (root : AvnTree) (node end : ℕ) (rows : List NameRow) (slots : List (Option ℕ)) → IsPresent root node → is_some (as_members Notation.avn (value_at root node)) ≡ true → end ≡ node + length (slot_descendants (tree_at root node)) + 1 → slots ≡ replicate (length rows) None
    → FieldsLeft root node (node + 1) end rows slots None
fields_begun root node end rows slots h some e none =
    let p = members_parts (tree_at root node) some in
    let P : Option ℕ → Type 0 = IsSlot root in
    let names = row_names rows in
    let many : length names ≡ length rows = length-map rows (λ (r : NameRow). r.name) in
    subst (λ l. FieldsLeft root node (node + 1) end rows l None) (sym none) (record {
      others = p.0;
      from = subst (From root (node + 1)) p.1 (from_inside root node h.0);
      ends = omega (arith, e, ap (λ (x : List NamedSlot). length x) p.1);
      whole = p.0;
      members = p.2;
      taken = subst (λ n. over p.0 names (trees_of (value_at root) (replicate n None)) ≡ map (field_slot p.0) names) many (over-absent (value_at root) p.0 names);
      each = length-replicate (length rows) None;
      held = All-replicate P (length rows) None tt;
      counted = p.3;
      met = none_met p.0 rows;
      kept_met = tt;
    })

pub fields_first : (root : AvnTree) (node child end : ℕ) (rows : List NameRow) (slots : List (Option ℕ)) (kept : Option NameRow) (g : FieldsLeft root node child end rows slots kept) → child < end → FirstField root child g.others
fields_first root node child end rows slots kept g h = first_field root child g.others (omega (arith, g.ends)) g.from

-- The entry's slot is put at its place, or passed over where it has none.
abbrev pub with_slot : Option ℕ → ℕ → List (Option ℕ) → List (Option ℕ)
with_slot (Some k) child slots = set slots k (Some child)
with_slot None child slots = slots

entry_taken : (root : AvnTree) (child : ℕ) (id : List ℕ) (o : Option AvnTree) (fs : AvnFields) (names : List (List ℕ)) (slots : List (Option ℕ)) (p : Option ℕ) → are_distinct names ≡ true → node_at root child ≡ (id, o) → p ≡ place_of_slot names (id, o)
    → over fs names (trees_of (value_at root) (with_slot p child slots)) ≡ over (entry id o fs) names (trees_of (value_at root) slots)
entry_taken root child id None fs names slots None d e h = refl
entry_taken root child id None fs names slots (Some k) d e h = let x : ◌≡◌ {A = Option ℕ} (Some k) None = h in cc x
entry_taken root child id (Some t) fs names slots None d e h = sym (over-other id t fs names (trees_of (value_at root) slots) (not_placed names id h))
entry_taken root child id (Some t) fs names slots (Some k) d e h =
    let here : value_at root child ≡ Tree.avn t = ap (λ (s : NamedSlot). seen s.1) e in
    ap (over fs names) (map-set (option_map (value_at root)) slots k (Some child) ∙ ap (λ x. set (trees_of (value_at root) slots) k (Some x)) here) ∙ sym (put_at id t fs names (trees_of (value_at root) slots) k d h)

entry_held : (root : AvnTree) (child : ℕ) (id : List ℕ) (o : Option AvnTree) (names : List (List ℕ)) (slots : List (Option ℕ)) (p : Option ℕ) → child < node_count root → node_at root child ≡ (id, o) → p ≡ place_of_slot names (id, o) → All (IsSlot root) slots → All (IsSlot root) (with_slot p child slots)
entry_held root child id o names slots None l e h k = k
entry_held root child id None names slots (Some j) l e h k = let x : ◌≡◌ {A = Option ℕ} (Some j) None = h in cc x
entry_held root child id (Some t) names slots (Some j) l e h k =
    let P : Option ℕ → Type 0 = IsSlot root in All-set P slots j (Some child) (l, λ n. kind_present t (sym (ap (λ (s : NamedSlot). kind_of s.1) e) ∙ n)) k

entry_long : (slots : List (Option ℕ)) (p : Option ℕ) (child : ℕ) → length (with_slot p child slots) ≡ length slots
entry_long slots None child = refl
entry_long slots (Some k) child = length-set slots k (Some child)

entry_met : (all : AvnFields) (child : ℕ) (id : List ℕ) (o : Option AvnTree) (fs : AvnFields) (kept later : Option NameRow) (rows : List NameRow) (slots : List (Option ℕ)) (p : Option ℕ) → are_distinct (row_names rows) ≡ true → p ≡ place_of_slot (row_names rows) (id, o) → Keeps rows slots kept p later
    → EachMet all (entry id o fs) kept rows slots → EachMet all fs later rows (with_slot p child slots)
entry_met all child id None fs kept later rows slots None d h (Keeps.passed) m = m
entry_met all child id None fs kept later rows slots (Some k) d h w m = let x : ◌≡◌ {A = Option ℕ} (Some k) None = h in cc x
entry_met all child id (Some t) fs kept later rows slots None d h (Keeps.passed) m = each_other all id t fs kept rows slots (not_placed (row_names rows) id h) m
entry_met all child id (Some t) fs kept later rows slots (Some k) d h w m = each_more all id t fs kept later rows slots k child d h w m

entry_kept : (all : AvnFields) (id : List ℕ) (o : Option AvnTree) (fs : AvnFields) (kept later : Option NameRow) (rows : List NameRow) (slots : List (Option ℕ)) (p : Option ℕ) → p ≡ place_of_slot (row_names rows) (id, o) → Keeps rows slots kept p later → EachMet all (entry id o fs) kept rows slots
    → KeptIsMet all (entry id o fs) rows kept → KeptIsMet all fs rows later
entry_kept all id None fs kept later rows slots None h (Keeps.passed) m k = absent_kept all id fs rows kept k
entry_kept all id None fs kept later rows slots (Some j) h w m k = let x : ◌≡◌ {A = Option ℕ} (Some j) None = h in cc x
entry_kept all id (Some t) fs kept later rows slots p h w m k = kept_more all id t fs kept later rows slots p h w m k

pub fields_more : (root : AvnTree) (node child end next : ℕ) (rows : List NameRow) (slots later : List (Option ℕ)) (kept then : Option NameRow) (p : Option ℕ) (g : FieldsLeft root node child end rows slots kept) → child < end → are_distinct (row_names rows) ≡ true
    → next ≡ child + length (slot_descendants (tree_at root child)) + 1 → p ≡ place_of_slot (row_names rows) (node_at root child) → Keeps rows slots kept p then → later ≡ with_slot p child slots → FieldsLeft root node next end rows later then
fields_more root node child end next rows slots later kept then p g h d e r keeps n =
    let names = row_names rows in
    let f = fields_first root node child end rows slots kept g h in
    let q = f.next next (e ∙ ap (λ (s : NamedSlot). child + length (slot_descendants s.1) + 1) f.here) in
    let here : p ≡ place_of_slot names (f.id, f.slot) = r ∙ ap (place_of_slot names) f.here in
    let met : EachMet g.whole (entry f.id f.slot f.others) kept rows slots = subst (λ x. EachMet g.whole x kept rows slots) f.is g.met in
    subst (λ l. FieldsLeft root node next end rows l then) (sym n) (record {
      others = f.others;
      from = q.0;
      ends = omega (arith, q.1, g.ends);
      whole = g.whole;
      members = g.members;
      taken = entry_taken root child f.id f.slot f.others names slots p d f.here here ∙ ap (λ x. over x names (trees_of (value_at root) slots)) (sym f.is) ∙ g.taken;
      each = entry_long slots p child ∙ g.each;
      held = entry_held root child f.id f.slot names slots p f.below f.here here g.held;
      counted = g.counted;
      met = entry_met g.whole child f.id f.slot f.others kept then rows slots p d here keeps met;
      kept_met = entry_kept g.whole f.id f.slot f.others kept then rows slots p here keeps met (subst (λ x. KeptIsMet g.whole x rows kept) f.is g.kept_met);
    })

no_fields_left : (fs : AvnFields) → length (fields_preorder fs) ≡ 0 → fs ≡ no_fields
unfolding descendants
no_fields_left no_fields e = refl
no_fields_left (field id t fs) e = absurd (omega (arith, e))
no_fields_left (absent id fs) e = absurd (omega (arith, e))

same_look : (a b : List ℕ → Slot) → Some a ≡ Some b → a ≡ b
same_look a b e = cc

fields_done : (root : AvnTree) (node child end : ℕ) (rows : List NameRow) (slots : List (Option ℕ)) (kept : Option NameRow) → FieldsLeft root node child end rows slots kept → end ≤ child → (look : List ℕ → Slot) → as_members Notation.avn (value_at root node) ≡ Some look → trees_of (value_at root) slots ≡ map look (row_names rows)
fields_done root node child end rows slots kept g h look e =
    let found = trees_of (value_at root) slots in
    let names = row_names rows in
    sym (over-none names found (length-map slots (option_map (value_at root)) ∙ g.each ∙ sym (length-map rows (λ (r : NameRow). r.name)))) ∙ ap (λ x. over x names found) (sym (no_fields_left g.others (omega (arith, g.ends)))) ∙ g.taken
    ∙ ap (λ (l : List ℕ → Slot). map l names) (same_look (field_slot g.whole) look (sym g.members ∙ e))

-- Where no row was kept, no name is repeated.
fields_once : (root : AvnTree) (node child end : ℕ) (rows : List NameRow) (slots : List (Option ℕ)) → FieldsLeft root node child end rows slots None → end ≤ child → All (λ name. is_repeated Notation.avn (value_at root node) name ≡ false) (row_names rows)
fields_once root node child end rows slots g h =
    let P : List ℕ → Type 0 = λ name. is_repeated Notation.avn (value_at root node) name ≡ false in
    let met = subst (λ x. EachMet g.whole x None rows slots) (no_fields_left g.others (omega (arith, g.ends))) g.met in
    All-from_recursion P (row_names rows) (each_of (row_names rows) (none_twice g.whole rows slots met))
  where
    each_of : (l : List (List ℕ)) → AllByRecursion (λ name. nat_le 2 (times_present g.whole name) ≡ false) l → AllByRecursion (λ name. is_repeated Notation.avn (value_at root node) name ≡ false) l
    each_of [] m = tt
    each_of (name ∷ l) m = (g.counted name ∙ m.0, each_of l m.1)

-- Where no row was kept, the slots are those of the rows.
pub fields_found : (root : AvnTree) (node child end : ℕ) (rows : List NameRow) (slots : List (Option ℕ)) → FieldsLeft root node child end rows slots None → end ≤ child → AreFieldSlots root node rows slots
fields_found root node child end rows slots g h = record { at = fields_done root node child end rows slots None g h; held = g.held; once = fields_once root node child end rows slots g h }

-- A row that was kept is the first whose name is repeated.
pub fields_repeated : (root : AvnTree) (node child end : ℕ) (rows : List NameRow) (slots : List (Option ℕ)) (kept : NameRow) → FieldsLeft root node child end rows slots (Some kept) → end ≤ child → IsFirstRepeated Notation.avn (value_at root node) rows kept
fields_repeated root node child end rows slots kept g h =
    let P : NameRow → Type 0 = λ other. is_repeated Notation.avn (value_at root node) other.name ≡ true → kept.index ≤ other.index in
    let none = no_fields_left g.others (omega (arith, g.ends)) in
    let met = subst (λ x. EachMet g.whole x (Some kept) rows slots) none g.met in
    record {
      listed = g.kept_met.0;
      repeated = g.counted kept.name ∙ le-leb 2 (times_present g.whole kept.name) (omega (arith, g.kept_met.1));
      first = All-from_recursion P rows (each_of rows (kept_first g.whole kept rows slots met));
    }
  where
    each_of : (l : List NameRow) → AllByRecursion (λ (row : NameRow). nat_le 2 (times_present g.whole row.name) ≡ true → kept.index ≤ row.index) l
        → AllByRecursion (λ (other : NameRow). is_repeated Notation.avn (value_at root node) other.name ≡ true → kept.index ≤ other.index) l
    each_of [] m = tt
    each_of (row ∷ l) m = ((λ e. m.0 (sym (g.counted row.name) ∙ e)), each_of l m.1)
