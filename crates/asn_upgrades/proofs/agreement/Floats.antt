-- A tree without a float has parts without one.
use Rattle.std.proofs.Common.{◌≡◌, ℕ, List, [], ◌∷◌, map, Option, Some, None, option_map, if◌then◌else◌, Bool, true, false, Ordering, Less, Equal, Greater, ap, subst}
use Rattle.std.proofs.lemmas.Bool.{or_parts}
use Rattle.std.specs.List.{AllByRecursion}
use Rattle.std.specs.Str.{bytes_eq}
use Rattle.std.specs.Cmp.Lexicographic.{slice_cmp}
use Rattle.std.specs.Ordering.{nat_cmp, match_ordering}
use Rattle.avn_grammar.specs.Tree.{Fields as AvnFields, Trees as AvnTrees, Tree as AvnTree}
use Rattle.serde_json.specs.Data.{Data, Items, Members}
use Rattle.serde_json.specs.Find.{get_member}
use Rattle.serde_json.specs.Written.{has_float, items_have_float, members_have_float}
use Rattle.asn_model.specs.Notation.{Notation}
use Rattle.asn_model.specs.Tree.{Tree, Slot, as_list, as_members, as_choice, item_slots, tree_slots, member_slot, field_slot, or_else}

-- The tree holds no float.
abbrev pub IsWhole : Tree → Type 0
IsWhole (Tree.json d) = has_float d ≡ false
IsWhole (Tree.avn t) = Unit {0}

-- So does a slot.
abbrev pub IsWholeSlot : Slot → Type 0
IsWholeSlot None = Unit {0}
IsWholeSlot (Some t) = IsWhole t

items-whole : (ds : Items) → items_have_float ds ≡ false → AllByRecursion IsWholeSlot (item_slots ds)
items-whole Items.no_items e = tt
items-whole (Items.item d ds) e = let (first, others) = or_parts (has_float d) (items_have_float ds) e in (first, items-whole ds others)

trees-whole : (ts : AvnTrees) → AllByRecursion IsWholeSlot (tree_slots ts)
trees-whole AvnTrees.no_trees = tt
trees-whole (AvnTrees.tree t ts) = (tt, trees-whole ts)

-- The elements of a list.
pub list-whole : (n : Notation) (t : Tree) (slots : List Slot) → IsWhole t → as_list n t ≡ Some slots → AllByRecursion IsWholeSlot slots
list-whole Notation.jer (Tree.json (Data.array ds)) slots w e = let s : item_slots ds ≡ slots = cc e in subst (AllByRecursion IsWholeSlot) s (items-whole ds w)
list-whole Notation.avn (Tree.avn (AvnTree.sequence_of ts)) slots w e = let s : tree_slots ts ≡ slots = cc e in subst (AllByRecursion IsWholeSlot) s (trees-whole ts)
list-whole Notation.avn (Tree.avn (AvnTree.sequence AvnFields.no_fields)) slots w e = let s : ◌≡◌ {A = List Slot} [] slots = cc e in subst (AllByRecursion IsWholeSlot) s tt
list-whole n t slots w e = let d : ◌≡◌ {A = Option (List Slot)} None (Some slots) = e in cc d

member-whole : (ms : Members) (name : List ℕ) → members_have_float ms ≡ false → IsWholeSlot (member_slot ms name)
member-whole Members.no_members name e = tt
member-whole (Members.member k d ms) name e =
    let (first, others) = or_parts (has_float d) (members_have_float ms) e in
    by (slice_cmp nat_cmp name k) first (member-whole ms name others)
  where
    by : (o : Ordering) → has_float d ≡ false → IsWholeSlot (member_slot ms name) → IsWholeSlot (option_map Tree.json (match_ordering o (get_member name ms) (Some d) (get_member name ms)))
    by Less first rest = rest
    by Equal first rest = first
    by Greater first rest = rest

field-whole : (fs : AvnFields) (name : List ℕ) → IsWholeSlot (field_slot fs name)
field-whole AvnFields.no_fields name = tt
field-whole (AvnFields.absent n fs) name = field-whole fs name
field-whole (AvnFields.field n t fs) name = by (field_slot fs name) (bytes_eq name n) (field-whole fs name)
  where
    by : (s : Slot) (b : Bool) → IsWholeSlot s → IsWholeSlot (or_else s (if b then Some (Tree.avn t) else None))
    by (Some u) b h = h
    by None true h = tt
    by None false h = tt

-- The members of a tree, by any name.
pub members-whole : (n : Notation) (t : Tree) (look : List ℕ → Slot) → IsWhole t → as_members n t ≡ Some look → (name : List ℕ) → IsWholeSlot (look name)
members-whole Notation.jer (Tree.json (Data.object ms)) look w e name = let s : member_slot ms ≡ look = cc e in subst (λ f. IsWholeSlot (f name)) s (member-whole ms name w)
members-whole Notation.avn (Tree.avn (AvnTree.sequence fs)) look w e name = let s : field_slot fs ≡ look = cc e in subst (λ f. IsWholeSlot (f name)) s (field-whole fs name)
members-whole Notation.avn (Tree.avn (AvnTree.sequence_of AvnTrees.no_trees)) look w e name = let s : ◌≡◌ {A = List ℕ → Slot} (λ m. None) look = cc e in subst (λ f. IsWholeSlot (f name)) s tt
members-whole n t look w e name = let d : ◌≡◌ {A = Option (List ℕ → Slot)} None (Some look) = e in cc d

-- The slots of these names.
pub slots-whole : (look : List ℕ → Slot) (names : List (List ℕ)) → ((name : List ℕ) → IsWholeSlot (look name)) → AllByRecursion IsWholeSlot (map look names)
slots-whole look [] h = tt
slots-whole look (name ∷ names) h = (h name, slots-whole look names h)

-- The payload of a choice.
pub payload-whole : (n : Notation) (t : Tree) (name : List ℕ) (u : Tree) → IsWhole t → as_choice n t ≡ Some (Some (name, u)) → IsWhole u
payload-whole Notation.jer (Tree.json (Data.object (Members.member k d Members.no_members))) name u w e =
    let m : ◌≡◌ {A = List ℕ × Tree} (k, Tree.json d) (name, u) = cc e in
    let (first, others) = or_parts (has_float d) false w in
    subst IsWhole (ap (λ (r : List ℕ × Tree). r.1) m) first
payload-whole Notation.avn (Tree.avn (AvnTree.choice k t)) name u w e =
    let m : ◌≡◌ {A = List ℕ × Tree} (k, Tree.avn t) (name, u) = cc e in
    subst IsWhole (ap (λ (r : List ℕ × Tree). r.1) m) tt
payload-whole Notation.jer (Tree.json (Data.object Members.no_members)) name u w e = let d : ◌≡◌ {A = Option (Option (List ℕ × Tree))} (Some None) (Some (Some (name, u))) = e in cc d
payload-whole n t name u w e = let d : ◌≡◌ {A = Option (Option (List ℕ × Tree))} None (Some (Some (name, u))) = e in cc d
