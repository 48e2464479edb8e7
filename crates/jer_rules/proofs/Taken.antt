-- Arrays and objects that are taken apart.
use Rattle.std.proofs.Common.{◌≡◌, refl, sym, ap, ◌∙◌, ℕ, zero, suc, ◌<◌, List, [], ◌∷◌, map, length, drop, drop-cons, get_or, subst, Option, Some, None, true, false, cond, String, Global, BTreeMap, Ordering, Less, Equal, Greater, arith}
use Rattle.std.proofs.lemmas.Map.Text.{btree_map_updates_text}
use Rattle.std.specs.BTreeMap.{get_by_text, UpdatesBy}
use Rattle.std.specs.Cmp.Lexicographic.{slice_cmp}
use Rattle.std.specs.Ordering.{nat_cmp, match_ordering}
use Rattle.std.specs.Prelude.{option_map, string_bytes, string_cmp}
use Rattle.std.specs.Str.{bytes_eq}
use Rattle.serde_json.proofs.Views.{view-lookup}
use Rattle.serde_json.specs.Data.{Data, Items, Members}
use Rattle.serde_json.specs.Find.{get_member}
use Rattle.serde_json.specs.View.{view, items_view, members_view}
use Rattle.serde_json.specs.declared.value.Value.{Value}
use Rattle.asn_slots.proofs.Names.{other_bytes, other_parts, distinct_parts}
use Rattle.asn_slots.specs.Trees.{trees_of}
use Rattle.asn_coding.specs.Opening.{AllBelow}
use Rattle.asn_traits.specs.Shape.{is_item, are_distinct}
use Rattle.asn_traits.specs.Tree.{Tree, Slot, slot_nodes, data_nodes, items_nodes, members_nodes, item_slots, member_slot}
use Rattle.jer_rules.specs.Pending.{tree_of, TakesFields}

abbrev Entries : Type 0
Entries = BTreeMap (String Global) Value

-- The entry of this name, if there is one, is gone, and no other.
abbrev Removes : List ℕ → Entries → Entries → Type 0
Removes name old new = UpdatesBy string_cmp (λ k. slice_cmp nat_cmp name (string_bytes k)) old new None

-- The elements are present slots.
pub present_slots : (vs : List Value) → trees_of tree_of (map Some vs) ≡ item_slots (items_view vs)
present_slots [] = refl
present_slots (v ∷ vs) = ap (λ l. Some (tree_of v) ∷ l) (present_slots vs)

pub length-item_slots : (vs : List Value) → length (item_slots (items_view vs)) ≡ length vs
length-item_slots [] = refl
length-item_slots (v ∷ vs) = omega (arith, length-item_slots vs)

-- Each element has fewer nodes than the array.
pub items_below : (ds : Items) (n : ℕ) → items_nodes ds < n → AllBelow n (item_slots ds)
items_below Items.no_items n h = tt
items_below (Items.item d ds) n h = (omega (arith, h), items_below ds n (omega (arith, h)))

-- No name after that at a place is its own.
none_later : (names : List (List ℕ)) (place : ℕ) → place < length names → are_distinct names ≡ true → is_item (drop (suc place) names) (get_or names place []) ≡ false
none_later [] place below e = absurd (omega (arith, below))
none_later (name ∷ names) zero below e = (distinct_parts (is_item names name) (are_distinct names) e).0
none_later (name ∷ names) (suc place) below e = none_later names place (omega (arith, below)) (distinct_parts (is_item names name) (are_distinct names) e).1

-- A taken value is the slot of its name.
pub slot-found : (found : Option Value) (ms : Members) (name : List ℕ) → option_map view found ≡ get_member name ms → option_map tree_of found ≡ member_slot ms name
slot-found None ms name e = ap (option_map Tree.json) e
slot-found (Some v) ms name e = ap (option_map Tree.json) e

-- A removal leaves the members of other names.
others-kept : (name : List ℕ) (old new : Entries) → Removes name old new
    → (other : List ℕ) → bytes_eq other name ≡ false → get_member other (members_view new.entries) ≡ get_member other (members_view old.entries)
others-kept name old new removed other differ =
    sym (view-lookup other new.entries)
    ∙ ap (option_map view) (btree_map_updates_text name old new None removed other ∙ ap (λ b. cond b None (get_by_text old other)) (other_bytes other name differ))
    ∙ view-lookup other old.entries

-- Nothing is taken by no names.
pub takes_none : (all : Members) (before : List Slot) → TakesFields [] all all before before
takes_none all before = record { slots = refl; others = λ name h. refl }

-- One more field is taken by its removal.
takes_one : (name : List ℕ) (names : List (List ℕ)) (all : Members) (old new : Entries) (found : Option Value) (before mid after : List Slot) → is_item names name ≡ false
    → TakesFields names all (members_view old.entries) before mid → found ≡ get_by_text old name → Removes name old new → after ≡ option_map tree_of found ∷ mid
    → TakesFields (name ∷ names) all (members_view new.entries) before after
takes_one name names all old new found before mid after apart taken is removed put =
    let here : option_map view found ≡ get_member name all = ap (option_map view) is ∙ view-lookup name old.entries ∙ taken.others name apart in record {
      slots = put ∙ ap (λ s. s ∷ mid) (slot-found found all name here) ∙ ap (λ l. member_slot all name ∷ l) taken.slots;
      others = λ other h.
          let differ = other_parts (bytes_eq other name) (is_item names other) h in
          others-kept name old new removed other differ.0 ∙ taken.others other differ.1;
    }

-- The field at a place is taken after those that follow it.
pub takes_more : (names : List (List ℕ)) (place next : ℕ) (name : List ℕ) (all : Members) (old new : Entries) (found : Option Value) (before mid after : List Slot) → place < length names → next ≡ suc place → are_distinct names ≡ true → name ≡ get_or names place []
    → TakesFields (drop next names) all (members_view old.entries) before mid → found ≡ get_by_text old name → Removes name old new → after ≡ option_map tree_of found ∷ mid
    → TakesFields (drop place names) all (members_view new.entries) before after
takes_more names place next name all old new found before mid after below step e named taken is removed put =
    let later : TakesFields (drop (suc place) names) all (members_view old.entries) before mid = subst (λ k. TakesFields (drop k names) all (members_view old.entries) before mid) step taken in
    let apart : is_item (drop (suc place) names) name ≡ false = ap (is_item (drop (suc place) names)) named ∙ none_later names place below e in
    let here : name ∷ drop (suc place) names ≡ drop place names = ap (λ n. n ∷ drop (suc place) names) named ∙ sym (drop-cons names place [] below) in
    subst (λ l. TakesFields l all (members_view new.entries) before after) here (takes_one name (drop (suc place) names) all old new found before mid after apart later is removed put)

below_found : (o : Ordering) (d : Data) (rest : Option Data) (n : ℕ) → data_nodes d < n → slot_nodes (option_map Tree.json rest) < n → slot_nodes (option_map Tree.json (match_ordering o rest (Some d) rest)) < n
below_found Less d rest n h k = k
below_found Equal d rest n h k = h
below_found Greater d rest n h k = k

-- Each member has fewer nodes than the object.
pub member_below : (ms : Members) (name : List ℕ) (n : ℕ) → members_nodes ms < n → slot_nodes (member_slot ms name) < n
member_below Members.no_members name n h = omega (arith, h)
member_below (Members.member k d ms) name n h = below_found (slice_cmp nat_cmp name k) d (get_member name ms) n (omega (arith, h)) (member_below ms name n (omega (arith, h)))

pub members_below : (ms : Members) (names : List (List ℕ)) (n : ℕ) → members_nodes ms < n → AllBelow n (map (member_slot ms) names)
members_below ms [] n h = tt
members_below ms (name ∷ names) n h = (member_below ms name n h, members_below ms names n h)
