-- Lists, sequences and choices that are taken apart.
use Rattle.std.proofs.Common.{◌≡◌, refl, ap, sym, ◌∙◌, ℕ, suc, ◌<◌, List, [], ◌∷◌, map, length, Option, Some, None, Bool, true, false, if◌then◌else◌, replicate, set, arith}
use Rattle.std.specs.Prelude.{option_map}
use Rattle.std.specs.Str.{bytes_eq}
use Rattle.std.proofs.lemmas.Slice.Eq.{bytes_eq-Decides}
use Rattle.avn_grammar.specs.Tree.{Tree as AvnTree, Trees as AvnTrees, Fields as AvnFields, sequence, sequence_of, choice, tree, no_trees, no_fields, field, absent}
use Rattle.asn_slots.proofs.Lasts.{or_some-assoc, or_some-none}
use Rattle.asn_slots.proofs.Names.{same_bytes, other_bytes, other_parts, distinct_parts}
use Rattle.asn_slots.specs.Trees.{trees_of}
use Rattle.asn_traits.specs.Notation.{Notation}
use Rattle.asn_coding.specs.Opening.{AllBelow}
use Rattle.asn_traits.specs.Shape.{are_distinct, is_item, place_named}
use Rattle.asn_traits.specs.Tree.{Tree, Slot, as_list, as_members, as_choice, slot_nodes, nodes, trees_nodes, fields_nodes, tree_slots, field_slot, or_else}

slots_below : (ts : AvnTrees) (n : ℕ) → trees_nodes ts < n → AllBelow n (tree_slots ts)
slots_below no_trees n h = tt
slots_below (tree t ts) n h = (omega (arith, h), slots_below ts n (omega (arith, h)))

or_else-below : (a b : Slot) (n : ℕ) → slot_nodes a < n → slot_nodes b < n → slot_nodes (or_else a b) < n
or_else-below (Some t) b n h k = h
or_else-below None b n h k = k

if-below : (c : Bool) (t : Tree) (n : ℕ) → nodes t < n → slot_nodes (if c then Some t else None) < n
if-below true t n h = h
if-below false t n h = omega (arith, h)

field_below : (fs : AvnFields) (name : List ℕ) (n : ℕ) → fields_nodes fs < n → slot_nodes (field_slot fs name) < n
field_below no_fields name n h = omega (arith, h)
field_below (field m t fs) name n h =
    or_else-below (field_slot fs name) (if bytes_eq name m then Some (Tree.avn t) else None) n (field_below fs name n (omega (arith, h))) (if-below (bytes_eq name m) (Tree.avn t) n (omega (arith, h)))
field_below (absent m fs) name n h = field_below fs name n h

look_below : (look : List ℕ → Slot) (names : List (List ℕ)) (n : ℕ) → ((name : List ℕ) → slot_nodes (look name) < n) → AllBelow n (map look names)
look_below look [] n h = tt
look_below look (name ∷ names) n h = (h name, look_below look names n h)

some-clash : {A P : Type 0} (x : A) → None ≡ Some x → P
some-clash x e = cc e

-- Each element of a list has fewer nodes than the list.
pub list_below : (t : AvnTree) (slots : List Slot) → as_list Notation.avn (Tree.avn t) ≡ Some slots → AllBelow (nodes (Tree.avn t)) slots
list_below (sequence_of ts) slots e = let x : ◌≡◌ {A = Option (List Slot)} (Some (tree_slots ts)) (Some slots) = e in let same : tree_slots ts ≡ slots = cc x in rw (← same) (slots_below ts _ (omega arith))
list_below (sequence no_fields) slots e = let x : ◌≡◌ {A = Option (List Slot)} (Some []) (Some slots) = e in let same : [] ≡ slots = cc x in rw (← same) tt
list_below t slots e = some-clash slots e

-- Each field of a sequence has fewer nodes than the sequence.
pub members_below : (t : AvnTree) (fs : AvnFields) (names : List (List ℕ)) → as_members Notation.avn (Tree.avn t) ≡ Some (field_slot fs) → AllBelow (nodes (Tree.avn t)) (map (field_slot fs) names)
members_below (sequence gs) fs names e =
    let x : ◌≡◌ {A = Option (List ℕ → Slot)} (Some (field_slot gs)) (Some (field_slot fs)) = e in
    let same : field_slot gs ≡ field_slot fs = cc x in
    rw (← same) (look_below (field_slot gs) names _ (λ name. field_below gs name _ (omega arith)))
members_below (sequence_of no_trees) fs names e =
    let x : ◌≡◌ {A = Option (List ℕ → Slot)} (Some (λ n. None)) (Some (field_slot fs)) = e in
    let same : (λ n. None) ≡ field_slot fs = cc x in
    rw (← same) (look_below (λ n. None) names _ (λ name. omega arith))
members_below t fs names e = some-clash (field_slot fs) e

abbrev payload_or : Tree → Option (Option (List ℕ × Tree)) → Tree
payload_or u (Some (Some p)) = p.1
payload_or u _ = u

-- The payload of a choice has fewer nodes than the choice.
pub payload_below : (t : AvnTree) (name : List ℕ) (u : Tree) → as_choice Notation.avn (Tree.avn t) ≡ Some (Some (name, u)) → nodes u < nodes (Tree.avn t)
payload_below (choice n s) name u e = let same : Tree.avn s ≡ u = ap (payload_or u) e in rw (← same) (omega arith)
payload_below t name u e = some-clash (Some (name, u)) e

-- A choice has at least one node.
pub choice_above : (t : AvnTree) (name : List ℕ) (u : Tree) → as_choice Notation.avn (Tree.avn t) ≡ Some (Some (name, u)) → 0 < nodes (Tree.avn t)
choice_above t name u e = omega (arith, payload_below t name u e)

-- The slots of the names in further fields, or else those that are there.
abbrev pub over : AvnFields → List (List ℕ) → List Slot → List Slot
over fs [] ss = []
over fs (n ∷ ns) [] = []
over fs (n ∷ ns) (s ∷ ss) = or_else (field_slot fs n) s ∷ over fs ns ss

-- At first no slot is there.
pub over-absent : {V : Type 0} (see : V → Tree) (fs : AvnFields) (names : List (List ℕ)) → over fs names (trees_of see (replicate (length names) None)) ≡ map (field_slot fs) names
over-absent see fs [] = refl
over-absent see fs (n ∷ ns) = ap (λ l. or_else (field_slot fs n) None ∷ l) (over-absent see fs ns) ∙ ap (λ s. s ∷ map (field_slot fs) ns) (or_some-none (field_slot fs n))

-- Without further fields the slots are those that are there.
pub over-none : (names : List (List ℕ)) (ss : List Slot) → length ss ≡ length names → over no_fields names ss ≡ ss
over-none [] [] e = refl
over-none [] (s ∷ ss) e = absurd (omega (arith, e))
over-none (n ∷ ns) [] e = refl
over-none (n ∷ ns) (s ∷ ss) e = ap (λ l. s ∷ l) (over-none ns ss (omega (arith, e)))

at_field : (name m : List ℕ) (t : AvnTree) (fs : AvnFields) (s : Slot) (b : Bool) → bytes_eq name m ≡ b → or_else (field_slot (field m t fs) name) s ≡ or_else (field_slot fs name) (if b then Some (Tree.avn t) else s)
at_field name m t fs s true e = ap (λ b. or_else (or_else (field_slot fs name) (if b then Some (Tree.avn t) else None)) s) e ∙ or_some-assoc (field_slot fs name) (Some (Tree.avn t)) s
at_field name m t fs s false e = ap (λ b. or_else (or_else (field_slot fs name) (if b then Some (Tree.avn t) else None)) s) e ∙ or_some-assoc (field_slot fs name) None s

-- A field of none of the names changes no slot.
pub over-other : (m : List ℕ) (t : AvnTree) (fs : AvnFields) (names : List (List ℕ)) (ss : List Slot) → is_item names m ≡ false → over (field m t fs) names ss ≡ over fs names ss
over-other m t fs [] ss h = refl
over-other m t fs (n ∷ ns) [] h = refl
over-other m t fs (n ∷ ns) (s ∷ ss) h =
    let apart = other_parts (bytes_eq m n) (is_item ns m) h in
    ap (λ l. or_else (field_slot (field m t fs) n) s ∷ l) (over-other m t fs ns ss apart.1) ∙ ap (λ x. x ∷ over fs ns ss) (at_field n m t fs s false (other_bytes m n apart.0))

over-first : (m n : List ℕ) (t : AvnTree) (fs : AvnFields) (ns : List (List ℕ)) (s : Slot) (ss : List Slot) → bytes_eq m n ≡ true → is_item ns n ≡ false
    → over (field m t fs) (n ∷ ns) (s ∷ ss) ≡ or_else (field_slot fs n) (Some (Tree.avn t)) ∷ over fs ns ss
over-first m n t fs ns s ss here apart =
    let same : n ≡ m = sym ((bytes_eq-Decides m n).0 here) in
    ap (λ l. or_else (field_slot (field m t fs) n) s ∷ l) (over-other m t fs ns ss (ap (is_item ns) (sym same) ∙ apart)) ∙ ap (λ x. x ∷ over fs ns ss) (at_field n m t fs s true (same_bytes m n here))

over-later : (m n : List ℕ) (t : AvnTree) (fs : AvnFields) (ns : List (List ℕ)) (s : Slot) (ss ts : List Slot) → bytes_eq m n ≡ false → over (field m t fs) ns ss ≡ over fs ns ts
    → over (field m t fs) (n ∷ ns) (s ∷ ss) ≡ over fs (n ∷ ns) (s ∷ ts)
over-later m n t fs ns s ss ts other e =
    ap (λ l. or_else (field_slot (field m t fs) n) s ∷ l) e ∙ ap (λ x. x ∷ over fs ns ts) (at_field n m t fs s false (other_bytes m n other))

-- A field that is put at the place of its name counts as those before it.
abbrev Put : List ℕ → AvnTree → AvnFields → List (List ℕ) → List Slot → ℕ → Type 0
Put m t fs names ss k = over (field m t fs) names ss ≡ over fs names (set ss k (Some (Tree.avn t)))

put_here : (m : List ℕ) (t : AvnTree) (fs : AvnFields) (n : List ℕ) (ns : List (List ℕ)) (s : Slot) (ss : List Slot) (k : ℕ) (b : Bool) → bytes_eq m n ≡ b → are_distinct (n ∷ ns) ≡ true
    → ((j : ℕ) → are_distinct ns ≡ true → Some j ≡ place_named bytes_eq ns m → Put m t fs ns ss j) → (o : Option ℕ) → o ≡ place_named bytes_eq ns m → Some k ≡ (if b then Some 0 else option_map suc o) → Put m t fs (n ∷ ns) (s ∷ ss) k
put_here m t fs n ns s ss k true h d later o p e =
    let x : ◌≡◌ {A = Option ℕ} (Some k) (Some 0) = e in
    let zeroth : k ≡ 0 = cc x in
    over-first m n t fs ns s ss h (distinct_parts (is_item ns n) (are_distinct ns) d).0 ∙ ap (λ j. over fs (n ∷ ns) (set (s ∷ ss) j (Some (Tree.avn t)))) (sym zeroth)
put_here m t fs n ns s ss k false h d later None p e = let x : ◌≡◌ {A = Option ℕ} (Some k) None = e in cc x
put_here m t fs n ns s ss k false h d later (Some j) p e =
    let x : ◌≡◌ {A = Option ℕ} (Some k) (Some (suc j)) = e in
    let next : k ≡ suc j = cc x in
    over-later m n t fs ns s ss (set ss j (Some (Tree.avn t))) h (later j (distinct_parts (is_item ns n) (are_distinct ns) d).1 p)
    ∙ ap (λ i. over fs (n ∷ ns) (set (s ∷ ss) i (Some (Tree.avn t)))) (sym next)

pub put_at : (m : List ℕ) (t : AvnTree) (fs : AvnFields) (names : List (List ℕ)) (ss : List Slot) (k : ℕ) → are_distinct names ≡ true → Some k ≡ place_named bytes_eq names m → Put m t fs names ss k
put_at m t fs [] ss k d e = refl
put_at m t fs (n ∷ ns) [] k d e = refl
put_at m t fs (n ∷ ns) (s ∷ ss) k d e = put_here m t fs n ns s ss k (bytes_eq m n) refl d (λ j x y. put_at m t fs ns ss j x y) (place_named bytes_eq ns m) refl e

map_none : (o : Option ℕ) → None ≡ option_map suc o → None ≡ o
map_none None e = refl
map_none (Some k) e = cc e

-- A name that has no place is none of the names.
pub not_placed : (names : List (List ℕ)) (m : List ℕ) → None ≡ place_named bytes_eq names m → is_item names m ≡ false
not_placed [] m e = refl
not_placed (n ∷ ns) m e = elim (bytes_eq m n) as (λ b. None ≡ (if b then Some 0 else option_map suc (place_named bytes_eq ns m)) → (if b then true else is_item ns m) ≡ false) [
  | true ↦ λ h. cc h
  | false ↦ λ h. not_placed ns m (map_none (place_named bytes_eq ns m) h)
] e
