-- What JER writes nests no deeper than what it read.
use Rattle.std.proofs.Common.{◌≡◌, refl, ap, sym, subst, arith, ℕ, ℤ, suc, ◌≤◌, List, [], ◌∷◌, map, length, ◌==◌, Bool, true, false, if◌then◌else◌, Option, Some, None, Result, Ok, Err, Ordering, Less, Equal, Greater, option_map}
use Rattle.std.specs.Ordering.{nat_cmp, match_ordering}
use Rattle.std.specs.Cmp.Lexicographic.{slice_cmp}
use Rattle.std.specs.Str.{chars}
use Rattle.std.specs.List.{AllByRecursion, slice_split}
use Rattle.std.specs.Prelude.{codes, option_and_then}
use Rattle.std.specs.Int.{div_ceil}
use Rattle.hex.specs.Hex.{decode_of}
use Rattle.hex.specs.declared.error.FromHexError.{FromHexError}
use Rattle.asn_core.specs.BitStrings.{bits_of}
use Rattle.asn_core.specs.ObjectIdentifiers.{is_object_identifier}
use Rattle.asn_core.specs.declared.codec.Codec.TheVariants.{Jer}
use Rattle.asn_core.specs.declared.tag.Tag.{Tag}
use Rattle.asn_strings.specs.Alphabets.{is_bmp, place_outside}
use Rattle.asn_times.specs.Meanings.{day_of_text, generalized_of_text, utc_of_text}
use Rattle.asn_fault.specs.Failure.{Cause}
use Rattle.serde_json.specs.Data.{Data, Num, Items, Members, put, depth, items_depth, members_depth}
use Rattle.serde_json.specs.Find.{as_str, get_member}
use Rattle.serde_json.specs.Written.{compact_text}
use Rattle.asn_model.specs.Canonical.{jer_data, jer_items, jer_members, sorted_items, canonical_text}
use Rattle.asn_model.specs.CharacterStrings.{alphabet_number, alphabet_of, bmp_number, universal_tag}
use Rattle.asn_model.specs.Arcs.{arc_numbers, identifier_or}
use Rattle.asn_model.specs.BitLeaves.{no_bits, sized_bits}
use Rattle.asn_model.specs.Decimals.{is_decimal}
use Rattle.asn_model.specs.Leaf.{LeafFailure, leaf, declared_bits, length_in, octets_or, or_blame, as_leaf, kind_of, refine, refined, time_or, within_alphabet}
use Rattle.asn_model.specs.Notation.{Notation}
use Rattle.asn_model.specs.Range.{is_between}
use Rattle.asn_model.specs.Sorting.{by_text}
use Rattle.asn_model.specs.DecodesTo.{DecodesTo, EachDecodesTo, FieldsDecodeTo}
use Rattle.asn_model.specs.Shape.{Shape, Fields, all_fields, is_item, all_items, field_names}
use Rattle.asn_model.specs.Tree.{Tree, Slot, as_list, as_members, as_choice, item_slots, member_slot}
use Rattle.asn_model.specs.Value.{Value, Values, Slots, elements, is_kept, sort_values, value_cmp}
use Rattle.asn_model.specs.declared.leaves.LeafKind.{LeafKind}
use Rattle.asn_model.proofs.Bags.{each-ordered, jer_items-sorted}
use Rattle.asn_model.proofs.Entries.{table-depth}
use Rattle.asn_model.specs.declared.leaves.LeafKind.TheVariants.{Null, Boolean, Number, Text, Time, Date, Item, Octets, Any, Oid, Bits}

-- How deep a tree of JSON nests.
abbrev tree_depth : Tree → ℕ
tree_depth (Tree.json d) = depth d
tree_depth (Tree.avn t) = 0

abbrev slot_depth : Slot → ℕ
slot_depth None = 0
slot_depth (Some t) = tree_depth t

-- Each slot nests at most so deep.
abbrev AllWithin : ℕ → List Slot → Type 0
AllWithin n [] = Unit {0}
AllWithin n (s ∷ ss) = (slot_depth s ≤ n) × AllWithin n ss

ordered-depth : (o : Ordering) (a b c : Members) (n : ℕ) → members_depth a ≤ n → members_depth b ≤ n → members_depth c ≤ n → members_depth (match_ordering o a b c) ≤ n
ordered-depth Less a b c n p q r = p
ordered-depth Equal a b c n p q r = q
ordered-depth Greater a b c n p q r = r

put-depth : (k : List ℕ) (d : Data) (ms : Members) (n : ℕ) → depth d ≤ n → members_depth ms ≤ n → members_depth (put k d ms) ≤ n
put-depth k d Members.no_members n p q = omega arith
put-depth k d (Members.member l e ms) n p q =
    ordered-depth (slice_cmp nat_cmp k l) (Members.member k d (Members.member l e ms)) (Members.member l d ms) (Members.member l e (put k d ms)) n (omega arith) (omega arith) (omega (arith, put-depth k d ms n p (omega arith)))

found_at : (o : Ordering) (a b : Option Data) (n : ℕ) → slot_depth (option_map Tree.json a) ≤ n → slot_depth (option_map Tree.json b) ≤ n → slot_depth (option_map Tree.json (match_ordering o a b a)) ≤ n
found_at Less a b n p q = p
found_at Equal a b n p q = q
found_at Greater a b n p q = p

member-depth : (ms : Members) (name : List ℕ) → slot_depth (member_slot ms name) ≤ members_depth ms
member-depth Members.no_members name = omega arith
member-depth (Members.member l e ms) name = found_at (slice_cmp nat_cmp name l) (get_member name ms) (Some e) _ (omega (arith, member-depth ms name)) (omega arith)

items-within : (ds : Items) (n : ℕ) → items_depth ds ≤ n → AllWithin n (item_slots ds)
items-within Items.no_items n h = tt
items-within (Items.item d ds) n h = (omega (arith, h), items-within ds n (omega (arith, h)))

-- How deep the tree of an answer nests.
abbrev answer_depth : Result Value LeafFailure → ℕ
answer_depth (Ok v) = depth (jer_data v)
answer_depth (Err b) = 0

abbrev leaf_depth : Option (Result Value LeafFailure) → ℕ
leaf_depth None = 0
leaf_depth (Some r) = answer_depth r

octets-flat : (r : Result (List ℕ) FromHexError) → answer_depth (octets_or r) ≡ 0
octets-flat (Ok o) = refl
octets-flat (Err e) = refl

-- The bits of a fixed size are a text, and other bits an object of a number and a text.
size-depth : (size : Option ℕ) (bits : List Bool) → depth (jer_data (Value.bits bits size)) ≤ 1
size-depth None bits = omega arith
size-depth (Some n) bits = omega arith

sized-depth : (b : Bool) (size : Option ℕ) (bits : List Bool) (cause : Cause) (n : ℕ) → depth (jer_data (Value.bits bits size)) ≤ n → answer_depth (or_blame (if b then Ok (Value.bits bits size) else Err cause)) ≤ n
sized-depth true size bits cause n h = h
sized-depth false size bits cause n h = omega arith

-- Bits nest no deeper than what is written for them.
bits-depth : (size : Option ℕ) (k : ℕ) (bad : Cause) (r : Result (List ℕ) FromHexError) (n : ℕ) → ((bits : List Bool) → depth (jer_data (Value.bits bits size)) ≤ n) → answer_depth (or_blame (sized_bits size k bad r)) ≤ n
bits-depth size k bad (Ok o) n h = sized-depth (length o == div_ceil k 8) size (bits_of o k) _ n (h (bits_of o k))
bits-depth size k bad (Err e) n h = omega arith

declared-depth : (digits : Option (List ℕ)) (size : Option ℕ) (n : ℕ) → 1 ≤ n → answer_depth (declared_bits digits size) ≤ n
declared-depth (Some x) (Some k) n h = bits-depth None k no_bits (decode_of x) n (λ bits. omega (arith, size-depth None bits, h))
declared-depth digits size n h = omega arith

tested-flat : (b : Bool) (v : Value) (blame : LeafFailure) (n : ℕ) → depth (jer_data v) ≤ n → answer_depth (if b then Ok v else Err blame) ≤ n
tested-flat true v blame n h = h
tested-flat false v blame n h = omega arith

identifier-depth : (cause : Cause) (o : Option (List ℕ)) → answer_depth (or_blame (identifier_or cause o)) ≡ 0
identifier-depth cause None = refl
identifier-depth cause (Some arcs) = by (is_object_identifier arcs)
  where
    by : (b : Bool) → answer_depth (or_blame (if b then Ok (Value.arcs arcs) else Err cause)) ≡ 0
    by true = refl
    by false = refl

-- A value without parts nests no deeper than the tree that is it.
kind-flat : (k : LeafKind) (t : Tree) → answer_depth (as_leaf Notation.jer k t) ≤ tree_depth t
kind-flat Null (Tree.json Data.null) = omega arith
kind-flat Boolean (Tree.json (Data.boolean b)) = omega arith
kind-flat Number (Tree.json (Data.number (Num.unsigned n))) = omega arith
kind-flat Number (Tree.json (Data.number (Num.negative z))) = omega arith
kind-flat Text (Tree.json (Data.string x)) = omega arith
kind-flat Time (Tree.json (Data.string x)) = omega arith
kind-flat Date (Tree.json (Data.string x)) = omega arith
kind-flat Item (Tree.json (Data.string x)) = omega arith
kind-flat Octets (Tree.json (Data.string x)) = omega (arith, octets-flat (decode_of x))
kind-flat Any (Tree.json (Data.string x)) = omega (arith, octets-flat (decode_of x))
kind-flat Oid (Tree.json (Data.string x)) = omega (arith, identifier-depth (Cause.invalid_oid_string (compact_text (Data.string x))) (arc_numbers (slice_split (λ c. c == 46) x)))
kind-flat (Bits None) (Tree.json (Data.object ms)) = declared-depth (option_and_then as_str (get_member (codes "value") ms)) (option_and_then length_in (get_member (codes "length") ms)) _ (omega arith)
kind-flat (Bits (Some size)) (Tree.json (Data.string x)) = bits-depth (Some size) size Cause.invalid_jer_octet_string (decode_of x) 0 (λ bits. omega arith)
kind-flat k t = omega arith

placed-flat : (tag : Tag) (v : Value) (place : Option ℕ) (n : ℕ) → depth (jer_data v) ≤ n → answer_depth (within_alphabet tag v place) ≤ n
placed-flat tag v None n h = h
placed-flat tag v (Some place) n h = omega arith

timed-flat : (text : List ℕ) (value : ℤ → Value) (o : Option ℤ) (n : ℕ) → ((k : ℤ) → depth (jer_data (value k)) ≤ n) → answer_depth (time_or text value o) ≤ n
timed-flat text value None n h = omega arith
timed-flat text value (Some k) n h = h k

refine-flat : (s : Shape) (v : Value) (n : ℕ) → depth (jer_data v) ≤ n → answer_depth (refine Jer s v) ≤ n
refine-flat (Shape.int l g w) (Value.int k) n h = tested-flat (is_between l g k) (Value.int k) _ n h
refine-flat (Shape.enum items added) (Value.item i) n h = tested-flat (is_item (all_items items added) i) (Value.item i) _ n h
refine-flat (Shape.text a) (Value.text t) n h = placed-flat (universal_tag (alphabet_number a)) (Value.text t) (place_outside (alphabet_of a) (chars t)) n h
refine-flat Shape.bmp (Value.text t) n h = placed-flat (universal_tag bmp_number) (Value.units (chars t)) (place_outside is_bmp (chars t)) n h
refine-flat Shape.utc (Value.text t) n h = timed-flat t Value.utc (utc_of_text t) n (λ k. h)
refine-flat Shape.gen (Value.text t) n h = timed-flat t Value.gen (generalized_of_text t) n (λ k. h)
refine-flat Shape.day (Value.text t) n h = timed-flat t Value.day (day_of_text t) n (λ k. h)
refine-flat Shape.decimal (Value.text t) n h = tested-flat (is_decimal t) (Value.text t) _ n h
refine-flat s v n h = h

refined-flat : (s : Shape) (r : Result Value LeafFailure) (n : ℕ) → answer_depth r ≤ n → answer_depth (refined Jer s r) ≤ n
refined-flat s (Ok v) n h = refine-flat s v n h
refined-flat s (Err b) n h = omega arith

leaf-flat : (s : Shape) (t : Tree) → leaf_depth (leaf Notation.jer s t) ≤ tree_depth t
leaf-flat s t = by (kind_of s)
  where
    by : (o : Option LeafKind) → leaf_depth (option_map (λ k. refined Jer s (as_leaf Notation.jer k t)) o) ≤ tree_depth t
    by None = omega arith
    by (Some k) = refined-flat s (as_leaf Notation.jer k t) (tree_depth t) (kind-flat k t)

pub no_list : {A : Type 0} {P : Type 0} {x : A} → ◌≡◌ {A = Option A} None (Some x) → P
no_list e = cc e

pub same_some : {A : Type 0} {x y : A} → ◌≡◌ {A = Option A} (Some x) (Some y) → x ≡ y
same_some e = cc e

-- A tree that is opened nests one deeper than so deep, and its parts no deeper.
record Opened (t : Tree) (Parts : ℕ → Type 0) : Type 0 where
  pub inner : ℕ
  pub outer : tree_depth t ≡ suc inner
  pub parts : Parts inner

list-opened : (t : Tree) (slots : List Slot) → as_list Notation.jer t ≡ Some slots → Opened t (λ n. AllWithin n slots)
list-opened (Tree.json (Data.array ds)) slots e = record { inner = items_depth ds; outer = refl; parts = subst (AllWithin (items_depth ds)) (same_some e) (items-within ds (items_depth ds) (omega arith)) }
list-opened (Tree.json d) slots e = no_list e
list-opened (Tree.avn t) slots e = no_list e

members-opened : (t : Tree) (look : List ℕ → Slot) → as_members Notation.jer t ≡ Some look → Opened t (λ n. (name : List ℕ) → slot_depth (look name) ≤ n)
members-opened (Tree.json (Data.object ms)) look e = record { inner = members_depth ms; outer = refl; parts = λ name. subst (λ (l : List ℕ → Slot). slot_depth (l name) ≤ members_depth ms) (same_some e) (member-depth ms name) }
members-opened (Tree.json d) look e = no_list e
members-opened (Tree.avn t) look e = no_list e

abbrev second : {A B : Type 0} → A × B → B
second p = p.1

pub no_first : {A P : Type 0} {x : A} → ◌≡◌ {A = Option (Option A)} (Some None) (Some (Some x)) → P
no_first e = cc e

pub same_first : {A : Type 0} {x y : A} → ◌≡◌ {A = Option (Option A)} (Some (Some x)) (Some (Some y)) → x ≡ y
same_first e = cc e

choice-opened : (t : Tree) (name : List ℕ) (u : Tree) → as_choice Notation.jer t ≡ Some (Some (name, u)) → suc (tree_depth u) ≤ tree_depth t
choice-opened (Tree.json (Data.object Members.no_members)) name u e = no_first e
choice-opened (Tree.json (Data.object (Members.member n d Members.no_members))) name u e = subst (λ x. suc (tree_depth x) ≤ depth (Data.object (Members.member n d Members.no_members))) (ap (λ (p : List ℕ × Tree). p.1) (same_first e)) (omega arith)
choice-opened (Tree.json (Data.object (Members.member n d (Members.member m f ms)))) name u e = no_list e
choice-opened (Tree.json d) name u e = no_list e
choice-opened (Tree.avn t) name u e = no_list e

looked-within : (look : List ℕ → Slot) (n : ℕ) → ((name : List ℕ) → slot_depth (look name) ≤ n) → (names : List (List ℕ)) → AllWithin n (map look names)
looked-within look n h [] = tt
looked-within look n h (m ∷ ms) = (h m, looked-within look n h ms)

kept-depth : (b : Bool) (name : List ℕ) (v : Value) (vs : Slots) (n : ℕ) → depth (jer_data v) ≤ n → members_depth (jer_members vs) ≤ n → members_depth (jer_members (if b then Slots.present name v vs else Slots.absent name vs)) ≤ n
kept-depth true name v vs n h k = put-depth name (jer_data v) (jer_members vs) n h k
kept-depth false name v vs n h k = k

-- What JER writes for the value nests at most so deep.
abbrev NestsWithin : ℕ → Value → Type 0
NestsWithin n v = depth (jer_data v) ≤ n

items-below : (n : ℕ) (vs : Values) → AllByRecursion (NestsWithin n) (elements vs) → items_depth (jer_items vs) ≤ n
items-below n Values.no_values h = omega arith
items-below n (Values.value v vs) h = omega (arith, h.0, items-below n vs h.1)

-- The elements of a set nest no deeper in another order.
set-below : (n : ℕ) (vs : Values) → AllByRecursion (NestsWithin n) (elements vs) → items_depth (sorted_items (jer_items (sort_values vs))) ≤ n
set-below n vs h =
    subst (λ ds. items_depth ds ≤ n) (sym (jer_items-sorted (sort_values vs)))
    (items-below n _ (each-ordered (NestsWithin n) (by_text (canonical_text Notation.jer)) (sort_values vs) (each-ordered (NestsWithin n) value_cmp vs h)))

no_other : {P : Type 0} → Notation.jer ≡ Notation.other → P
no_other e = cc e

mutual
  -- What JER writes for a value that a slot decodes to nests no deeper than the slot's tree.
  pub decodes-depth : {s : Shape} {slot : Slot} {v : Value} → DecodesTo Notation.jer s slot v → depth (jer_data v) ≤ slot_depth slot
  decodes-depth (DecodesTo.decodes_leaf s t v e) = subst (λ o. leaf_depth o ≤ tree_depth t) e (leaf-flat s t)
  decodes-depth (DecodesTo.decodes_seq kind fs more t look vs e single h) =
      let o = members-opened t look e in
      let below = fields-depth o.inner h (looked-within look o.inner o.parts (field_names (all_fields fs more))) in omega (arith, below, o.outer)
  decodes-depth (DecodesTo.decodes_list s t slots vs e h) =
      let o = list-opened t slots e in
      let below = items-below o.inner vs (each-depth o.inner h o.parts) in omega (arith, below, o.outer)
  decodes-depth (DecodesTo.decodes_set s t slots vs e h) =
      let o = list-opened t slots e in
      let below = set-below o.inner vs (each-depth o.inner h o.parts) in omega (arith, below, o.outer)
  decodes-depth (DecodesTo.decodes_table s t vs h) = let below = decodes-depth h in let fewer = table-depth vs in omega (arith, below, fewer)
  decodes-depth (DecodesTo.decodes_choice alts added t name u id s v e f h) = let below = decodes-depth h in let outer = choice-opened t name u e in omega (arith, below, outer)
  decodes-depth (DecodesTo.decodes_loop body t v h) = decodes-depth h
  decodes-depth (DecodesTo.decodes_free s slot v e) = no_other e

  each-depth : {s : Shape} {slots : List Slot} {vs : Values} (n : ℕ) → EachDecodesTo Notation.jer s slots vs → AllWithin n slots → AllByRecursion (NestsWithin n) (elements vs)
  each-depth n (EachDecodesTo.decodes_none s) w = tt
  each-depth n (EachDecodesTo.decodes_one s slot rest v vs h hs) w = let first = decodes-depth h in (omega (arith, first, w.0), each-depth n hs w.1)

  fields-depth : {fs : Fields} {slots : List Slot} {vs : Slots} (n : ℕ) → FieldsDecodeTo Notation.jer fs slots vs → AllWithin n slots → members_depth (jer_members vs) ≤ n
  fields-depth n FieldsDecodeTo.decodes_end w = omega arith
  fields-depth n (FieldsDecodeTo.decodes_present name g p s fs slot rest v vs h hs) w =
      let first = decodes-depth h in
      kept-depth (is_kept p v) name v vs n (omega (arith, first, w.0)) (fields-depth n hs w.1)
  fields-depth n (FieldsDecodeTo.decodes_absent name g p s fs rest vs lack hs) w = fields-depth n hs w.1
