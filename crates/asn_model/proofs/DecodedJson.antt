-- What decodes from a JSON value can be written.
use Rattle.std.proofs.Common.{◌≡◌, refl, ap, sym, ◌∙◌, subst, arith, ℕ, ℤ, negsuc, ◌<◌, ◌^◌, ◌-◌, List, [], ◌∷◌, map, length, ◌==◌, Bool, true, false, if◌then◌else◌, Option, Some, None, Result, Ok, Err, Ordering, Less, Equal, Greater, option_map}
use Rattle.std.specs.Ordering.{nat_cmp, match_ordering}
use Rattle.std.specs.Cmp.Lexicographic.{slice_cmp}
use Rattle.std.specs.Str.{chars, is_utf8, all_scalars}
use Rattle.std.specs.List.{AllByRecursion, slice_split}
use Rattle.std.specs.Prelude.{codes, option_and_then}
use Rattle.std.specs.Int.{div_ceil}
use Rattle.std.proofs.lemmas.Bool.{eqb-true, ltb-true}
use Rattle.std.proofs.lemmas.Int.{ints}
use Rattle.std.proofs.lemmas.List.{length-take, length-take-le}
use Rattle.std.proofs.lemmas.Str.{IsUtf8-from_is_utf8, chars-encodes}
use Rattle.hex.specs.Hex.{decode_of}
use Rattle.hex.specs.declared.error.FromHexError.{FromHexError}
use Rattle.asn_core.specs.BitStrings.{all_bits, bits_of}
use Rattle.asn_core.specs.ObjectIdentifiers.{is_object_identifier}
use Rattle.asn_core.specs.declared.codec.Codec.TheVariants.{Jer}
use Rattle.asn_core.specs.declared.tag.Tag.{Tag}
use Rattle.asn_core.proofs.Padding.{length-all_bits}
use Rattle.asn_strings.specs.Alphabets.{is_bmp, place_outside}
use Rattle.asn_times.specs.Meanings.{day_of_text, generalized_of_text, utc_of_text}
use Rattle.asn_times.proofs.Meant.{day_means, generalized_means, utc_means}
use Rattle.asn_fault.specs.Failure.{Cause}
use Rattle.serde_json.specs.Data.{Data, Num, Items, Members}
use Rattle.serde_json.specs.Find.{as_str, get_member}
use Rattle.serde_json.specs.Written.{compact_text}
use Rattle.asn_model.specs.CharacterStrings.{alphabet_number, alphabet_of, bmp_number, universal_tag}
use Rattle.asn_model.specs.Arcs.{arc_numbers, identifier_or}
use Rattle.asn_model.specs.BitLeaves.{another_length, no_bits, sized_bits}
use Rattle.asn_model.specs.Decimals.{is_decimal}
use Rattle.asn_model.specs.HeldJson.{are_items_held, are_members_held, is_held}
use Rattle.asn_model.specs.Leaf.{LeafFailure, leaf, declared_bits, length_in, octets_or, or_blame, as_leaf, kind_of, refine, refined, time_or, within_alphabet}
use Rattle.asn_model.specs.Notation.{Notation}
use Rattle.asn_model.specs.Range.{is_between}
use Rattle.asn_model.specs.DecodesTo.{DecodesTo, EachDecodesTo, FieldsDecodeTo}
use Rattle.asn_model.specs.Shape.{Shape, Fields, all_fields, is_item, all_items, field_names}
use Rattle.asn_model.specs.Tree.{Tree, Slot, as_list, as_members, as_choice, item_slots, member_slot}
use Rattle.asn_model.specs.Value.{Value, Values, Slots, elements, is_kept, put_entries, put_entry, value_cmp, sort_values, key_of}
use Rattle.asn_model.specs.Writable.{Writable, WritableEach, WritableSlots}
use Rattle.asn_model.specs.declared.leaves.LeafKind.{LeafKind}
use Rattle.asn_model.specs.declared.leaves.LeafKind.TheVariants.{Null, Boolean, Number, Text, Time, Date, Item, Octets, Any, Oid, Bits}
use Rattle.asn_model.proofs.Bags.{each-ordered}
use Rattle.asn_model.proofs.Nesting.{no_first, no_list, same_first, same_some}
use Rattle.asn_model.proofs.Ranges.{inside}
use Rattle.asn_model.proofs.Readables.{and-left, and-right}

mutual
  -- AVN can write what JER can write.
  pub avn-writable : (v : Value) → Writable Notation.jer v → Writable Notation.avn v
  avn-writable Value.null h = tt
  avn-writable (Value.boolean b) h = tt
  avn-writable (Value.int n) h = tt
  avn-writable (Value.bits bits size) h = tt
  avn-writable (Value.octets o) h = tt
  avn-writable (Value.arcs a) h = tt
  avn-writable (Value.text t) h = h
  avn-writable (Value.units u) h = h
  avn-writable (Value.utc n) h = h
  avn-writable (Value.gen n) h = h
  avn-writable (Value.day n) h = h
  avn-writable (Value.item i) h = tt
  avn-writable (Value.members ms) h = avn-slots ms h
  avn-writable (Value.list vs) h = avn-each vs h
  avn-writable (Value.bag vs) h = avn-each vs h
  avn-writable (Value.choice i v) h = avn-writable v h

  avn-each : (vs : Values) → WritableEach Notation.jer vs → WritableEach Notation.avn vs
  avn-each Values.no_values h = tt
  avn-each (Values.value v vs) h = (avn-writable v h.0, avn-each vs h.1)

  avn-slots : (ms : Slots) → WritableSlots Notation.jer ms → WritableSlots Notation.avn ms
  avn-slots Slots.no_slots h = tt
  avn-slots (Slots.absent n ms) h = avn-slots ms h
  avn-slots (Slots.present n v ms) h = (avn-writable v h.0, avn-slots ms h.1)

abbrev Can : Value → Type 0
Can v = Writable Notation.jer v

-- A tree of JSON can be held.
abbrev IsHeld : Tree → Type 0
IsHeld (Tree.json d) = is_held d ≡ true
IsHeld (Tree.avn t) = Unit {0}

abbrev IsSlotHeld : Slot → Type 0
IsSlotHeld None = Unit {0}
IsSlotHeld (Some t) = IsHeld t

items-held : (ds : Items) → are_items_held ds ≡ true → AllByRecursion IsSlotHeld (item_slots ds)
items-held Items.no_items h = tt
items-held (Items.item d ds) h = (and-left (is_held d) (are_items_held ds) h, items-held ds (and-right (is_held d) (are_items_held ds) h))

found_at : (o : Ordering) (a b : Option Data) → IsSlotHeld (option_map Tree.json a) → IsSlotHeld (option_map Tree.json b) → IsSlotHeld (option_map Tree.json (match_ordering o a b a))
found_at Less a b p q = p
found_at Equal a b p q = q
found_at Greater a b p q = p

member-held : (ms : Members) → are_members_held ms ≡ true → (name : List ℕ) → IsSlotHeld (member_slot ms name)
member-held Members.no_members h name = tt
member-held (Members.member l e ms) h name = found_at (slice_cmp nat_cmp name l) (get_member name ms) (Some e) (member-held ms (and-right (is_held e) (are_members_held ms) h) name) (and-left (is_held e) (are_members_held ms) h)

-- The value of an answer can be written.
abbrev CanAnswer : Result Value LeafFailure → Type 0
CanAnswer (Ok v) = Can v
CanAnswer (Err b) = Unit {0}

abbrev CanLeaf : Option (Result Value LeafFailure) → Type 0
CanLeaf None = Unit {0}
CanLeaf (Some r) = CanAnswer r

octets-can : (r : Result (List ℕ) FromHexError) → CanAnswer (octets_or r)
octets-can (Ok o) = tt
octets-can (Err e) = tt

-- Octets have the bits that a length tells of them.
bits-counted : (octets : List ℕ) (size : ℕ) → (length octets == div_ceil size 8) ≡ true → length (bits_of octets size) ≡ size
bits-counted octets size e = length-take-le size (all_bits octets) (omega (arith, length-all_bits octets, eqb-true (length octets) (div_ceil size 8) e))

sized-can : (size : ℕ) (bad : Cause) (r : Result (List ℕ) FromHexError) → CanAnswer (or_blame (sized_bits (Some size) size bad r))
sized-can size bad (Ok o) = by (length o == div_ceil size 8) refl
  where
    by : (b : Bool) → (length o == div_ceil size 8) ≡ b → CanAnswer (or_blame (if b then Ok (Value.bits (bits_of o size) (Some size)) else Err (another_length (length o) size)))
    by true e = bits-counted o size e
    by false e = tt
sized-can size bad (Err e) = tt

free-can : (size : ℕ) (bad : Cause) (r : Result (List ℕ) FromHexError) → size < 2 ^ 64 → CanAnswer (or_blame (sized_bits None size bad r))
free-can size bad (Ok o) h = by (length o == div_ceil size 8)
  where
    by : (b : Bool) → CanAnswer (or_blame (if b then Ok (Value.bits (bits_of o size) None) else Err (another_length (length o) size)))
    by true = omega (arith, h, length-take size (all_bits o))
    by false = tt
free-can size bad (Err e) h = tt

-- A length that JSON tells has 64 bits.
abbrev IsSmall : Option ℕ → Type 0
IsSmall None = Unit {0}
IsSmall (Some n) = n < 2 ^ 64

length-small : (o : Option Data) → IsSlotHeld (option_map Tree.json o) → IsSmall (option_and_then length_in o)
length-small None h = tt
length-small (Some (Data.number (Num.unsigned n))) h = ltb-true n (2 ^ 64) h
length-small (Some d) h = tt

declared-can : (digits : Option (List ℕ)) (size : Option ℕ) → IsSmall size → CanAnswer (declared_bits digits size)
declared-can (Some x) (Some k) h = free-can k no_bits (decode_of x) h
declared-can digits size h = tt

tested-can : (b : Bool) (v : Value) (blame : LeafFailure) → Can v → CanAnswer (if b then Ok v else Err blame)
tested-can true v blame h = h
tested-can false v blame h = tt

identifier-can : (cause : Cause) (o : Option (List ℕ)) → CanAnswer (or_blame (identifier_or cause o))
identifier-can cause None = tt
identifier-can cause (Some arcs) = by (is_object_identifier arcs)
  where
    by : (b : Bool) → CanAnswer (or_blame (if b then Ok (Value.arcs arcs) else Err cause))
    by true = tt
    by false = tt

-- A value of a kind can be written, a time or a date as its text.
kind-can : (k : LeafKind) (t : Tree) → IsHeld t → CanAnswer (as_leaf Notation.jer k t)
kind-can Null (Tree.json Data.null) h = tt
kind-can Boolean (Tree.json (Data.boolean b)) h = tt
kind-can Number (Tree.json (Data.number (Num.unsigned n))) h = (omega (arith, ints), omega (arith, ints, ltb-true n (2 ^ 64) h))
kind-can Number (Tree.json (Data.number (Num.negative z))) h = let r = inside (negsuc (2 ^ 63 - 1)) (negsuc 0) z h in (r.0, omega (arith, ints, r.1))
kind-can Text (Tree.json (Data.string x)) h = h
kind-can Time (Tree.json (Data.string x)) h = h
kind-can Date (Tree.json (Data.string x)) h = h
kind-can Item (Tree.json (Data.string x)) h = tt
kind-can Octets (Tree.json (Data.string x)) h = octets-can (decode_of x)
kind-can Any (Tree.json (Data.string x)) h = octets-can (decode_of x)
kind-can Oid (Tree.json (Data.string x)) h = identifier-can (Cause.invalid_oid_string (compact_text (Data.string x))) (arc_numbers (slice_split (λ c. c == 46) x))
kind-can (Bits None) (Tree.json (Data.object ms)) h = declared-can (option_and_then as_str (get_member (codes "value") ms)) (option_and_then length_in (get_member (codes "length") ms)) (length-small (get_member (codes "length") ms) (member-held ms h (codes "length")))
kind-can (Bits (Some size)) (Tree.json (Data.string x)) h = sized-can size Cause.invalid_jer_octet_string (decode_of x)
kind-can k t h = tt

placed-can : (tag : Tag) (v : Value) (place : Option ℕ) → Can v → CanAnswer (within_alphabet tag v place)
placed-can tag v None h = h
placed-can tag v (Some place) h = tt

timed-can : (text : List ℕ) (value : ℤ → Value) (o : Option ℤ) → ((k : ℤ) → o ≡ Some k → Can (value k)) → CanAnswer (time_or text value o)
timed-can text value None h = tt
timed-can text value (Some k) h = h k refl

-- The characters of a text are no surrogates.
chars-scalar : (t : List ℕ) → is_utf8 t ≡ true → all_scalars (chars t) ≡ true
chars-scalar t e = let u = IsUtf8-from_is_utf8 t e in subst (λ cs. all_scalars cs ≡ true) (sym (ap chars (sym u.1.1) ∙ chars-encodes u.0 u.1.0)) u.1.0

refine-can : (s : Shape) (v : Value) → Can v → CanAnswer (refine Jer s v)
refine-can (Shape.int l g w) (Value.int k) h = tested-can (is_between l g k) (Value.int k) _ h
refine-can (Shape.enum items added) (Value.item i) h = tested-can (is_item (all_items items added) i) (Value.item i) _ h
refine-can (Shape.text a) (Value.text t) h = placed-can (universal_tag (alphabet_number a)) (Value.text t) (place_outside (alphabet_of a) (chars t)) h
refine-can Shape.bmp (Value.text t) h = placed-can (universal_tag bmp_number) (Value.units (chars t)) (place_outside is_bmp (chars t)) (chars-scalar t h)
refine-can Shape.utc (Value.text t) h = timed-can t Value.utc (utc_of_text t) (λ k e. let m = utc_means t k e in record { utc = m.utc; years = m.years; number = m.number })
refine-can Shape.gen (Value.text t) h = timed-can t Value.gen (generalized_of_text t) (λ k e. let m = generalized_means t k e in record { utc = m.utc; years = m.years; number = m.number })
refine-can Shape.day (Value.text t) h = timed-can t Value.day (day_of_text t) (λ k e. let m = day_means t k e in record { date = m.date; years = m.years; number = m.number })
refine-can Shape.decimal (Value.text t) h = tested-can (is_decimal t) (Value.text t) _ h
refine-can s v h = h

refined-can : (s : Shape) (r : Result Value LeafFailure) → CanAnswer r → CanAnswer (refined Jer s r)
refined-can s (Ok v) h = refine-can s v h
refined-can s (Err b) h = tt

leaf-can : (s : Shape) (t : Tree) → IsHeld t → CanLeaf (leaf Notation.jer s t)
leaf-can s t h = by (kind_of s)
  where
    by : (o : Option LeafKind) → CanLeaf (option_map (λ k. refined Jer s (as_leaf Notation.jer k t)) o)
    by None = tt
    by (Some k) = refined-can s (as_leaf Notation.jer k t) (kind-can k t h)

list-held : (t : Tree) (slots : List Slot) → as_list Notation.jer t ≡ Some slots → IsHeld t → AllByRecursion IsSlotHeld slots
list-held (Tree.json (Data.array ds)) slots e h = subst (AllByRecursion IsSlotHeld) (same_some e) (items-held ds h)
list-held (Tree.json d) slots e h = no_list e
list-held (Tree.avn t) slots e h = no_list e

members-held : (t : Tree) (look : List ℕ → Slot) → as_members Notation.jer t ≡ Some look → IsHeld t → (name : List ℕ) → IsSlotHeld (look name)
members-held (Tree.json (Data.object ms)) look e h name = subst (λ (l : List ℕ → Slot). IsSlotHeld (l name)) (same_some e) (member-held ms h name)
members-held (Tree.json d) look e h name = no_list e
members-held (Tree.avn t) look e h name = no_list e

choice-held : (t : Tree) (name : List ℕ) (u : Tree) → as_choice Notation.jer t ≡ Some (Some (name, u)) → IsHeld t → IsHeld u
choice-held (Tree.json (Data.object Members.no_members)) name u e h = no_first e
choice-held (Tree.json (Data.object (Members.member n d Members.no_members))) name u e h = subst IsHeld (ap (λ (p : List ℕ × Tree). p.1) (same_first e)) (and-left (is_held d) true h)
choice-held (Tree.json (Data.object (Members.member n d (Members.member m f ms)))) name u e h = no_list e
choice-held (Tree.json d) name u e h = no_list e
choice-held (Tree.avn t) name u e h = no_list e

looked-held : (look : List ℕ → Slot) → ((name : List ℕ) → IsSlotHeld (look name)) → (names : List (List ℕ)) → AllByRecursion IsSlotHeld (map look names)
looked-held look h [] = tt
looked-held look h (m ∷ ms) = (h m, looked-held look h ms)

kept-can : (b : Bool) (name : List ℕ) (v : Value) (vs : Slots) → Can v → WritableSlots Notation.jer vs → WritableSlots Notation.jer (if b then Slots.present name v vs else Slots.absent name vs)
kept-can true name v vs h k = (h, k)
kept-can false name v vs h k = k

each-can : (vs : Values) → AllByRecursion Can (elements vs) → WritableEach Notation.jer vs
each-can Values.no_values h = tt
each-can (Values.value v vs) h = (h.0, each-can vs h.1)

match-can : (o : Ordering) (a b c : Values) → WritableEach Notation.jer a → WritableEach Notation.jer b → WritableEach Notation.jer c → WritableEach Notation.jer (match_ordering o a b c)
match-can Less a b c p q r = p
match-can Equal a b c p q r = q
match-can Greater a b c p q r = r

put-can : (e : Value) (es : Values) → Can e → WritableEach Notation.jer es → WritableEach Notation.jer (put_entry e es)
put-can e Values.no_values p q = (p, tt)
put-can e (Values.value f fs) p q = match-can (slice_cmp nat_cmp (key_of e) (key_of f)) (Values.value e (Values.value f fs)) (Values.value e fs) (Values.value f (put_entry e fs)) (p, q) (p, q.1) (q.0, put-can e fs p q.1)

-- A table has no other entries than its list.
entries-can : (found es : Values) → WritableEach Notation.jer found → WritableEach Notation.jer es → WritableEach Notation.jer (put_entries found es)
entries-can found Values.no_values p q = p
entries-can found (Values.value e es) p q = entries-can (put_entry e found) es (put-can e found q.0 p) q.1

no_other : {P : Type 0} → Notation.jer ≡ Notation.other → P
no_other e = cc e

mutual
  -- JER can write what decodes from a JSON value that can be held.
  pub decoded-can : {s : Shape} {slot : Slot} {v : Value} → DecodesTo Notation.jer s slot v → IsSlotHeld slot → Can v
  decoded-can (DecodesTo.decodes_leaf s t v e) held = subst CanLeaf e (leaf-can s t held)
  decoded-can (DecodesTo.decodes_seq kind fs more t look vs e single h) held = fields-can h (looked-held look (members-held t look e held) (field_names (all_fields fs more)))
  decoded-can (DecodesTo.decodes_list s t slots vs e h) held = each-can vs (all-can h (list-held t slots e held))
  decoded-can (DecodesTo.decodes_set s t slots vs e h) held = each-can (sort_values vs) (each-ordered Can value_cmp vs (all-can h (list-held t slots e held)))
  decoded-can (DecodesTo.decodes_table s t vs h) held = entries-can Values.no_values vs tt (decoded-can h held)
  decoded-can (DecodesTo.decodes_choice alts added t name u id s v e f h) held = decoded-can h (choice-held t name u e held)
  decoded-can (DecodesTo.decodes_loop body t v h) held = decoded-can h held
  decoded-can (DecodesTo.decodes_free s slot v e) held = no_other e

  all-can : {s : Shape} {slots : List Slot} {vs : Values} → EachDecodesTo Notation.jer s slots vs → AllByRecursion IsSlotHeld slots → AllByRecursion Can (elements vs)
  all-can (EachDecodesTo.decodes_none s) held = tt
  all-can (EachDecodesTo.decodes_one s slot rest v vs h hs) held = (decoded-can h held.0, all-can hs held.1)

  fields-can : {fs : Fields} {slots : List Slot} {vs : Slots} → FieldsDecodeTo Notation.jer fs slots vs → AllByRecursion IsSlotHeld slots → WritableSlots Notation.jer vs
  fields-can FieldsDecodeTo.decodes_end held = tt
  fields-can (FieldsDecodeTo.decodes_present name g p s fs slot rest v vs h hs) held = kept-can (is_kept p v) name v vs (decoded-can h held.0) (fields-can hs held.1)
  fields-can (FieldsDecodeTo.decodes_absent name g p s fs rest vs lack hs) held = fields-can hs held.1
