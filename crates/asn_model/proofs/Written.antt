-- What is written decodes to the value that was written.
use Rattle.std.proofs.Common.{◌≡◌, refl, ap, sym, ◌∙◌, subst, arith, ℕ, zero, suc, ◌<◌, nat_lt, slice_index, [], ◌-◌, ◌^◌, ℤ, pos, negsuc, ◌≤ℤ◌, List, ◌∷◌, map, Bool, true, false, not, ◌&&◌, if◌then◌else◌, Option, Some, None, Ok, Err, length}
use Rattle.std.specs.List.{AllByRecursion}
use Rattle.std.specs.Prelude.{option_map}
use Rattle.std.specs.Int.Signed.{lt_z_no}
use Rattle.std.proofs.lemmas.Float.{T_from_true}
use Rattle.std.proofs.lemmas.Bool.{ltb-true, eqb-true, eq-eqb}
use Rattle.std.proofs.lemmas.Int.{ints}
use Rattle.std.specs.Str.{bytes_eq}
use Rattle.std.specs.Char.{to_ascii_lowercase}
use Rattle.std.proofs.lemmas.Slice.Eq.{bytes_eq-Decides}
use Rattle.serde_json.specs.Data.{Data, Members, put}
use Rattle.serde_json.specs.Find.{get_member}
use Rattle.serde_json.specs.Written.{compact_text}
use Rattle.serde_json.proofs.Views.{get_member-put, get_member-put_other}
use Rattle.asn_core.specs.declared.codec.Codec.TheVariants.{Jer}
use Rattle.hex.proofs.HexLemmas.{decode_of-encode_upper}
use Rattle.hex.specs.Hex.{decode_of, encode_upper}
use Rattle.avn_grammar.specs.Chars.{all}
use Rattle.avn_grammar.specs.WellFormed.{is_octet, is_arc}
use Rattle.std.specs.Int.{div_ceil}
use Rattle.asn_core.specs.BitStrings.{bits_of, padded}
use Rattle.asn_core.specs.ObjectIdentifiers.{is_object_identifier}
use Rattle.asn_core.proofs.Padding.{first-padded, length-padded}
use Rattle.asn_fault.specs.Failure.{Cause}
use Rattle.asn_model.specs.Arcs.{dotted_text, identifier_or}
use Rattle.asn_model.specs.BitLeaves.{another_length, no_bits, sized_bits}
use Rattle.asn_model.specs.Canonical.{jer_data, jer_items, jer_members, canonical_text}
use Rattle.asn_model.specs.Leaf.{leaf, octets_or, or_blame, refined}
use Rattle.asn_model.specs.Notation.{Notation}
use Rattle.asn_model.specs.Readable.{is_entry, is_readable, are_fields_readable, are_alternatives_readable, are_added_alternatives_readable, suits, has_alternative, are_distinguishable, are_identifiers, differ_ignoring_case, has_identifier, has_128_bits}
use Rattle.asn_model.specs.Range.{at_most}
use Rattle.asn_model.specs.DecodesTo.{DecodesTo, EachDecodesTo, FieldsDecodeTo}
use Rattle.asn_model.specs.Shape.{Shape, Fields, Alternatives, AlternativeAdditions, all_alternatives, all_fields, join_alternatives, field_names, identifiers, tags, has_tag, tags_distinct, end_tag, are_distinct, is_item, alternative_named}
use Rattle.asn_model.specs.Sorting.{by_text}
use Rattle.asn_model.specs.Tree.{Tree, Slot, item_slots, member_slot, first_repeated, same_identifier}
use Rattle.asn_model.specs.Value.{Value, Values, Slots, Fits, FitsEach, FitsFields, FitsAlternative, elements, is_leaf_of, ordered_by}
use Rattle.asn_model.specs.Writable.{Writable, WritableEach, WritableSlots}
use Rattle.asn_model.specs.Writes.{Writes, Finds, value_slots, slot_names}
use Rattle.asn_model.proofs.ArcTexts.{dotted-read}
use Rattle.asn_model.proofs.Bags.{each-ordered, jer_items-sorted, sort-ordered_by}
use Rattle.asn_model.proofs.BitsRead.{padded-octets}
use Rattle.asn_model.proofs.Entries.{table-rising}
use Rattle.asn_model.proofs.Readables.{and-left, and-right, and-both, unfolded-readable, fields_read}
use Rattle.asn_model.proofs.StringFacts.{string_kept, units_kept}
use Rattle.asn_model.proofs.TimeFacts.{day_kept, generalized_kept, utc_kept}

slot_names-fields : {fs : Fields} {ms : Slots} → FitsFields fs ms → slot_names ms ≡ field_names fs
slot_names-fields FitsFields.fits_end = refl
slot_names-fields (FitsFields.fits_present {n} fit kept rest) = ap (λ l. n ∷ l) (slot_names-fields rest)
slot_names-fields (FitsFields.fits_absent {n} lack rest) = ap (λ l. n ∷ l) (slot_names-fields rest)

same_identifier-itself : (i : List ℕ) → same_identifier i i ≡ true
same_identifier-itself i = (bytes_eq-Decides (map to_ascii_lowercase i) (map to_ascii_lowercase i)).1 refl

pub first_apart : (b rest : Bool) → (if b then true else rest) ≡ false → b ≡ false
first_apart true rest e = let d : true ≡ false = e in cc d
first_apart false rest e = refl

pub rest_apart : (b rest : Bool) → (if b then true else rest) ≡ false → rest ≡ false
rest_apart true rest e = let d : true ≡ false = e in cc d
rest_apart false rest e = e

pub none_named : (b rest : Bool) → (if b then false else rest) ≡ true → b ≡ false
none_named true rest e = let d : false ≡ true = e in cc d
none_named false rest e = refl

pub others_named : (b rest : Bool) → (if b then false else rest) ≡ true → rest ≡ true
others_named true rest e = let d : false ≡ true = e in cc d
others_named false rest e = e

-- An alternative that is there differs from an identifier that is none of theirs.
pub differs : {alts : Alternatives} {i : List ℕ} {v : Value} (j : List ℕ) → FitsAlternative alts i v → has_identifier (identifiers alts) j ≡ false → same_identifier i j ≡ false
differs j (FitsAlternative.fits_here {i} {t} {s} {alts} fit) h = first_apart (same_identifier i j) (has_identifier (identifiers alts) j) h
differs j (FitsAlternative.fits_later {i} {j = k} {t} {s} {alts} rest) h = differs j rest (rest_apart (same_identifier k j) (has_identifier (identifiers alts) j) h)

-- A number of a type that has at most 128 bits has no more.
pub within_128_bits : (l g k : ℤ) → has_128_bits l g ≡ true → l ≤ℤ k → k ≤ℤ g → (negsuc (2 ^ 127 - 1) ≤ℤ k) × (k ≤ℤ pos (2 ^ 128 - 1))
within_128_bits l g k e low high =
    let least : negsuc (2 ^ 127 - 1) ≤ℤ l = lt_z_no (T_from_true _ (and-left (at_most (negsuc (2 ^ 127 - 1)) l) (at_most g (pos (2 ^ 128 - 1))) e)) in
    let greatest : g ≤ℤ pos (2 ^ 128 - 1) = lt_z_no (T_from_true _ (and-right (at_most (negsuc (2 ^ 127 - 1)) l) (at_most g (pos (2 ^ 128 - 1))) e)) in
    (omega (arith, ints, least, low), omega (arith, ints, greatest, high))

alternatives_joined : (alts more : Alternatives) → are_alternatives_readable 0 alts ≡ true → are_alternatives_readable 0 more ≡ true → are_alternatives_readable 0 (join_alternatives alts more) ≡ true
alternatives_joined Alternatives.no_alternatives more e f = f
alternatives_joined (Alternatives.alternative i t s alts) more e f =
    and-both _ _ (and-left (is_readable s) (are_alternatives_readable 0 alts) e) (alternatives_joined alts more (and-right (is_readable s) (are_alternatives_readable 0 alts) e) f)

-- All alternatives can be read.
pub all_readable : (alts : Alternatives) (added : AlternativeAdditions) → are_alternatives_readable 0 alts ≡ true → are_added_alternatives_readable 0 added ≡ true → are_alternatives_readable 0 (all_alternatives alts added) ≡ true
all_readable alts AlternativeAdditions.closed_alternatives e f = e
all_readable alts (AlternativeAdditions.extended_alternatives more) e f = alternatives_joined alts more e f

-- The value's tree decodes to it.
abbrev IsReadBack : Notation → (Value → Tree) → Shape → Value → Type 0
IsReadBack n tree s v = DecodesTo n s (Some (tree v)) v

each-decodes : (n : Notation) (tree : Value → Tree) (s : Shape) (vs : Values) → AllByRecursion (IsReadBack n tree s) (elements vs) → EachDecodesTo n s (value_slots tree vs) vs
each-decodes n tree s Values.no_values h = EachDecodesTo.decodes_none s
each-decodes n tree s (Values.value v vs) h = EachDecodesTo.decodes_one s _ _ v vs h.0 (each-decodes n tree s vs h.1)

module _ (n : Notation) (tree : Value → Tree) (w : Writes n tree) where
  mutual
    -- The tree of a value that fits and can be written decodes to that value.
    pub decodes_written : {s : Shape} {v : Value} → is_readable s ≡ true → Fits s v → Writable n v → DecodesTo n s (Some (tree v)) v
    decodes_written a (Fits.fits_leaf {s} {v} e) can = DecodesTo.decodes_leaf s _ v (w.leaf s v a e can)
    decodes_written a (Fits.fits_members {kind} {fs} {added} {ms} fit) can =
        let read = fields_read kind fs added a in
        let m = w.members ms (ap are_distinct (slot_names-fields fit) ∙ read.distinct) in
        DecodesTo.decodes_seq kind fs added _ m.0 ms m.1 (m.2 (field_names (all_fields fs added))) (fields_written m.0 read.parts fit can m.3)
    decodes_written a (Fits.fits_list {s} {vs} fit) can = DecodesTo.decodes_list s _ _ vs (w.list vs) (each-decodes n tree s vs (each_written a fit can))
    decodes_written a (Fits.fits_set {s} {vs} fit sorted) can =
        let by = by_text (canonical_text n) in
        let written = ordered_by by vs in
        subst (DecodesTo n (Shape.set_of s) (Some (tree (Value.bag vs)))) (ap Value.bag (sort-ordered_by by vs ∙ sorted))
        (DecodesTo.decodes_set s _ _ written (w.set vs) (each-decodes n tree s written (each-ordered (IsReadBack n tree s) by vs (each_written a fit can))))
    decodes_written a (Fits.fits_table {s} {vs} fit rise) can =
        let entries = each_written (and-right (is_entry s) (is_readable s) a) fit can in
        subst (λ es. DecodesTo n (Shape.table s) (Some (tree (Value.list vs))) (Value.list es)) (table-rising vs rise)
        (DecodesTo.decodes_table s _ vs (DecodesTo.decodes_list s _ _ vs (w.list vs) (each-decodes n tree s vs entries)))
    decodes_written a (Fits.fits_choice {alts} {added} {i} {v} fit) can =
        let whole = all_alternatives alts added in
        let names = has_alternative whole && are_distinguishable whole in
        let told = and-right (has_alternative whole) (are_distinguishable whole) (and-left names (are_alternatives_readable 0 alts && are_added_alternatives_readable 0 added) a) in
        let apart = and-right (are_identifiers (identifiers whole)) (differ_ignoring_case (identifiers whole)) (and-left (are_identifiers (identifiers whole) && differ_ignoring_case (identifiers whole)) (tags_distinct (tags whole) && not (has_tag (tags whole) end_tag)) told) in
        let read = and-right names (are_alternatives_readable 0 alts && are_added_alternatives_readable 0 added) a in
        let parts = all_readable alts added (and-left (are_alternatives_readable 0 alts) (are_added_alternatives_readable 0 added) read) (and-right (are_alternatives_readable 0 alts) (are_added_alternatives_readable 0 added) read) in
        let c = alternative_written apart parts fit can in
        DecodesTo.decodes_choice alts added _ i (tree v) i c.0 v (w.choice i v) c.1 c.2
    decodes_written a (Fits.fits_loop {b} {v} fit) can = DecodesTo.decodes_loop b _ v (decodes_written (unfolded-readable b a) fit can)

    each_written : {s : Shape} {vs : Values} → is_readable s ≡ true → FitsEach s vs → WritableEach n vs → AllByRecursion (IsReadBack n tree s) (elements vs)
    each_written a (FitsEach.fits_none {s}) can = tt
    each_written a (FitsEach.fits_one {s} {v} {vs} fit rest) can = (decodes_written a fit can.0, each_written a rest can.1)

    fields_written : {fs : Fields} {ms : Slots} (look : List ℕ → Slot) → are_fields_readable 0 fs ≡ true → FitsFields fs ms → WritableSlots n ms → Finds tree look ms → FieldsDecodeTo n fs (map look (field_names fs)) ms
    fields_written look a FitsFields.fits_end can f = FieldsDecodeTo.decodes_end
    fields_written look a (FitsFields.fits_present {n = name} {t = g} {p} {s} {fs} {v} {ms} fit kept rest) can f =
        let first = and-right (suits p s) (is_readable s) (and-left (suits p s && is_readable s) (are_fields_readable 0 fs) a) in
        let said = subst (λ slot. DecodesTo n s slot v) (sym f.0) (decodes_written first fit can.0) in
        let others = fields_written look (and-right (suits p s && is_readable s) (are_fields_readable 0 fs) a) rest can.1 f.1 in
        subst (FieldsDecodeTo n (Fields.field name g p s fs) (look name ∷ map look (field_names fs))) (ap (λ b. if b then Slots.present name v ms else Slots.absent name ms) kept)
        (FieldsDecodeTo.decodes_present name g p s fs (look name) (map look (field_names fs)) v ms said others)
    fields_written look a (FitsFields.fits_absent {n = name} {t = g} {p} {s} {fs} {ms} lack rest) can f =
        let others = fields_written look (and-right (suits p s && is_readable s) (are_fields_readable 0 fs) a) rest can f.1 in
        subst (λ slot. FieldsDecodeTo n (Fields.field name g p s fs) (slot ∷ map look (field_names fs)) (Slots.absent name ms)) (sym f.0)
        (FieldsDecodeTo.decodes_absent name g p s fs (map look (field_names fs)) ms lack others)

    alternative_written : {alts : Alternatives} {i : List ℕ} {v : Value} → differ_ignoring_case (identifiers alts) ≡ true → are_alternatives_readable 0 alts ≡ true → FitsAlternative alts i v → Writable n v
        → (s : Shape) × (alternative_named same_identifier alts i ≡ Some (i, s)) × DecodesTo n s (Some (tree v)) v
    alternative_written apart a (FitsAlternative.fits_here {i} {t} {s} {alts} {v} fit) can =
        (s, ap (λ b. if b then Some (i, s) else alternative_named same_identifier alts i) (same_identifier-itself i), decodes_written (and-left (is_readable s) (are_alternatives_readable 0 alts) a) fit can)
    alternative_written apart a (FitsAlternative.fits_later {i} {j} {t} {s} {alts} {v} rest) can =
        let none = none_named (has_identifier (identifiers alts) j) (differ_ignoring_case (identifiers alts)) apart in
        let r = alternative_written (others_named (has_identifier (identifiers alts) j) (differ_ignoring_case (identifiers alts)) apart) (and-right (is_readable s) (are_alternatives_readable 0 alts) a) rest can in
        (r.0, ap (λ b. if b then Some (j, s) else alternative_named same_identifier alts i) (differs j rest none) ∙ r.1, r.2)

-- The tree that JER writes.
abbrev pub jer_tree : Value → Tree
jer_tree v = Tree.json (jer_data v)

pub no_leaf : {P : Type 0} → false ≡ true → P
no_leaf e = cc e

-- Octets are bytes.
octets-bytes : (o : List ℕ) → all is_octet o ≡ true → (i : ℕ) → slice_index o i < 256
octets-bytes [] e i = omega arith
octets-bytes (b ∷ bs) e zero = ltb-true b 256 (and-left (nat_lt b 256) (all is_octet bs) e)
octets-bytes (b ∷ bs) e (suc i) = octets-bytes bs (and-right (nat_lt b 256) (all is_octet bs) e) i

-- The digits of bits say these bits.
sized-read : (mark : Option ℕ) (bad : Cause) (bits : List Bool) → sized_bits mark (length bits) bad (decode_of (encode_upper (padded bits))) ≡ Ok (Value.bits bits mark)
sized-read mark bad bits =
    let n = length bits in
    let octets = padded bits in
    ap (sized_bits mark n bad) (decode_of-encode_upper octets (octets-bytes octets (padded-octets bits)))
    ∙ ap (λ b. if b then Ok (Value.bits (bits_of octets n) mark) else Err (another_length (length octets) n)) (eq-eqb (length octets) (div_ceil n 8) (length-padded bits))
    ∙ ap (λ l. Ok (Value.bits l mark)) (first-padded bits)

leaf-written : (s : Shape) (v : Value) → is_readable s ≡ true → is_leaf_of s v ≡ true → Writable Notation.jer v → leaf Notation.jer s (jer_tree v) ≡ Some (Ok v)
leaf-written Shape.null Value.null a e can = refl
leaf-written Shape.boolean (Value.boolean b) a e can = refl
leaf-written (Shape.int l g w) (Value.int (pos m)) a e can = rw e refl
leaf-written (Shape.int l g w) (Value.int (negsuc m)) a e can = rw e refl
leaf-written (Shape.text alphabet) (Value.text t) a e can = ap Some (string_kept Jer alphabet t can e)
leaf-written Shape.bmp (Value.units u) a e can = ap Some (units_kept Jer u can e)
leaf-written Shape.utc (Value.utc n) a e can = ap Some (utc_kept Jer n can)
leaf-written Shape.gen (Value.gen n) a e can = ap Some (generalized_kept Jer n can)
leaf-written Shape.day (Value.day n) a e can = ap Some (day_kept Jer n can)
leaf-written Shape.decimal (Value.text t) a e can = rw e refl
leaf-written (Shape.enum items added) (Value.item i) a e can = rw e refl
leaf-written Shape.octets (Value.octets o) a e can = ap (λ r. Some (refined Jer Shape.octets (octets_or r))) (decode_of-encode_upper o (octets-bytes o e))
leaf-written Shape.any (Value.octets o) a e can = ap (λ r. Some (refined Jer Shape.any (octets_or r))) (decode_of-encode_upper o (octets-bytes o e))
leaf-written Shape.oid (Value.arcs arcs) a e can =
    let accepted = and-right (all is_arc arcs) (is_object_identifier arcs) e in
    let cause = Cause.invalid_oid_string (compact_text (Data.string (dotted_text arcs))) in
    ap (λ o. Some (refined Jer Shape.oid (or_blame (identifier_or cause o)))) (dotted-read arcs (and-left (all is_arc arcs) (is_object_identifier arcs) e) accepted)
    ∙ ap (λ b. Some (refined Jer Shape.oid (or_blame (if b then Ok (Value.arcs arcs) else Err cause)))) accepted
leaf-written (Shape.bits None) (Value.bits bits None) a e can = ap (λ r. Some (refined Jer (Shape.bits None) (or_blame r))) (sized-read None no_bits bits)
leaf-written (Shape.bits (Some m)) (Value.bits bits (Some n)) a e can =
    let same : m ≡ length bits = eqb-true m n e ∙ sym can in
    ap (λ k. Some (refined Jer (Shape.bits (Some k)) (or_blame (sized_bits (Some k) k Cause.invalid_jer_octet_string (decode_of (encode_upper (padded bits))))))) same
    ∙ ap (λ r. Some (refined Jer (Shape.bits (Some (length bits))) (or_blame r))) (sized-read (Some (length bits)) Cause.invalid_jer_octet_string bits)
    ∙ ap (λ k. Some (Ok (Value.bits bits (Some k)))) can
leaf-written s v a e can = no_leaf e

items-written : (vs : Values) → item_slots (jer_items vs) ≡ value_slots jer_tree vs
items-written Values.no_values = refl
items-written (Values.value v vs) = ap (λ l. Some (jer_tree v) ∷ l) (items-written vs)

pub different : (n m : List ℕ) → bytes_eq n m ≡ false → m ≡ n → ⊥
different n m e same = let d : true ≡ false = sym ((bytes_eq-Decides n m).1 (sym same)) ∙ e in cc d

-- A name that no member has finds nothing.
lost : (ms : Slots) (n : List ℕ) → is_item (slot_names ms) n ≡ false → get_member n (jer_members ms) ≡ None
lost Slots.no_slots n e = refl
lost (Slots.absent m ms) n e = lost ms n (rest_apart (bytes_eq n m) (is_item (slot_names ms) n) e)
lost (Slots.present m v ms) n e =
    get_member-put_other n m (jer_data v) (jer_members ms) (λ same. different n m (first_apart (bytes_eq n m) (is_item (slot_names ms) n) e) (sym same))
    ∙ lost ms n (rest_apart (bytes_eq n m) (is_item (slot_names ms) n) e)

-- A member that is put leaves those of other names.
finds-put : (n : List ℕ) (d : Data) (whole : Members) (ms : Slots) → is_item (slot_names ms) n ≡ false → Finds jer_tree (member_slot whole) ms → Finds jer_tree (member_slot (put n d whole)) ms
finds-put n d whole Slots.no_slots e f = tt
finds-put n d whole (Slots.absent m ms) e f = (
  ap (option_map Tree.json) (get_member-put_other m n d whole (different n m (first_apart (bytes_eq n m) (is_item (slot_names ms) n) e))) ∙ f.0,
  finds-put n d whole ms (rest_apart (bytes_eq n m) (is_item (slot_names ms) n) e) f.1,
)
finds-put n d whole (Slots.present m v ms) e f = (
  ap (option_map Tree.json) (get_member-put_other m n d whole (different n m (first_apart (bytes_eq n m) (is_item (slot_names ms) n) e))) ∙ f.0,
  finds-put n d whole ms (rest_apart (bytes_eq n m) (is_item (slot_names ms) n) e) f.1,
)

finds-written : (ms : Slots) → are_distinct (slot_names ms) ≡ true → Finds jer_tree (member_slot (jer_members ms)) ms
finds-written Slots.no_slots e = tt
finds-written (Slots.absent n ms) e = (
  ap (option_map Tree.json) (lost ms n (none_named (is_item (slot_names ms) n) (are_distinct (slot_names ms)) e)),
  finds-written ms (others_named (is_item (slot_names ms) n) (are_distinct (slot_names ms)) e),
)
finds-written (Slots.present n v ms) e = (
  ap (option_map Tree.json) (get_member-put n (jer_data v) (jer_members ms)),
  finds-put n (jer_data v) (jer_members ms) ms (none_named (is_item (slot_names ms) n) (are_distinct (slot_names ms)) e) (finds-written ms (others_named (is_item (slot_names ms) n) (are_distinct (slot_names ms)) e)),
)

-- No object has a member twice.
pub none_repeated : (t : Tree) (names : List (List ℕ)) → first_repeated Notation.jer t names ≡ None
none_repeated t [] = refl
none_repeated t (name ∷ names) = none_repeated t names

-- JER writes what it reads.
pub jer_writes : Writes Notation.jer jer_tree
jer_writes = record {
  leaf = leaf-written;
  list = λ vs. ap Some (items-written vs);
  set = λ vs. ap (λ ds. Some (item_slots ds)) (jer_items-sorted vs) ∙ ap Some (items-written (ordered_by (by_text (canonical_text Notation.jer)) vs));
  members = λ ms e. (member_slot (jer_members ms), refl, none_repeated (jer_tree (Value.members ms)), finds-written ms e);
  choice = λ i v. refl;
}
