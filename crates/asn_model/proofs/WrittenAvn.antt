-- What AVN writes is well formed, and is read as a tree that decodes to the value.
use Rattle.std.proofs.Common.{◌≡◌, refl, ap, sym, ◌∙◌, subst, arith, ℕ, zero, suc, ◌+◌, ◌/◌, ◌≤◌, nat_le, List, [], ◌∷◌, length, Bool, true, false, not, ◌&&◌, if◌then◌else◌, Option, Some, None, Ok, Err}
use Rattle.std.specs.Fmt.{signed_decimal}
use Rattle.std.specs.List.{AllByRecursion}
use Rattle.std.specs.Str.{bytes_eq}
use Rattle.std.proofs.lemmas.Bool.{eqb-true, eq-eqb}
use Rattle.std.proofs.lemmas.Slice.Eq.{bytes_eq-Decides}
use Rattle.asn_core.specs.declared.codec.Codec.TheVariants.{Avn}
use Rattle.asn_fault.specs.Failure.{Cause}
use Rattle.avn_grammar.specs.Tree.{Tree as AvnTree, Fields as AvnFields}
use Rattle.avn_grammar.specs.Normal.{normal, normal_trees, normal_fields, braced}
use Rattle.avn_grammar.specs.Chars.{all}
use Rattle.avn_grammar.specs.WellFormed.{is_identifier, is_keyword, is_arc, is_well_formed, are_well_formed, are_fields_well_formed}
use Rattle.asn_core.specs.BitStrings.{padded}
use Rattle.asn_core.specs.ObjectIdentifiers.{is_object_identifier}
use Rattle.asn_model.specs.Arcs.{checked_identifier, listed_text}
use Rattle.asn_model.specs.Canonical.{avn_tree, avn_trees, avn_fields, canonical_text}
use Rattle.asn_model.specs.Leaf.{LeafFailure, leaf, number_or, or_blame, refined}
use Rattle.asn_model.specs.Notation.{Notation}
use Rattle.asn_model.specs.Readable.{is_entry, is_readable, are_fields_readable, are_alternatives_readable, are_added_alternatives_readable, suits, has_alternative, are_distinguishable, are_identifiers, are_no_keywords, differ_ignoring_case}
use Rattle.asn_model.specs.Shape.{Shape, Fields, Alternatives, all_items, all_alternatives, field_names, identifiers, tags, has_tag, tags_distinct, end_tag, are_distinct, is_item}
use Rattle.asn_model.specs.Sorting.{by_text}
use Rattle.asn_model.specs.Tree.{Tree, Slot, or_else, as_members, tree_slots, field_slot, first_repeated, is_repeated, times_present}
use Rattle.asn_model.specs.Value.{Value, Values, Slots, Fits, FitsEach, FitsFields, FitsAlternative, elements, is_leaf_of, is_same_size, ordered_by}
use Rattle.asn_model.specs.Writable.{Writable, WritableEach, WritableSlots}
use Rattle.asn_model.specs.Writes.{Writes, Finds, value_slots, slot_names}
use Rattle.asn_model.proofs.ArcTexts.{braced-read}
use Rattle.asn_model.proofs.Bags.{avn_trees-sorted, each-ordered}
use Rattle.asn_model.proofs.BitsRead.{bits-read, padded-octets}
use Rattle.asn_core.proofs.Padding.{length-padded}
use Rattle.asn_model.proofs.Ranges.{inside}
use Rattle.asn_model.proofs.Numerals.{number-read, number-form}
use Rattle.asn_model.proofs.Readables.{and-left, and-right, and-both, unfolded-readable, fields_read}
use Rattle.asn_model.proofs.StringFacts.{string_kept, units_kept, units_utf8}
use Rattle.asn_model.proofs.TimeFacts.{day_kept, day_text_utf8, generalized_kept, generalized_text_utf8, utc_kept, utc_text_utf8}
use Rattle.asn_model.proofs.Written.{first_apart, rest_apart, none_named, others_named, different, within_128_bits, all_readable, no_leaf}

-- The tree that the text which AVN writes is read as.
abbrev pub read_tree : Value → Tree
read_tree v = Tree.avn (normal (avn_tree v))

same-size : (m n : Option ℕ) → is_same_size m n ≡ true → m ≡ n
same-size None None e = refl
same-size (Some m) (Some n) e = ap Some (eqb-true m n e)
same-size None (Some n) e = no_leaf e
same-size (Some m) None e = no_leaf e

leaf-written : (s : Shape) (v : Value) → is_readable s ≡ true → is_leaf_of s v ≡ true → Writable Notation.avn v → leaf Notation.avn s (read_tree v) ≡ Some (Ok v)
unfolding normal
leaf-written Shape.null Value.null a e can = refl
leaf-written Shape.boolean (Value.boolean b) a e can = refl
leaf-written (Shape.int l g w) (Value.int k) a e can =
    let r = inside l g k e in
    let within = within_128_bits l g k a r.0 r.1 in
    ap (λ o. Some (refined Avn (Shape.int l g w) (number_or (LeafFailure.because (Cause.integer_parse_error (signed_decimal k))) o))) (number-read k within.0 within.1)
    ∙ ap (λ b. Some (if b then Ok (Value.int k) else Err (LeafFailure.because (Cause.integer_overflow w)))) e
leaf-written (Shape.text alphabet) (Value.text t) a e can = ap Some (string_kept Avn alphabet t can e)
leaf-written Shape.bmp (Value.units u) a e can = ap Some (units_kept Avn u can e)
leaf-written Shape.utc (Value.utc n) a e can = ap Some (utc_kept Avn n can)
leaf-written Shape.gen (Value.gen n) a e can = ap Some (generalized_kept Avn n can)
leaf-written Shape.day (Value.day n) a e can = ap Some (day_kept Avn n can)
leaf-written Shape.decimal (Value.text t) a e can = rw e refl
leaf-written (Shape.enum items added) (Value.item i) a e can = rw e refl
leaf-written Shape.octets (Value.octets o) a e can = refl
leaf-written Shape.any (Value.octets o) a e can = refl
leaf-written Shape.oid (Value.arcs arcs) a e can =
    ap (λ o. Some (refined Avn Shape.oid (or_blame (checked_identifier o)))) (braced-read arcs (and-left (all is_arc arcs) (is_object_identifier arcs) e))
    ∙ ap (λ b. Some (refined Avn Shape.oid (or_blame (if b then Ok (Value.arcs arcs) else Err (Cause.invalid_oid (listed_text arcs)))))) (and-right (all is_arc arcs) (is_object_identifier arcs) e)
leaf-written (Shape.bits m) (Value.bits bits n) a e can =
    ap (λ r. Some (refined Avn (Shape.bits m) r)) (bits-read m bits) ∙ ap (λ k. Some (Ok (Value.bits bits k))) (same-size m n e)
leaf-written s v a e can = no_leaf e

items-written : (vs : Values) → tree_slots (normal_trees (avn_trees vs)) ≡ value_slots read_tree vs
unfolding normal
items-written Values.no_values = refl
items-written (Values.value v vs) = ap (λ l. Some (read_tree v) ∷ l) (items-written vs)

or_none : (s : Slot) → or_else s None ≡ s
or_none None = refl
or_none (Some t) = refl

-- A name that no field has finds nothing.
lost : (ms : Slots) (n : List ℕ) → is_item (slot_names ms) n ≡ false → field_slot (normal_fields (avn_fields ms)) n ≡ None
unfolding normal
lost Slots.no_slots n e = refl
lost (Slots.absent m ms) n e = lost ms n (rest_apart (bytes_eq n m) (is_item (slot_names ms) n) e)
lost (Slots.present m v ms) n e =
    ap (λ b. or_else (field_slot (normal_fields (avn_fields ms)) n) (if b then Some (read_tree v) else None)) (first_apart (bytes_eq n m) (is_item (slot_names ms) n) e)
    ∙ or_none (field_slot (normal_fields (avn_fields ms)) n) ∙ lost ms n (rest_apart (bytes_eq n m) (is_item (slot_names ms) n) e)

bytes_eq-differ : (n m : List ℕ) → bytes_eq n m ≡ false → bytes_eq m n ≡ false
bytes_eq-differ n m e = unequal (bytes_eq m n) refl
  where
    unequal : (b : Bool) → bytes_eq m n ≡ b → b ≡ false
    unequal true f = absurd (different n m e ((bytes_eq-Decides m n).0 f))
    unequal false f = refl

-- A field in front leaves those of other names.
finds-field : (n : List ℕ) (t : AvnTree) (whole : AvnFields) (ms : Slots) → is_item (slot_names ms) n ≡ false → Finds read_tree (field_slot whole) ms → Finds read_tree (field_slot (AvnFields.field n t whole)) ms
finds-field n t whole Slots.no_slots e f = tt
finds-field n t whole (Slots.absent m ms) e f = (
  ap (λ b. or_else (field_slot whole m) (if b then Some (Tree.avn t) else None)) (bytes_eq-differ n m (first_apart (bytes_eq n m) (is_item (slot_names ms) n) e)) ∙ or_none (field_slot whole m) ∙ f.0,
  finds-field n t whole ms (rest_apart (bytes_eq n m) (is_item (slot_names ms) n) e) f.1,
)
finds-field n t whole (Slots.present m v ms) e f = (
  ap (λ b. or_else (field_slot whole m) (if b then Some (Tree.avn t) else None)) (bytes_eq-differ n m (first_apart (bytes_eq n m) (is_item (slot_names ms) n) e)) ∙ or_none (field_slot whole m) ∙ f.0,
  finds-field n t whole ms (rest_apart (bytes_eq n m) (is_item (slot_names ms) n) e) f.1,
)

own_name : (n : List ℕ) (s : Slot) (t : Tree) → s ≡ None → or_else s (if bytes_eq n n then Some t else None) ≡ Some t
own_name n s t e = rw (e, (bytes_eq-Decides n n).1 refl) refl

finds-written : (ms : Slots) → are_distinct (slot_names ms) ≡ true → Finds read_tree (field_slot (normal_fields (avn_fields ms))) ms
unfolding normal
finds-written Slots.no_slots e = tt
finds-written (Slots.absent n ms) e = (lost ms n (none_named (is_item (slot_names ms) n) (are_distinct (slot_names ms)) e), finds-written ms (others_named (is_item (slot_names ms) n) (are_distinct (slot_names ms)) e))
finds-written (Slots.present n v ms) e =
    let new = none_named (is_item (slot_names ms) n) (are_distinct (slot_names ms)) e in (
      own_name n (field_slot (normal_fields (avn_fields ms)) n) (read_tree v) (lost ms n new),
      finds-field n (normal (avn_tree v)) (normal_fields (avn_fields ms)) ms new (finds-written ms (others_named (is_item (slot_names ms) n) (are_distinct (slot_names ms)) e)),
    )

-- A name that no field has is never present.
times-lost : (ms : Slots) (n : List ℕ) → is_item (slot_names ms) n ≡ false → times_present (normal_fields (avn_fields ms)) n ≡ 0
unfolding normal
times-lost Slots.no_slots n e = refl
times-lost (Slots.absent m ms) n e = times-lost ms n (rest_apart (bytes_eq n m) (is_item (slot_names ms) n) e)
times-lost (Slots.present m v ms) n e =
    let later = times-lost ms n (rest_apart (bytes_eq n m) (is_item (slot_names ms) n) e) in
    rw (first_apart (bytes_eq n m) (is_item (slot_names ms) n) e, later) refl

-- A name that stands in front of fields without it is present once.
times-first : (b : Bool) (rest : ℕ) → (b ≡ true → rest ≡ 0) → rest ≤ 1 → (if b then 1 else 0) + rest ≤ 1
times-first true rest f h = omega (arith, f refl)
times-first false rest f h = omega (arith, h)

-- Of distinct names each is present once at most.
present-once : (ms : Slots) (n : List ℕ) → are_distinct (slot_names ms) ≡ true → times_present (normal_fields (avn_fields ms)) n ≤ 1
unfolding normal
present-once Slots.no_slots n e = omega arith
present-once (Slots.absent m ms) n e = present-once ms n (others_named (is_item (slot_names ms) m) (are_distinct (slot_names ms)) e)
present-once (Slots.present m v ms) n e =
    times-first (bytes_eq n m) (times_present (normal_fields (avn_fields ms)) n)
    (λ f. ap (times_present (normal_fields (avn_fields ms))) ((bytes_eq-Decides n m).0 f) ∙ times-lost ms m (none_named (is_item (slot_names ms) m) (are_distinct (slot_names ms)) e))
    (present-once ms n (others_named (is_item (slot_names ms) m) (are_distinct (slot_names ms)) e))

twice-no : (n : ℕ) → n ≤ 1 → nat_le 2 n ≡ false
twice-no zero h = refl
twice-no (suc zero) h = refl
twice-no (suc (suc n)) h = absurd (omega (arith, h))

braced-single : (fs : AvnFields) (n : List ℕ) → times_present fs n ≤ 1 → is_repeated Notation.avn (Tree.avn (braced fs)) n ≡ false
braced-single AvnFields.no_fields n h = refl
braced-single (AvnFields.field m t fs) n h = twice-no _ h
braced-single (AvnFields.absent m fs) n h = twice-no _ h

-- What AVN writes repeats no name.
none_repeated : (ms : Slots) → are_distinct (slot_names ms) ≡ true → (names : List (List ℕ)) → first_repeated Notation.avn (read_tree (Value.members ms)) names ≡ None
unfolding normal
none_repeated ms e [] = refl
none_repeated ms e (n ∷ names) =
    ap (λ b. if b then Some n else first_repeated Notation.avn (read_tree (Value.members ms)) names) (braced-single (normal_fields (avn_fields ms)) n (present-once ms n e))
    ∙ none_repeated ms e names

-- The members of fields in braces.
braced-members : (fs : AvnFields) → as_members Notation.avn (Tree.avn (braced fs)) ≡ Some (field_slot fs)
braced-members AvnFields.no_fields = refl
braced-members (AvnFields.field n t fs) = refl
braced-members (AvnFields.absent n fs) = refl

members-written : (ms : Slots) → as_members Notation.avn (read_tree (Value.members ms)) ≡ Some (field_slot (normal_fields (avn_fields ms)))
unfolding normal
members-written ms = braced-members (normal_fields (avn_fields ms))

-- The text that AVN writes is read as what it reads.
pub avn_writes : Writes Notation.avn read_tree
unfolding normal
avn_writes = record {
  leaf = leaf-written;
  list = λ vs. ap Some (items-written vs);
  set = λ vs. ap (λ ts. Some (tree_slots (normal_trees ts))) (avn_trees-sorted vs) ∙ ap Some (items-written (ordered_by (by_text (canonical_text Notation.avn)) vs));
  members = λ ms e. (field_slot (normal_fields (avn_fields ms)), members-written ms, none_repeated ms e, finds-written ms e);
  choice = λ i v. refl;
}

first_or_later : {P : Type 0} (b rest : Bool) → (b ≡ true → P) → (rest ≡ true → P) → (if b then true else rest) ≡ true → P
first_or_later true rest f g h = f refl
first_or_later false rest f g h = g h

-- An item is spelled as a word.
word_of_item : (items : List (List ℕ)) (i : List ℕ) → are_no_keywords items ≡ true → is_item items i ≡ true → (is_identifier i && not (is_keyword i)) ≡ true
word_of_item [] i e h = let d : false ≡ true = h in cc d
word_of_item (n ∷ ns) i e h =
    first_or_later (bytes_eq i n) (is_item ns i)
    (λ f. subst (λ x. (is_identifier x && not (is_keyword x)) ≡ true) (sym ((bytes_eq-Decides i n).0 f)) (and-left (is_identifier n && not (is_keyword n)) (are_no_keywords ns) e))
    (λ g. word_of_item ns i (and-right (is_identifier n && not (is_keyword n)) (are_no_keywords ns) e) g) h

-- So is one of a shape whose values have no parts.
leaf-formed : (s : Shape) (v : Value) → is_readable s ≡ true → is_leaf_of s v ≡ true → Writable Notation.avn v → is_well_formed (avn_tree v) ≡ true
unfolding is_well_formed
leaf-formed Shape.null Value.null a e can = refl
leaf-formed Shape.boolean (Value.boolean b) a e can = refl
leaf-formed (Shape.int l g w) (Value.int k) a e can = let r = inside l g k e in let within = within_128_bits l g k a r.0 r.1 in number-form k within.0 within.1
leaf-formed (Shape.text alphabet) (Value.text t) a e can = can
leaf-formed Shape.bmp (Value.units u) a e can = units_utf8 u can
leaf-formed Shape.utc (Value.utc n) a e can = utc_text_utf8 n can
leaf-formed Shape.gen (Value.gen n) a e can = generalized_text_utf8 n can
leaf-formed Shape.day (Value.day n) a e can = day_text_utf8 n can
leaf-formed Shape.decimal (Value.text t) a e can = can
leaf-formed (Shape.enum items added) (Value.item i) a e can = word_of_item (all_items items added) i (and-left (are_no_keywords (all_items items added)) (are_distinct (all_items items added)) a) e
leaf-formed Shape.octets (Value.octets o) a e can = e
leaf-formed Shape.any (Value.octets o) a e can = e
leaf-formed Shape.oid (Value.arcs arcs) a e can = and-left (all is_arc arcs) (is_object_identifier arcs) e
leaf-formed (Shape.bits m) (Value.bits bits n) a e can = and-both _ _ (padded-octets bits) (eq-eqb (length (padded bits)) ((length bits + 7) / 8) (omega (arith, length-padded bits)))
leaf-formed s v a e can = no_leaf e

-- What AVN writes for the value is well formed.
abbrev IsFormed : Value → Type 0
IsFormed v = is_well_formed (avn_tree v) ≡ true

trees-formed : (vs : Values) → AllByRecursion IsFormed (elements vs) → are_well_formed (avn_trees vs) ≡ true
unfolding is_well_formed
trees-formed Values.no_values h = refl
trees-formed (Values.value v vs) h = and-both _ _ h.0 (trees-formed vs h.1)

mutual
  unfolding is_well_formed

  -- The tree that AVN writes for a value of a shape that can be read is well formed, where AVN can write the value.
  pub well-formed : {s : Shape} {v : Value} → is_readable s ≡ true → Fits s v → Writable Notation.avn v → is_well_formed (avn_tree v) ≡ true
  well-formed a (Fits.fits_leaf {s} {v} e) can = leaf-formed s v a e can
  well-formed a (Fits.fits_members {kind} {fs} {added} {ms} fit) can = let read = fields_read kind fs added a in fields-formed read.spelled read.parts fit can
  well-formed a (Fits.fits_list {s} {vs} fit) can = trees-formed vs (each-formed a fit can)
  well-formed a (Fits.fits_set {s} {vs} fit sorted) can =
      subst (λ ts. are_well_formed ts ≡ true) (sym (avn_trees-sorted vs)) (trees-formed _ (each-ordered IsFormed (by_text (canonical_text Notation.avn)) vs (each-formed a fit can)))
  well-formed a (Fits.fits_table {s} {vs} fit rise) can = trees-formed vs (each-formed (and-right (is_entry s) (is_readable s) a) fit can)
  well-formed a (Fits.fits_choice {alts} {added} {i} {v} fit) can =
      let whole = all_alternatives alts added in
      let names = has_alternative whole && are_distinguishable whole in
      let told = and-right (has_alternative whole) (are_distinguishable whole) (and-left names (are_alternatives_readable 0 alts && are_added_alternatives_readable 0 added) a) in
      let spelled = and-left (are_identifiers (identifiers whole)) (differ_ignoring_case (identifiers whole)) (and-left (are_identifiers (identifiers whole) && differ_ignoring_case (identifiers whole)) (tags_distinct (tags whole) && not (has_tag (tags whole) end_tag)) told) in
      let read = and-right names (are_alternatives_readable 0 alts && are_added_alternatives_readable 0 added) a in
      let parts = all_readable alts added (and-left (are_alternatives_readable 0 alts) (are_added_alternatives_readable 0 added) read) (and-right (are_alternatives_readable 0 alts) (are_added_alternatives_readable 0 added) read) in
      alternative-formed spelled parts fit can
  well-formed a (Fits.fits_loop {b} fit) can = well-formed (unfolded-readable b a) fit can

  each-formed : {s : Shape} {vs : Values} → is_readable s ≡ true → FitsEach s vs → WritableEach Notation.avn vs → AllByRecursion IsFormed (elements vs)
  each-formed a FitsEach.fits_none can = tt
  each-formed a (FitsEach.fits_one fit rest) can = (well-formed a fit can.0, each-formed a rest can.1)

  fields-formed : {fs : Fields} {ms : Slots} → are_identifiers (field_names fs) ≡ true → are_fields_readable 0 fs ≡ true → FitsFields fs ms → WritableSlots Notation.avn ms → are_fields_well_formed (avn_fields ms) ≡ true
  fields-formed i a FitsFields.fits_end can = refl
  fields-formed i a (FitsFields.fits_present {n = name} {p = p} {s = s} {fs = fs} fit kept rest) can =
      and-both _ _ (and-left (is_identifier name) (are_identifiers (field_names fs)) i)
      (and-both _ _ (well-formed (and-right (suits p s) (is_readable s) (and-left (suits p s && is_readable s) (are_fields_readable 0 fs) a)) fit can.0)
      (fields-formed (and-right (is_identifier name) (are_identifiers (field_names fs)) i) (and-right (suits p s && is_readable s) (are_fields_readable 0 fs) a) rest can.1))
  fields-formed i a (FitsFields.fits_absent {n = name} {p = p} {s = s} {fs = fs} lack rest) can =
      and-both _ _ (and-left (is_identifier name) (are_identifiers (field_names fs)) i)
      (fields-formed (and-right (is_identifier name) (are_identifiers (field_names fs)) i) (and-right (suits p s && is_readable s) (are_fields_readable 0 fs) a) rest can)

  alternative-formed : {alts : Alternatives} {i : List ℕ} {v : Value} → are_identifiers (identifiers alts) ≡ true → are_alternatives_readable 0 alts ≡ true → FitsAlternative alts i v → Writable Notation.avn v → (is_identifier i && is_well_formed (avn_tree v)) ≡ true
  alternative-formed e a (FitsAlternative.fits_here {i} {t} {s} {alts} fit) can =
      and-both _ _ (and-left (is_identifier i) (are_identifiers (identifiers alts)) e) (well-formed (and-left (is_readable s) (are_alternatives_readable 0 alts) a) fit can)
  alternative-formed e a (FitsAlternative.fits_later {i} {j} {t} {s} {alts} rest) can =
      alternative-formed (and-right (is_identifier j) (are_identifiers (identifiers alts)) e) (and-right (is_readable s) (are_alternatives_readable 0 alts) a) rest can
