-- What a newer reader makes of a text that an older version wrote, what it writes then, and what is left of that for the older version.
use Rattle.std.proofs.Common.{◌≡◌, refl, ap, sym, ◌∙◌, subst, ℕ, Bool, true, false, not, ◌&&◌, if◌then◌else◌, List, [], ◌∷◌, ◌++◌, append_assoc, map, Some, None, ◌⊎◌, inl, inr}
use Rattle.std.specs.List.{AllByRecursion}
use Rattle.std.specs.Char.{to_ascii_lowercase}
use Rattle.std.specs.Str.{bytes_eq}
use Rattle.std.proofs.lemmas.Slice.Eq.{bytes_eq-Decides}
use Rattle.asn_core.specs.declared.tag.Tag.{Tag}
use Rattle.asn_fault.specs.Failure.{Cause}
use Rattle.asn_model.specs.Canonical.{canonical_text}
use Rattle.asn_model.specs.Components.{Component, Standing, components, reading_order, with_additions}
use Rattle.asn_model.specs.DecodesTo.{DecodesTo, EachDecodesTo, FieldsDecodeTo}
use Rattle.asn_model.specs.FailsWith.{Path}
use Rattle.asn_model.specs.Notation.{Notation, IsText}
use Rattle.asn_model.specs.Readable.{are_alternatives_readable, are_added_alternatives_readable, are_distinguishable, are_fields_readable, are_identifiers, differ_ignoring_case, has_alternative, has_identifier, is_entry, is_readable, suits}
use Rattle.asn_model.specs.Shape.{Shape, SeqKind, Fields, FieldAdditions, Alternatives, AlternativeAdditions, Presence, all_alternatives, all_fields, alternative_named, are_distinct, end_tag, field_names, has_tag, identifiers, is_item, join_fields, tags, tags_distinct, unfold_loop}
use Rattle.asn_model.specs.Sorting.{by_text}
use Rattle.asn_model.specs.Tree.{Slot, as_list, as_members, first_repeated, same_identifier}
use Rattle.asn_model.specs.Value.{Value, Values, Slots, Fits, FitsAlternative, FitsEach, FitsFields, bag_of, elements, is_kept, is_leaf_of, keys_rise, may_lack, ordered_by, sort_values}
use Rattle.asn_model.specs.Writable.{Writable, WritableEach, WritableSlots}
use Rattle.asn_model.specs.Writes.{Finds, slot_names, value_slots}
use Rattle.asn_model.proofs.Bags.{each-ordered}
use Rattle.asn_model.proofs.Entries.{table-rising}
use Rattle.asn_model.proofs.Readables.{and-left, and-right, fields_read, unfolded-readable}
use Rattle.asn_model.proofs.Written.{decodes_written, differs, none_named, others_named}
use Rattle.asn_growth.specs.Adapted.{adapted, adapted_each, adapted_slots, all_absent}
use Rattle.asn_growth.specs.ComesUpon.{ComesUpon, EachComesUpon, IsMissing}
use Rattle.asn_growth.specs.Grows.{Grows, GrowsFields, BeginsFields, BeginsAlternatives}
use Rattle.asn_growth.proofs.Adapting.{adapted-loop, adapted-same, bag-adapted, kept-adapted, no-slots, set-adapted, table-adapted}
use Rattle.asn_growth.proofs.Relaying.{Alike, IsRelayed, SlotsAlike, alike-itself, choice-alike, list-alike, members-alike, set-alike, tree-alike, tree_of, tree_writes}
use Rattle.asn_growth.proofs.FirstFailures.{IsRead, SomeComponent, FailsHere, all-read, first-failure, some-read}
use Rattle.asn_growth.proofs.Unfolding.{grows-unfolded, has_none}
use Rattle.asn_growth.proofs.Versions.{alternatives-begin, alternatives-joined, choice-adapted, fields-begin, joined-begin, readable-alternatives}

-- The newer reader reads the tree as the lifted value, or comes upon an absence.
abbrev pub Back : Notation → Shape → Value → Type 0
Back n r v = DecodesTo n r (Some (tree_of n v)) (adapted r v) ⊎ ((p : Path) × (w : Cause) × ComesUpon n r (tree_of n v) p w × IsMissing w)

-- What a newer version, r, makes of a value of an older one, s.
pub record Taken (n : Notation) (s r : Shape) (v : Value) : Type 0 where
  pub alike : Alike n (adapted r v) v
  pub again : adapted s (adapted r v) ≡ v
  pub read : Back n r v

all-alike : (n : Notation) (s r : Shape) (vs : Values) → AllByRecursion (Taken n s r) (elements vs) → AllByRecursion (IsRelayed n r) (elements vs)
all-alike n s r Values.no_values h = tt
all-alike n s r (Values.value v vs) h = let k = h.0 in (k.alike, all-alike n s r vs h.1)

all-back : (n : Notation) (s r : Shape) (vs : Values) → AllByRecursion (Taken n s r) (elements vs) → AllByRecursion (Back n r) (elements vs)
all-back n s r Values.no_values h = tt
all-back n s r (Values.value v vs) h = let k = h.0 in (k.read, all-back n s r vs h.1)

each-again : (n : Notation) (s r : Shape) (vs : Values) → AllByRecursion (Taken n s r) (elements vs) → adapted_each s (adapted_each r vs) ≡ vs
each-again n s r Values.no_values h = refl
each-again n s r (Values.value v vs) h = let k = h.0 in ap (λ x. Values.value x (adapted_each s (adapted_each r vs))) k.again ∙ ap (Values.value v) (each-again n s r vs h.1)

-- Of elements, all are read or there is a first absence.
abbrev EachBack : Notation → Shape → Values → Type 0
EachBack n r vs = EachDecodesTo n r (value_slots (tree_of n) vs) (adapted_each r vs) ⊎ ((p : Path) × (w : Cause) × EachComesUpon n r (value_slots (tree_of n) vs) p w × IsMissing w)

each-back : (n : Notation) (r : Shape) (vs : Values) → AllByRecursion (Back n r) (elements vs) → EachBack n r vs
each-back n r Values.no_values h = inl (EachDecodesTo.decodes_none r)
each-back n r (Values.value v vs) h = by h.0 (each-back n r vs h.1)
  where
    by : Back n r v → EachBack n r vs → EachBack n r (Values.value v vs)
    by (inl d) (inl ds) = inl (EachDecodesTo.decodes_one r (Some (tree_of n v)) (value_slots (tree_of n) vs) (adapted r v) (adapted_each r vs) d ds)
    by (inl d) (inr (p, w, u, k)) = inr (p, w, EachComesUpon.upon_later r (Some (tree_of n v)) (value_slots (tree_of n) vs) (adapted r v) p w d u, k)
    by (inr (p, w, u, k)) ds = inr (p, w, EachComesUpon.upon_here r (tree_of n v) (value_slots (tree_of n) vs) p w u, k)

list-back : (n : Notation) (r : Shape) (vs : Values) → IsText n → AllByRecursion (Back n r) (elements vs) → Back n (Shape.list_of r) (Value.list vs)
list-back n r vs x h = by (each-back n r vs h)
  where
    listed : as_list n (tree_of n (Value.list vs)) ≡ Some (value_slots (tree_of n) vs)
    listed = let w = tree_writes n x in w.list vs

    by : EachBack n r vs → Back n (Shape.list_of r) (Value.list vs)
    by (inl ds) = inl (DecodesTo.decodes_list r (tree_of n (Value.list vs)) (value_slots (tree_of n) vs) (adapted_each r vs) listed ds)
    by (inr (p, w, u, k)) = inr (p, w, ComesUpon.in_list r (tree_of n (Value.list vs)) (value_slots (tree_of n) vs) p w listed u, k)

set-back : (n : Notation) (r : Shape) (vs : Values) → IsText n → AllByRecursion (Back n r) (elements vs) → Back n (Shape.set_of r) (Value.bag vs)
set-back n r vs x h = by (each-back n r written (each-ordered (Back n r) (by_text (canonical_text n)) vs h))
  where
    written : Values
    written = ordered_by (by_text (canonical_text n)) vs

    listed : as_list n (tree_of n (Value.bag vs)) ≡ Some (value_slots (tree_of n) written)
    listed = let w = tree_writes n x in w.set vs

    by : EachBack n r written → Back n (Shape.set_of r) (Value.bag vs)
    by (inl ds) = inl (subst (DecodesTo n (Shape.set_of r) (Some (tree_of n (Value.bag vs)))) (bag-adapted r (by_text (canonical_text n)) vs) (DecodesTo.decodes_set r (tree_of n (Value.bag vs)) (value_slots (tree_of n) written) (adapted_each r written) listed ds))
    by (inr (p, w, u, k)) = inr (p, w, ComesUpon.in_set r (tree_of n (Value.bag vs)) (value_slots (tree_of n) written) p w listed u, k)

table-back : (n : Notation) (r : Shape) (vs : Values) → is_entry r ≡ true → keys_rise vs ≡ true → Back n (Shape.list_of r) (Value.list vs) → Back n (Shape.table r) (Value.list vs)
table-back n r vs e rise (inl d) =
    inl (subst (λ es. DecodesTo n (Shape.table r) (Some (tree_of n (Value.list vs))) (Value.list es)) (sym (table-adapted r vs e) ∙ ap (adapted_each r) (table-rising vs rise)) (DecodesTo.decodes_table r (tree_of n (Value.list vs)) (adapted_each r vs) d))
table-back n r vs e rise (inr (p, w, u, k)) = inr (p, w, ComesUpon.in_table r (tree_of n (Value.list vs)) p w u, k)

list-taken : (n : Notation) (s r : Shape) (vs : Values) → IsText n → AllByRecursion (Taken n s r) (elements vs) → Taken n (Shape.list_of s) (Shape.list_of r) (Value.list vs)
list-taken n s r vs x h = record {
  alike = list-alike n r vs (all-alike n s r vs h);
  again = ap Value.list (each-again n s r vs h);
  read = list-back n r vs x (all-back n s r vs h);
}

set-taken : (n : Notation) (s r : Shape) (vs : Values) → IsText n → is_readable s ≡ true → FitsEach s vs → sort_values vs ≡ vs → WritableEach n vs → AllByRecursion (Taken n s r) (elements vs) → Taken n (Shape.set_of s) (Shape.set_of r) (Value.bag vs)
set-taken n s r vs x a fit sorted can h = record {
  alike = set-alike n s r vs x a fit sorted can (all-alike n s r vs h);
  again = set-adapted s (adapted_each r vs) ∙ ap bag_of (each-again n s r vs h) ∙ ap Value.bag sorted;
  read = set-back n r vs x (all-back n s r vs h);
}

table-taken : (n : Notation) (s r : Shape) (vs : Values) → IsText n → is_entry r ≡ true → keys_rise vs ≡ true → AllByRecursion (Taken n s r) (elements vs) → Taken n (Shape.table s) (Shape.table r) (Value.list vs)
table-taken n s r vs x e rise h = record {
  alike = list-alike n r vs (all-alike n s r vs h);
  again = ap Value.list (each-again n s r vs h);
  read = table-back n r vs e rise (list-back n r vs x (all-back n s r vs h));
}

-- An alternative of both versions, and what the newer one makes of its payload.
abbrev AlternativeTaken : Notation → Alternatives → Alternatives → List ℕ → Value → Type 0
AlternativeTaken n alts bs i v = (s : Shape) × (r : Shape) × (alternative_named same_identifier alts i ≡ Some (i, s)) × (alternative_named same_identifier bs i ≡ Some (i, r)) × Taken n s r v

choice-taken : (n : Notation) (alts : Alternatives) (added : AlternativeAdditions) (bs : Alternatives) (more : AlternativeAdditions) (i : List ℕ) (v : Value) → IsText n → AlternativeTaken n (all_alternatives alts added) (all_alternatives bs more) i v
    → Taken n (Shape.choice alts added) (Shape.choice bs more) (Value.choice i v)
choice-taken n alts added bs more i v x (s, r, old, new, k) = record {
  alike = subst (λ y. Alike n y (Value.choice i v)) (sym lifted) (choice-alike n i (adapted r v) v k.alike);
  again = ap (adapted (Shape.choice alts added)) lifted ∙ choice-adapted alts added i s (adapted r v) old ∙ ap (Value.choice i) k.again;
  read = by k.read;
}
  where
    lifted : adapted (Shape.choice bs more) (Value.choice i v) ≡ Value.choice i (adapted r v)
    lifted = choice-adapted bs more i r v new

    by : Back n r v → Back n (Shape.choice bs more) (Value.choice i v)
    by (inl d) =
        let w = tree_writes n x in
        inl (subst (DecodesTo n (Shape.choice bs more) (Some (tree_of n (Value.choice i v)))) (sym lifted) (DecodesTo.decodes_choice bs more (tree_of n (Value.choice i v)) i (tree_of n v) i r (adapted r v) (w.choice i v) new d))
    by (inr (p, y, u, m)) = let w = tree_writes n x in inr (p, y, ComesUpon.in_payload bs more (tree_of n (Value.choice i v)) (tree_of n v) i i r p y (w.choice i v) new u, m)

loop-taken : (n : Notation) (b c : Shape) (v : Value) → is_readable (Shape.loop b) ≡ true → is_readable (Shape.loop c) ≡ true → Taken n (unfold_loop b) (unfold_loop c) v → Taken n (Shape.loop b) (Shape.loop c) v
loop-taken n b c v a e k = record {
  alike = subst (λ y. Alike n y v) (sym turned) k.alike;
  again = ap (adapted (Shape.loop b)) turned ∙ adapted-loop b (adapted (unfold_loop c) v) a ∙ k.again;
  read = by k.read;
}
  where
    turned : adapted (Shape.loop c) v ≡ adapted (unfold_loop c) v
    turned = adapted-loop c v e

    by : Back n (unfold_loop c) v → Back n (Shape.loop c) v
    by (inl d) = inl (DecodesTo.decodes_loop c (tree_of n v) (adapted (Shape.loop c) v) (subst (DecodesTo n (unfold_loop c) (Some (tree_of n v))) (sym turned) d))
    by (inr (p, w, u, m)) = inr (p, w, ComesUpon.in_loop c (tree_of n v) p w u, m)

-- What a newer version makes of the members of an older one.
data FieldsTaken (n : Notation) : Fields → Fields → Slots → Type 0 where
  taken_added : (more : Fields) → FieldsTaken n Fields.no_fields more Slots.no_slots
  taken_present : (name : List ℕ) (t : Tag) (p : Presence) (s r : Shape) (fs gs : Fields) (v : Value) (ms : Slots) → Taken n s r v → is_kept p v ≡ true → FieldsTaken n fs gs ms
      → FieldsTaken n (Fields.field name t p s fs) (Fields.field name t p r gs) (Slots.present name v ms)
  taken_absent : (name : List ℕ) (t : Tag) (p : Presence) (s r : Shape) (fs gs : Fields) (ms : Slots) → may_lack p ≡ true → FieldsTaken n fs gs ms → FieldsTaken n (Fields.field name t p s fs) (Fields.field name t p r gs) (Slots.absent name ms)

slots-alike : {n : Notation} {fs gs : Fields} {ms : Slots} → FieldsTaken n fs gs ms → SlotsAlike n (adapted_slots gs ms) ms
slots-alike (FieldsTaken.taken_added more) = SlotsAlike.alike_end more
slots-alike (FieldsTaken.taken_present name t p s r fs gs v ms k kept h) = SlotsAlike.alike_present name (adapted r v) v (adapted_slots gs ms) ms k.alike (slots-alike h)
slots-alike (FieldsTaken.taken_absent name t p s r fs gs ms lack h) = SlotsAlike.alike_absent name (adapted_slots gs ms) ms (slots-alike h)

slots-again : {n : Notation} {fs gs : Fields} {ms : Slots} → FieldsTaken n fs gs ms → adapted_slots fs (adapted_slots gs ms) ≡ ms
slots-again (FieldsTaken.taken_added more) = no-slots (all_absent more)
slots-again (FieldsTaken.taken_present name t p s r fs gs v ms k kept h) = ap (λ y. Slots.present name y (adapted_slots fs (adapted_slots gs ms))) k.again ∙ ap (Slots.present name v) (slots-again h)
slots-again (FieldsTaken.taken_absent name t p s r fs gs ms lack h) = ap (Slots.absent name) (slots-again h)

-- The members, with an absent one for each field after them.
abbrev padded : Fields → Slots → Slots
padded fs Slots.no_slots = all_absent fs
padded Fields.no_fields (Slots.absent m ms) = Slots.no_slots
padded Fields.no_fields (Slots.present m v ms) = Slots.no_slots
padded (Fields.field n t p s fs) (Slots.absent m ms) = Slots.absent m (padded fs ms)
padded (Fields.field n t p s fs) (Slots.present m v ms) = Slots.present m v (padded fs ms)

-- There are as many fields in one as in the other.
abbrev AreAsMany : Fields → Fields → Type 0
AreAsMany Fields.no_fields Fields.no_fields = Unit {0}
AreAsMany (Fields.field n t p s fs) (Fields.field m u q r gs) = AreAsMany fs gs
AreAsMany fs gs = ⊥

as-many : {fs gs : Fields} → GrowsFields fs gs → AreAsMany fs gs
as-many GrowsFields.grows_no_fields = tt
as-many (GrowsFields.grows_field g h) = as-many h

absent-names : (fs : Fields) → slot_names (all_absent fs) ≡ field_names fs
absent-names Fields.no_fields = refl
absent-names (Fields.field n t p s fs) = ap (λ l. n ∷ l) (absent-names fs)

padded-names : {n : Notation} {fs gs : Fields} {ms : Slots} → FieldsTaken n fs gs ms → slot_names (padded gs ms) ≡ field_names gs
padded-names (FieldsTaken.taken_added more) = absent-names more
padded-names (FieldsTaken.taken_present name t p s r fs gs v ms k kept h) = ap (λ l. name ∷ l) (padded-names h)
padded-names (FieldsTaken.taken_absent name t p s r fs gs ms lack h) = ap (λ l. name ∷ l) (padded-names h)

padded-alike : {n : Notation} {fs gs : Fields} {ms : Slots} → FieldsTaken n fs gs ms → SlotsAlike n (padded gs ms) ms
padded-alike (FieldsTaken.taken_added more) = SlotsAlike.alike_end more
padded-alike {n} (FieldsTaken.taken_present name t p s r fs gs v ms k kept h) = SlotsAlike.alike_present name v v (padded gs ms) ms (alike-itself n v) (padded-alike h)
padded-alike (FieldsTaken.taken_absent name t p s r fs gs ms lack h) = SlotsAlike.alike_absent name (padded gs ms) ms (padded-alike h)

module _ (n : Notation) (look : List ℕ → Slot) where
  abbrev is_read : Component → Type 0
  is_read c = IsRead IsMissing n look c

  abbrev fails : Component → Type 0
  fails c = FailsHere IsMissing n look c

  -- Each component is read or fails, and all fields are read as these members or some component fails.
  abbrev Outcome : List Component → Fields → Slots → Type 0
  Outcome cs gs vs = AllByRecursion is_read cs × (FieldsDecodeTo n gs (map look (field_names gs)) vs ⊎ SomeComponent fails cs)

  abbrev component : Standing → List ℕ → Tag → Presence → Shape → Component
  component at name t p r = record { name = name; tag = t; presence = p; shape = r; standing = at }

  present-outcome : (at : Standing) (name : List ℕ) (t : Tag) (p : Presence) (r : Shape) (cs : List Component) (gs : Fields) (v : Value) (vs : Slots) → look name ≡ Some (tree_of n v) → is_kept p v ≡ true → Back n r v → Outcome cs gs vs
      → Outcome (component at name t p r ∷ cs) (Fields.field name t p r gs) (Slots.present name (adapted r v) vs)
  present-outcome at name t p r cs gs v vs e kept (inl d) o = ((inl (inl (adapted r v, found)), o.0), by o.1)
    where
      found : DecodesTo n r (look name) (adapted r v)
      found = subst (λ slot. DecodesTo n r slot (adapted r v)) (sym e) d

      by : FieldsDecodeTo n gs (map look (field_names gs)) vs ⊎ SomeComponent fails cs → FieldsDecodeTo n (Fields.field name t p r gs) (look name ∷ map look (field_names gs)) (Slots.present name (adapted r v) vs) ⊎ SomeComponent fails (component at name t p r ∷ cs)
      by (inl ds) = inl (subst (FieldsDecodeTo n (Fields.field name t p r gs) (look name ∷ map look (field_names gs))) (ap (λ b. if b then Slots.present name (adapted r v) vs else Slots.absent name vs) (kept-adapted p r v ∙ kept)) (FieldsDecodeTo.decodes_present name t p r gs (look name) (map look (field_names gs)) (adapted r v) vs found ds))
      by (inr h) = inr (inr h)
  present-outcome at name t p r cs gs v vs e kept (inr (q, w, u, m)) o = let failure = inl (tree_of n v, e, q, w, u, m) in ((inr failure, o.0), inr (inl failure))

  absent-outcome : (at : Standing) (name : List ℕ) (t : Tag) (p : Presence) (r : Shape) (cs : List Component) (gs : Fields) (vs : Slots) → look name ≡ None → may_lack p ≡ true → Outcome cs gs vs → Outcome (component at name t p r ∷ cs) (Fields.field name t p r gs) (Slots.absent name vs)
  absent-outcome at name t p r cs gs vs e lack o = ((inl (inr (e, lack)), o.0), by o.1)
    where
      by : FieldsDecodeTo n gs (map look (field_names gs)) vs ⊎ SomeComponent fails cs → FieldsDecodeTo n (Fields.field name t p r gs) (look name ∷ map look (field_names gs)) (Slots.absent name vs) ⊎ SomeComponent fails (component at name t p r ∷ cs)
      by (inl ds) = inl (subst (λ slot. FieldsDecodeTo n (Fields.field name t p r gs) (slot ∷ map look (field_names gs)) (Slots.absent name vs)) (sym e) (FieldsDecodeTo.decodes_absent name t p r gs (map look (field_names gs)) vs lack ds))
      by (inr h) = inr (inr h)

  -- An addition that the older version lacks may be absent, or it fails.
  lacking-outcome : (name : List ℕ) (t : Tag) (p : Presence) (r : Shape) (cs : List Component) (gs : Fields) (vs : Slots) (b : Bool) → may_lack p ≡ b → look name ≡ None → Outcome cs gs vs → Outcome (component Standing.addition name t p r ∷ cs) (Fields.field name t p r gs) (Slots.absent name vs)
  lacking-outcome name t p r cs gs vs true lack e o = absent-outcome Standing.addition name t p r cs gs vs e lack o
  lacking-outcome name t p r cs gs vs false needed e o = let failure = inr (e, needed, refl, (name, refl)) in ((inr failure, o.0), inr (inl failure))

  more-outcome : (more : Fields) → Finds (tree_of n) look (all_absent more) → Outcome (components Standing.addition more) more (all_absent more)
  more-outcome Fields.no_fields f = (tt, inl FieldsDecodeTo.decodes_end)
  more-outcome (Fields.field name t p r more) f = lacking-outcome name t p r (components Standing.addition more) more (all_absent more) (may_lack p) refl f.0 (more-outcome more f.1)

  added-outcome : {fs gs : Fields} {ms : Slots} → FieldsTaken n fs gs ms → Finds (tree_of n) look (padded gs ms) → Outcome (components Standing.addition gs) gs (adapted_slots gs ms)
  added-outcome (FieldsTaken.taken_added more) f = more-outcome more f
  added-outcome (FieldsTaken.taken_present name t p s r fs gs v ms k kept h) f = present-outcome Standing.addition name t p r (components Standing.addition gs) gs v (adapted_slots gs ms) f.0 kept k.read (added-outcome h f.1)
  added-outcome (FieldsTaken.taken_absent name t p s r fs gs ms lack h) f = absent-outcome Standing.addition name t p r (components Standing.addition gs) gs (adapted_slots gs ms) f.0 lack (added-outcome h f.1)

  closed-outcome : (fs gs : Fields) {ms : Slots} → AreAsMany fs gs → FieldsTaken n fs gs ms → Finds (tree_of n) look (padded gs ms) → Outcome (components Standing.root gs) gs (adapted_slots gs ms)
  closed-outcome Fields.no_fields Fields.no_fields many (FieldsTaken.taken_added more) f = (tt, inl FieldsDecodeTo.decodes_end)
  closed-outcome (Fields.field name t p s fs) (Fields.field name2 t2 p2 r gs) many (FieldsTaken.taken_present name3 t3 p3 s3 r3 fs3 gs3 v ms k kept h) f =
      present-outcome Standing.root name t p r (components Standing.root gs) gs v (adapted_slots gs ms) f.0 kept k.read (closed-outcome fs gs many h f.1)
  closed-outcome (Fields.field name t p s fs) (Fields.field name2 t2 p2 r gs) many (FieldsTaken.taken_absent name3 t3 p3 s3 r3 fs3 gs3 ms lack h) f =
      absent-outcome Standing.root name t p r (components Standing.root gs) gs (adapted_slots gs ms) f.0 lack (closed-outcome fs gs many h f.1)
  closed-outcome Fields.no_fields (Fields.field name t p r gs) many h f = elim many [ ]
  closed-outcome (Fields.field name t p s fs) Fields.no_fields many h f = elim many [ ]

  joined-outcome : (fs gs added more : Fields) {ms : Slots} → AreAsMany fs gs → FieldsTaken n (join_fields fs added) (join_fields gs more) ms → Finds (tree_of n) look (padded (join_fields gs more) ms)
      → Outcome (components Standing.root gs ++ components Standing.addition more) (join_fields gs more) (adapted_slots (join_fields gs more) ms)
  joined-outcome Fields.no_fields Fields.no_fields added more many h f = added-outcome h f
  joined-outcome (Fields.field name t p s fs) (Fields.field name2 t2 p2 r gs) added more many (FieldsTaken.taken_present name3 t3 p3 s3 r3 fs3 gs3 v ms k kept h) f =
      present-outcome Standing.root name t p r (components Standing.root gs ++ components Standing.addition more) (join_fields gs more) v (adapted_slots (join_fields gs more) ms) f.0 kept k.read (joined-outcome fs gs added more many h f.1)
  joined-outcome (Fields.field name t p s fs) (Fields.field name2 t2 p2 r gs) added more many (FieldsTaken.taken_absent name3 t3 p3 s3 r3 fs3 gs3 ms lack h) f =
      absent-outcome Standing.root name t p r (components Standing.root gs ++ components Standing.addition more) (join_fields gs more) (adapted_slots (join_fields gs more) ms) f.0 lack (joined-outcome fs gs added more many h f.1)
  joined-outcome Fields.no_fields (Fields.field name t p r gs) added more many h f = elim many [ ]
  joined-outcome (Fields.field name t p s fs) Fields.no_fields added more many h f = elim many [ ]

  members-back : (kind : SeqKind) (gs : Fields) (more : FieldAdditions) (ms : Slots) → as_members n (tree_of n (Value.members ms)) ≡ Some look → first_repeated n (tree_of n (Value.members ms)) (field_names (all_fields gs more)) ≡ None → Outcome (with_additions (components Standing.root gs) more) (all_fields gs more) (adapted_slots (all_fields gs more) ms)
      → Back n (Shape.seq kind gs more) (Value.members ms)
  members-back kind gs more ms e single o = by o.1
    where
      by : FieldsDecodeTo n (all_fields gs more) (map look (field_names (all_fields gs more))) (adapted_slots (all_fields gs more) ms) ⊎ SomeComponent fails (with_additions (components Standing.root gs) more) → Back n (Shape.seq kind gs more) (Value.members ms)
      by (inl ds) = inl (DecodesTo.decodes_seq kind gs more (tree_of n (Value.members ms)) look (adapted_slots (all_fields gs more) ms) e single ds)
      by (inr h) =
          let r = first-failure IsMissing n look (reading_order kind gs more) (all-read is_read kind gs more o.0) (some-read fails kind gs more h) in
          inr (r.0, r.1, ComesUpon.in_field kind gs more (tree_of n (Value.members ms)) look r.0 r.1 e single r.2, r.3)

members-taken : (n : Notation) (kind : SeqKind) (fs : Fields) (added : FieldAdditions) (gs : Fields) (more : FieldAdditions) (ms : Slots) → IsText n → are_distinct (field_names (all_fields gs more)) ≡ true → FieldsTaken n (all_fields fs added) (all_fields gs more) ms
    → ((look : List ℕ → Slot) → Finds (tree_of n) look (padded (all_fields gs more) ms) → Outcome n look (with_additions (components Standing.root gs) more) (all_fields gs more) (adapted_slots (all_fields gs more) ms))
    → Taken n (Shape.seq kind fs added) (Shape.seq kind gs more) (Value.members ms)
members-taken n kind fs added gs more ms x distinct h outcome =
    let w = tree_writes n x in
    let pads = padded (all_fields gs more) ms in
    let found = w.members pads (ap are_distinct (padded-names h) ∙ distinct) in
    let same = tree-alike n (Value.members pads) (Value.members ms) x (members-alike n (padded-alike h)) in
    record {
      alike = members-alike n (slots-alike h);
      again = ap Value.members (slots-again h);
      read = members-back n found.0 kind gs more ms (subst (λ t. as_members n t ≡ Some found.0) same found.1)
          (subst (λ t. first_repeated n t (field_names (all_fields gs more)) ≡ None) same (found.2 (field_names (all_fields gs more)))) (outcome found.0 found.3);
    }

item-more : (items more : List (List ℕ)) (i : List ℕ) → is_item items i ≡ true → is_item (items ++ more) i ≡ true
item-more [] more i e = has_none (sym e)
item-more (j ∷ items) more i e = by (item-more items more i) (bytes_eq i j) e
  where
    by : (is_item items i ≡ true → is_item (items ++ more) i ≡ true) → (b : Bool) → (if b then true else is_item items i) ≡ true → (if b then true else is_item (items ++ more) i) ≡ true
    by later true f = refl
    by later false f = later f

enum-fits : (items added more : List (List ℕ)) (v : Value) → is_leaf_of (Shape.enum items (Some added)) v ≡ true → is_leaf_of (Shape.enum items (Some (added ++ more))) v ≡ true
enum-fits items added more (Value.item i) e = ap (λ l. is_item l i) (sym (append_assoc items added more)) ∙ item-more (items ++ added) more i e
enum-fits items added more v e = has_none (sym e)

-- A value without parts is the same in both versions.
same-taken : (n : Notation) (s r : Shape) (v : Value) → IsText n → adapted s v ≡ v → adapted r v ≡ v → is_readable r ≡ true → Fits r v → Writable n v → Taken n s r v
same-taken n s r v x old new a fit can = record {
  alike = subst (λ y. Alike n y v) (sym new) (alike-itself n v);
  again = ap (adapted s) new ∙ old;
  read = inl (subst (DecodesTo n r (Some (tree_of n v))) (sym new) (decodes_written n (tree_of n) (tree_writes n x) a fit can));
}

same_identifier-itself : (i : List ℕ) → same_identifier i i ≡ true
same_identifier-itself i = (bytes_eq-Decides (map to_ascii_lowercase i) (map to_ascii_lowercase i)).1 refl

-- The identifiers of a choice that can be read differ in more than case.
differing : (alts : Alternatives) (added : AlternativeAdditions) → is_readable (Shape.choice alts added) ≡ true → differ_ignoring_case (identifiers (all_alternatives alts added)) ≡ true
differing alts added a =
    let whole = all_alternatives alts added in
    let named = are_identifiers (identifiers whole) && differ_ignoring_case (identifiers whole) in
    let told = and-right (has_alternative whole) (are_distinguishable whole) (and-left (has_alternative whole && are_distinguishable whole) (are_alternatives_readable 0 alts && are_added_alternatives_readable 0 added) a) in
    and-right (are_identifiers (identifiers whole)) (differ_ignoring_case (identifiers whole)) (and-left named (tags_distinct (tags whole) && not (has_tag (tags whole) end_tag)) told)

here-taken : (n : Notation) (i : List ℕ) (t : Tag) (s r : Shape) (alts bs : Alternatives) (v : Value) → Taken n s r v → AlternativeTaken n (Alternatives.alternative i t s alts) (Alternatives.alternative i t r bs) i v
here-taken n i t s r alts bs v k =
    (s, r, ap (λ b. if b then Some (i, s) else alternative_named same_identifier alts i) (same_identifier-itself i), ap (λ b. if b then Some (i, r) else alternative_named same_identifier bs i) (same_identifier-itself i), k)

later-taken : (n : Notation) (i j : List ℕ) (t : Tag) (s r : Shape) (alts bs : Alternatives) (v : Value) → same_identifier i j ≡ false → AlternativeTaken n alts bs i v → AlternativeTaken n (Alternatives.alternative j t s alts) (Alternatives.alternative j t r bs) i v
later-taken n i j t s r alts bs v other (q, o, old, new, k) =
    (q, o, ap (λ b. if b then Some (j, s) else alternative_named same_identifier alts i) other ∙ old, ap (λ b. if b then Some (j, r) else alternative_named same_identifier bs i) other ∙ new, k)

mutual
  -- A newer version takes a value of an older one that can be written.
  pub taken : {n : Notation} {old new : Shape} {v : Value} → IsText n → Grows old new → is_readable old ≡ true → is_readable new ≡ true → Fits old v → Writable n v → Taken n old new v
  taken {n} {v = v} x (Grows.grows_same {s} e) a b fit can = same-taken n s s v x (adapted-same s v e) (adapted-same s v e) b fit can
  taken {n} x (Grows.grows_enum items added more) a b (Fits.fits_leaf {s} {v} e) can = same-taken n (Shape.enum items (Some added)) (Shape.enum items (Some (added ++ more))) v x refl refl b (Fits.fits_leaf (enum-fits items added more v e)) can
  taken {n} x (Grows.grows_closed_seq {kind} {fs} {gs} m) a b (Fits.fits_members {ms = ms} fit) can =
      let older = fields_read kind fs FieldAdditions.closed_fields a in
      let newer = fields_read kind gs FieldAdditions.closed_fields b in
      let h = fields-taken x (fields-begin m) older.parts newer.parts fit can in
      members-taken n kind fs FieldAdditions.closed_fields gs FieldAdditions.closed_fields ms x newer.distinct h (λ look f. closed-outcome n look fs gs (as-many m) h f)
  taken {n} x (Grows.grows_seq {kind} {fs} {gs} {added} {more} m k) a b (Fits.fits_members {ms = ms} fit) can =
      let older = fields_read kind fs (FieldAdditions.extended_fields added) a in
      let newer = fields_read kind gs (FieldAdditions.extended_fields more) b in
      let h = fields-taken x (joined-begin m k) older.parts newer.parts fit can in
      members-taken n kind fs (FieldAdditions.extended_fields added) gs (FieldAdditions.extended_fields more) ms x newer.distinct h (λ look f. joined-outcome n look fs gs added more (as-many m) h f)
  taken {n} x (Grows.grows_list {s} {r} g) a b (Fits.fits_list {vs = vs} fit) can = list-taken n s r vs x (each-taken n x g a b fit can)
  taken {n} x (Grows.grows_set {s} {r} g) a b (Fits.fits_set {vs = vs} fit sorted) can = set-taken n s r vs x a fit sorted can (each-taken n x g a b fit can)
  taken {n} x (Grows.grows_table {s} {r} g) a b (Fits.fits_table {vs = vs} fit rise) can =
      table-taken n s r vs x (and-left (is_entry r) (is_readable r) b) rise (each-taken n x g (and-right (is_entry s) (is_readable s) a) (and-right (is_entry r) (is_readable r) b) fit can)
  taken {n} x (Grows.grows_closed_choice {alts} {bs} m) a b (Fits.fits_choice {i = i} {v = v} fit) can =
      let older = AlternativeAdditions.closed_alternatives in
      choice-taken n alts older bs older i v x (alternative-taken x (alternatives-begin m) (differing alts older a) (readable-alternatives alts older a) (readable-alternatives bs older b) fit can)
  taken {n} x (Grows.grows_choice {alts} {bs} {added} {more} m k) a b (Fits.fits_choice {i = i} {v = v} fit) can =
      let older = AlternativeAdditions.extended_alternatives added in
      let newer = AlternativeAdditions.extended_alternatives more in
      choice-taken n alts older bs newer i v x (alternative-taken x (alternatives-joined m k) (differing alts older a) (readable-alternatives alts older a) (readable-alternatives bs newer b) fit can)
  taken {n} x (Grows.grows_loop {b = body} {c} g) a b (Fits.fits_loop {v = v} fit) can =
      loop-taken n body c v a b (taken x (grows-unfolded (Grows.grows_loop g)) (unfolded-readable body a) (unfolded-readable c b) fit can)
  taken x (Grows.grows_closed_seq m) a b (Fits.fits_leaf e) can = has_none (sym e)
  taken x (Grows.grows_seq m k) a b (Fits.fits_leaf e) can = has_none (sym e)
  taken x (Grows.grows_list g) a b (Fits.fits_leaf e) can = has_none (sym e)
  taken x (Grows.grows_set g) a b (Fits.fits_leaf e) can = has_none (sym e)
  taken x (Grows.grows_table g) a b (Fits.fits_leaf e) can = has_none (sym e)
  taken x (Grows.grows_closed_choice m) a b (Fits.fits_leaf e) can = has_none (sym e)
  taken x (Grows.grows_choice m k) a b (Fits.fits_leaf e) can = has_none (sym e)
  taken x (Grows.grows_loop g) a b (Fits.fits_leaf e) can = has_none (sym e)

  each-taken : (n : Notation) {old new : Shape} {vs : Values} → IsText n → Grows old new → is_readable old ≡ true → is_readable new ≡ true → FitsEach old vs → WritableEach n vs → AllByRecursion (Taken n old new) (elements vs)
  each-taken n x g a b FitsEach.fits_none can = tt
  each-taken n x g a b (FitsEach.fits_one fit rest) can = (taken x g a b fit can.0, each-taken n x g a b rest can.1)

  fields-taken : {n : Notation} {fs gs : Fields} {ms : Slots} → IsText n → BeginsFields fs gs → are_fields_readable 0 fs ≡ true → are_fields_readable 0 gs ≡ true → FitsFields fs ms → WritableSlots n ms → FieldsTaken n fs gs ms
  fields-taken x (BeginsFields.begins_fields {more}) a b FitsFields.fits_end can = FieldsTaken.taken_added more
  fields-taken x (BeginsFields.begins_field {n = name} {t} {p} {s} {r} {fs} {gs} g m) a b (FitsFields.fits_present {n = name2} {t = t2} {p = p2} {s = s2} {fs = fs2} {v} {ms} fit kept rest) can =
      let older = and-right (suits p s) (is_readable s) (and-left (suits p s && is_readable s) (are_fields_readable 0 fs) a) in
      let newer = and-right (suits p r) (is_readable r) (and-left (suits p r && is_readable r) (are_fields_readable 0 gs) b) in
      FieldsTaken.taken_present name t p s r fs gs v ms (taken x g older newer fit can.0) kept (fields-taken x m (and-right (suits p s && is_readable s) (are_fields_readable 0 fs) a) (and-right (suits p r && is_readable r) (are_fields_readable 0 gs) b) rest can.1)
  fields-taken x (BeginsFields.begins_field {n = name} {t} {p} {s} {r} {fs} {gs} g m) a b (FitsFields.fits_absent {n = name2} {t = t2} {p = p2} {s = s2} {fs = fs2} {ms} lack rest) can =
      FieldsTaken.taken_absent name t p s r fs gs ms lack (fields-taken x m (and-right (suits p s && is_readable s) (are_fields_readable 0 fs) a) (and-right (suits p r && is_readable r) (are_fields_readable 0 gs) b) rest can)

  alternative-taken : {n : Notation} {alts bs : Alternatives} {i : List ℕ} {v : Value} → IsText n → BeginsAlternatives alts bs → differ_ignoring_case (identifiers alts) ≡ true → are_alternatives_readable 0 alts ≡ true → are_alternatives_readable 0 bs ≡ true → FitsAlternative alts i v → Writable n v → AlternativeTaken n alts bs i v
  alternative-taken x BeginsAlternatives.begins_alternatives apart a b fit can = elim fit [ ]
  alternative-taken {n} x (BeginsAlternatives.begins_alternative {i} {t} {s} {r} {alts} {bs} g m) apart a b (FitsAlternative.fits_here {i = i2} {t = t2} {s = s2} {alts = alts2} {v} fit) can =
      here-taken n i t s r alts bs v (taken x g (and-left (is_readable s) (are_alternatives_readable 0 alts) a) (and-left (is_readable r) (are_alternatives_readable 0 bs) b) fit can)
  alternative-taken {n} x (BeginsAlternatives.begins_alternative {i = j} {t} {s} {r} {alts} {bs} g m) apart a b (FitsAlternative.fits_later {i} {j = j2} {t = t2} {s = s2} {alts = alts2} {v} rest) can =
      let none = none_named (has_identifier (identifiers alts) j) (differ_ignoring_case (identifiers alts)) apart in
      later-taken n i j t s r alts bs v (differs j rest none)
      (alternative-taken x m (others_named (has_identifier (identifiers alts) j) (differ_ignoring_case (identifiers alts)) apart) (and-right (is_readable s) (are_alternatives_readable 0 alts) a) (and-right (is_readable r) (are_alternatives_readable 0 bs) b) rest can)
