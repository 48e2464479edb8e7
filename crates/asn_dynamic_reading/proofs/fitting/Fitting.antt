-- What a tree decodes to is a value of the shape, if it is held.
use Rattle.std.proofs.Common.{◌≡◌, refl, subst, ℕ, List, Bool, true, false, Option, Some, None, Result, Ok, if◌then◌else◌}
use Rattle.std.specs.List.{AllByRecursion}
use Rattle.asn_core.specs.declared.tag.Tag.{Tag}
use Rattle.asn_model.specs.DecodesTo.{DecodesTo, EachDecodesTo, FieldsDecodeTo}
use Rattle.asn_model.specs.Leaf.{LeafFailure}
use Rattle.asn_model.specs.Notation.{Notation, IsText}
use Rattle.asn_model.specs.Shape.{Shape, Alternatives, Fields, Presence, all_alternatives, alternative_named}
use Rattle.asn_model.specs.Tree.{Slot, same_identifier}
use Rattle.asn_model.specs.Value.{Value, Values, Slots, Fits, FitsAlternative, FitsEach, FitsFields, elements, is_kept, may_lack, sort_values, table_of, value_cmp, with_field}
use Rattle.asn_model.proofs.Bags.{each-ordered}
use Rattle.asn_model.proofs.Meanings.{not_other}
use Rattle.asn_dynamic_reading.specs.fitting.HeldValue.{AreHeldSlots, AreHeldValues, IsHeldValue}
use Rattle.asn_dynamic_reading.proofs.fitting.Elements.{each_in_table, sorted_twice, table_rises}
use Rattle.asn_dynamic_reading.proofs.fitting.Leaves.{leaf-fits}

-- The value is one of the shape, if it is held.
abbrev FitsHeld : Shape → Value → Type 0
FitsHeld s v = IsHeldValue v → Fits s v

same_found : {i j : List ℕ} {a s : Shape} → ◌≡◌ {A = Option (List ℕ × Shape)} (Some (i, a)) (Some (j, s)) → ◌≡◌ {A = List ℕ × Shape} (i, a) (j, s)
same_found e = cc e

-- The alternative that a name finds is there.
found-fits : (alts : Alternatives) (name id : List ℕ) (s : Shape) (v : Value) → alternative_named same_identifier alts name ≡ Some (id, s) → Fits s v → FitsAlternative alts id v
found-fits Alternatives.no_alternatives name id s v e h = let d : ◌≡◌ {A = Option (List ℕ × Shape)} None (Some (id, s)) = e in cc d
found-fits (Alternatives.alternative i t a alts) name id s v e h = by (λ later. found-fits alts name id s v later h) (same_identifier name i) e
  where
    here : ◌≡◌ {A = List ℕ × Shape} (i, a) (id, s) → FitsAlternative (Alternatives.alternative i t a alts) id v
    here same = subst (λ (p : List ℕ × Shape). Fits p.1 v → FitsAlternative (Alternatives.alternative i t a alts) p.0 v) same FitsAlternative.fits_here h

    by : (alternative_named same_identifier alts name ≡ Some (id, s) → FitsAlternative alts id v) → (b : Bool) → (if b then Some (i, a) else alternative_named same_identifier alts name) ≡ Some (id, s) → FitsAlternative (Alternatives.alternative i t a alts) id v
    by others true same = here (same_found same)
    by others false later = FitsAlternative.fits_later (others later)

each-fits : (s : Shape) (vs : Values) → AllByRecursion (FitsHeld s) (elements vs) → AreHeldValues vs → FitsEach s vs
each-fits s Values.no_values hs held = FitsEach.fits_none
each-fits s (Values.value v vs) hs held = FitsEach.fits_one (hs.0 held.0) (each-fits s vs hs.1 held.1)

-- A member that is written is a value of its field's shape, and one that is a default counts as absent.
kept-fits : (name : List ℕ) (g : Tag) (p : Presence) (s : Shape) (fs : Fields) (v : Value) (vs : Slots) → FitsHeld s v → (AreHeldSlots vs → FitsFields fs vs) → AreHeldSlots (with_field p name v vs) → FitsFields (Fields.field name g p s fs) (with_field p name v vs)
kept-fits name g p s fs v vs h hs held = by (is_kept p v) refl held
  where
    lacks : (p : Presence) → is_kept p v ≡ false → may_lack p ≡ true
    lacks Presence.required e = let d : true ≡ false = e in cc d
    lacks p e = refl

    by : (b : Bool) → is_kept p v ≡ b → AreHeldSlots (if b then Slots.present name v vs else Slots.absent name vs) → FitsFields (Fields.field name g p s fs) (if b then Slots.present name v vs else Slots.absent name vs)
    by true e held = FitsFields.fits_present (h held.0) e (hs held.1)
    by false e held = FitsFields.fits_absent (lacks p e) (hs held)

mutual
  -- What a slot decodes to is a value of the shape, if it is held.
  pub decoded_fits : {n : Notation} {s : Shape} {slot : Slot} {v : Value} → IsText n → DecodesTo n s slot v → IsHeldValue v → Fits s v
  decoded_fits {n = n} is (DecodesTo.decodes_leaf s t v e) held = Fits.fits_leaf (leaf-fits n s t v e held)
  decoded_fits is (DecodesTo.decodes_seq kind fs added t look vs e single hs) held = Fits.fits_members (fields_fit is hs held)
  decoded_fits is (DecodesTo.decodes_list s t slots vs e hs) held = Fits.fits_list (each-fits s vs (each_fits is hs) held)
  decoded_fits is (DecodesTo.decodes_set s t slots vs e hs) held = Fits.fits_set (each-fits s (sort_values vs) (each-ordered (FitsHeld s) value_cmp vs (each_fits is hs)) held) (sorted_twice vs)
  decoded_fits is (DecodesTo.decodes_table s t vs (DecodesTo.decodes_list _ _ slots _ e hs)) held = Fits.fits_table (each-fits s (table_of vs) (each_in_table (FitsHeld s) vs (each_fits is hs)) held) (table_rises vs)
  decoded_fits is (DecodesTo.decodes_table s t vs (DecodesTo.decodes_leaf _ _ _ e)) held = let d : ◌≡◌ {A = Option (Result Value LeafFailure)} None (Some (Ok (Value.list vs))) = e in cc d
  decoded_fits {n = n} is (DecodesTo.decodes_table s t vs (DecodesTo.decodes_free _ _ _ e)) held = absurd (not_other n is e)
  decoded_fits is (DecodesTo.decodes_choice alts added t name u id s v e f h) held = Fits.fits_choice (found-fits (all_alternatives alts added) name id s v f (decoded_fits is h held))
  decoded_fits is (DecodesTo.decodes_loop body t v h) held = Fits.fits_loop (decoded_fits is h held)
  decoded_fits {n = n} is (DecodesTo.decodes_free s slot v e) held = absurd (not_other n is e)

  each_fits : {n : Notation} {s : Shape} {slots : List Slot} {vs : Values} → IsText n → EachDecodesTo n s slots vs → AllByRecursion (FitsHeld s) (elements vs)
  each_fits is (EachDecodesTo.decodes_none s) = tt
  each_fits is (EachDecodesTo.decodes_one s slot rest v vs h hs) = (decoded_fits is h, each_fits is hs)

  fields_fit : {n : Notation} {fs : Fields} {slots : List Slot} {vs : Slots} → IsText n → FieldsDecodeTo n fs slots vs → AreHeldSlots vs → FitsFields fs vs
  fields_fit is FieldsDecodeTo.decodes_end held = FitsFields.fits_end
  fields_fit is (FieldsDecodeTo.decodes_present name g p s fs slot rest v vs h hs) held = kept-fits name g p s fs v vs (decoded_fits is h) (fields_fit is hs) held
  fields_fit is (FieldsDecodeTo.decodes_absent name g p s fs rest vs lack hs) held = FitsFields.fits_absent lack (fields_fit is hs held)
