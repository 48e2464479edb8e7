-- What is read of a SET, whose members stand as the type lists its fields.
use Rattle.std.proofs.Common.{◌≡◌, refl, sym, ap, ◌∙◌, subst, arith, ℕ, zero, suc, ◌+◌, ◌<◌, ◌≤◌, List, [], ◌∷◌, ◌++◌, map, take, set, get_or, length, Option, Some, None, String, Global, string_bytes}
use Rattle.std.specs.Prelude.{option_map}
use Rattle.std.specs.List.{All, AllByRecursion}
use Rattle.std.proofs.lemmas.List.{length-map, map-set}
use Rattle.std.proofs.lemmas.List.Elements.{recursion_from_All}
use Rattle.asn_coding.specs.SetFields.{listed_components}
use Rattle.asn_coding.specs.Writing.{Frame, named}
use Rattle.asn_coding.proofs.ReadingOrder.{names-read}
use Rattle.asn_coding.proofs.SetReading.{all_numbers}
use Rattle.asn_coding.proofs.TagOrder.{with-additions}
use Rattle.asn_dynamic_reading.specs.Fields.{AreAbsent}
use Rattle.asn_dynamic_reading.proofs.FieldSteps.{Member, members-named, names_in, slots_of}
use Rattle.asn_dynamic_values.specs.DynView.{dyn_value, members_named, named_value}
use Rattle.asn_dynamic_values.specs.declared.value.DynValue.{DynValue}
use Rattle.asn_model.specs.Components.{Component, Standing, component_names, components}
use Rattle.asn_model.specs.DecodesTo.{DecodesTo}
use Rattle.asn_model.specs.Notation.{Notation}
use Rattle.asn_model.specs.Shape.{Fields, FieldAdditions, SeqKind, Shape, all_fields, field_names}
use Rattle.asn_model.specs.Tree.{Slot}
use Rattle.asn_model.specs.Value.{Value}
use Rattle.asn_parts.specs.Listed.{Place, TakesComponent, fields_in, place_rows, places_in}
use Rattle.asn_coding.specs.Opening.{PutsMembers}
use Rattle.asn_parts.proofs.Fields.{FieldsRead, IsNext, Kept, field-step, fields-finish, fields-start}
use Rattle.asn_parts.proofs.Sets.{StandsKept, kept-more, kept-read, places-apart}

-- Of the fields of an open SET so many are read, and these members have them at their places.
pub record SetRead (n : Notation) (s : Shape) (before : List Slot) (i : ℕ) (members : List Member) (now : List Slot) : Type 0 where
  pub kept : List Kept
  pub read : FieldsRead n s before i kept now
  pub names : names_in members ≡ component_names (fields_in s)
  pub stand : AllByRecursion (StandsKept (slots_of members)) kept

pub set-start : {n : Notation} {s : Shape} {before now : List Slot} {members : List Member} → PutsMembers n (place_rows (places_in s)) before now → names_in members ≡ component_names (fields_in s) → SetRead n s before 0 members now
set-start puts names = record { kept = []; read = fields-start puts; names = names; stand = tt }

members-counted : (members : List Member) (names : List (List ℕ)) → names_in members ≡ names → length (slots_of members) ≡ length names
members-counted members names e = length-map members (λ (m : Member). option_map dyn_value m.1) ∙ sym (length-map members (λ (m : Member). string_bytes m.0)) ∙ ap length e

same-name : (members : List Member) (k : ℕ) (m : Member) → k < length members → string_bytes m.0 ≡ string_bytes (get_or members k m).0 → names_in (set members k m) ≡ names_in members
same-name [] k m h e = absurd (omega (arith, h))
same-name (x ∷ xs) zero m h e = ap (λ name. name ∷ names_in xs) e
same-name (x ∷ xs) (suc k) m h e = ap (λ l. string_bytes x.0 ∷ l) (same-name xs k m (omega (arith, h)) e)

module _ {n : Notation} (fs : Fields) (added : FieldAdditions) {before : List Slot} {i : ℕ} {members : List Member} {now : List Slot} (r : SetRead n (Shape.seq SeqKind.set fs added) before i members now) where
  abbrev s : Shape
  s = Shape.seq SeqKind.set fs added

  counted : length (slots_of members) ≡ length (listed_components fs added)
  counted = members-counted members (component_names (listed_components fs added)) r.names ∙ length-map (listed_components fs added) (λ (c : Component). c.name)

  -- There is a member at each place.
  pub member-within : (p : Place) → p.0 < length (listed_components fs added) → p.0 < length members
  member-within p h = omega (arith, h, counted, length-map members (λ (m : Member). option_map dyn_value m.1))

  pub set-step : (p : Place) (m : Member) (after : List Slot) → IsNext s i p → p.0 < length (listed_components fs added) → string_bytes m.0 ≡ string_bytes (get_or members p.0 m).0
      → TakesComponent n p.1 now (option_map dyn_value m.1) after → SetRead n s before (i + 1) (set members p.0 m) after
  set-step p m after next within name t =
      let o = option_map dyn_value m.1 in
      let read = r.read in
      record {
        kept = r.kept ++ (p.0, o) ∷ [];
        read = field-step p next r.read o after t;
        names = same-name members p.0 m (member-within p within) name ∙ r.names;
        stand = subst (λ ss. AllByRecursion (StandsKept ss) (r.kept ++ (p.0, o) ∷ [])) (sym (map-set (λ (x : Member). option_map dyn_value x.1) members p.0 m))
            (kept-more (places_in s) i p (slots_of members) o r.kept (places-apart fs added) next.below next.at read.read.numbers (omega (arith, within, counted)) r.stand);
      }

  pub set-finish : length (places_in s) ≤ i → (slot : Slot) × (before ≡ slot ∷ now) × DecodesTo n s slot (Value.members (members_named (map named_value members)))
  set-finish h =
      let read = r.read in
      let listed : component_names (listed_components fs added) ≡ field_names (all_fields fs added) = ap component_names (sym (with-additions (components Standing.root fs) added)) ∙ names-read fs added in
      let names : names_in members ≡ field_names (all_fields fs added) = r.names ∙ listed in
      let slots = kept-read fs added (slots_of members) r.kept counted (all_numbers i r.kept now h read.read) r.stand in
      let done = fields-finish SeqKind.set fs added r.read h (slots_of members) slots in
      (done.0, done.1, subst (λ l. DecodesTo n s done.0 (Value.members l)) (ap (named (slots_of members)) (sym names) ∙ members-named members) done.2)
