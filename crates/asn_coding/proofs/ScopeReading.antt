-- The fields of a SEQUENCE that are decoded one after another are what its scope answers.
use Rattle.std.proofs.Common.{◌≡◌, refl, sym, subst, ap, ◌∙◌, ℕ, List, ◌++◌, length}
use Rattle.std.proofs.lemmas.List.{length-map}
use Rattle.asn_fault.specs.Failure.{Failure}
use Rattle.asn_model.specs.Components.{Component, component_names, reading_order}
use Rattle.asn_model.specs.DecodesTo.{FieldsDecodeTo}
use Rattle.asn_model.specs.FailsWith.{FieldsFailWith}
use Rattle.asn_model.specs.Notation.{Notation}
use Rattle.asn_model.specs.Shape.{SeqKind, Fields, FieldAdditions, all_fields, field_names}
use Rattle.asn_model.specs.Tree.{Slot}
use Rattle.asn_model.specs.Value.{Value, Slots}
use Rattle.asn_coding.specs.Answer.{Refuses}
use Rattle.asn_coding.specs.FieldAnswer.{Ahead}
use Rattle.asn_coding.specs.Passing.{RefusesFields, TakesFields}
use Rattle.asn_coding.specs.Writing.{Frame, members_value, named}
use Rattle.asn_coding.proofs.Passing.{decodes_components, refuses_components}
use Rattle.asn_coding.proofs.ReadingOrder.{fields_from, fields-read, names-read}

as_many : (fs : Fields) (added : FieldAdditions) (slots : List Slot) → length slots ≡ length (field_names (all_fields fs added)) → length slots ≡ length (reading_order SeqKind.sequence fs added)
as_many fs added slots count = count ∙ ap length (sym (names-read fs added)) ∙ length-map (reading_order SeqKind.sequence fs added) (λ (c : Component). c.name)

module _ {n : Notation} (fs : Fields) (added : FieldAdditions) where
  -- The fields that are taken are what the scope answers.
  pub scope_read : (ss : Frame) {names others : List (List ℕ)} {before after : List Slot} → TakesFields n (reading_order SeqKind.sequence fs added) ss (Ahead.ahead names before) (Ahead.ahead others after)
      → (slots rest : List Slot) → before ≡ slots ++ rest → length slots ≡ length (field_names (all_fields fs added)) → (after ≡ rest) × (vs : Slots) × FieldsDecodeTo n (all_fields fs added) slots vs × (members_value (all_fields fs added) ss ≡ Value.members vs)
  scope_read ss taken slots rest is count =
      let cs = reading_order SeqKind.sequence fs added in
      let d = decodes_components taken slots rest (as_many fs added slots count) is in (
        d.0,
        named ss (field_names (all_fields fs added)),
        subst (λ gs. FieldsDecodeTo n gs slots (named ss (field_names (all_fields fs added)))) (fields-read fs added) (subst (λ ns. FieldsDecodeTo n (fields_from cs) slots (named ss ns)) (names-read fs added) d.1),
        refl,
      )

  -- A field that is refused is its refusal.
  pub scope_refused : {names : List (List ℕ)} {before : List Slot} {e : Failure} → names ≡ component_names (reading_order SeqKind.sequence fs added) → RefusesFields n (reading_order SeqKind.sequence fs added) (Ahead.ahead names before) e
      → (slots rest : List Slot) → before ≡ slots ++ rest → length slots ≡ length (field_names (all_fields fs added)) → Refuses n (FieldsFailWith n (reading_order SeqKind.sequence fs added) slots) e
  scope_refused along refused slots rest is count = refuses_components along refused slots rest (as_many fs added slots count) is
