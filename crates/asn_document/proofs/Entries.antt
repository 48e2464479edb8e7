-- Steps of decoding an entry of an object: its key, and then its value.
use Rattle.std.proofs.Common.{◌≡◌, ℕ, ◌<◌, List, [], ◌∷◌, ◌++◌, length, Some, None, Ok, ◌⊎◌, String, Global, string_bytes, codes, refl, sym, ap, ◌∙◌, subst, arith, append-nil}
use Rattle.std.proofs.lemmas.List.{length-map}
use Rattle.asn_core.specs.declared.codec.Codec.{Codec}
use Rattle.asn_document.specs.Meaning.{document_shape, entry_fields, entry_shape, json_value, json_entry}
use Rattle.asn_fault.specs.Failure.{Cause, Failure, at_root, wrapped}
use Rattle.asn_model.specs.FailsWith.{FailsWith}
use Rattle.asn_model.specs.Notation.{Notation, notation_of}
use Rattle.asn_model.specs.Shape.{Shape, SeqKind, FieldAdditions}
use Rattle.asn_model.specs.Tree.{Slot, slot_nodes, head_nodes, head_slot}
use Rattle.asn_model.specs.Value.{Value}
use Rattle.asn_coding.proofs.FieldSteps.{field_refused}
use Rattle.asn_coding.proofs.Members.{members_read, members_refused}
use Rattle.asn_coding.proofs.NameRows.{names-rows}
use Rattle.asn_coding.proofs.Scopes.{table_names}
use Rattle.asn_coding.proofs.Steps.{same_tail}
use Rattle.asn_coding.proofs.TagOrder.{tables_list}
use Rattle.asn_coding.specs.Answer.{Answer, Refuses}
use Rattle.asn_coding.specs.FieldAnswer.{Ahead, TakesField, TakesSlot, WithinField}
use Rattle.asn_coding.specs.Opening.{AllBelow, PutsMembers}
use Rattle.asn_names.specs.Rows.{NameRow, row_names}
use Rattle.asn_coding.specs.Passing.{TakesFields, RefusesFields}
use Rattle.asn_coding.specs.Tables.{ListsFields, name_rows, names_of, rows_of, field_rows}
use Rattle.asn_coding.specs.Terms.{utf8_string}
use Rattle.asn_coding.specs.Writing.{head_name, tail_names}
use Rattle.asn_coding.specs.declared.field.Field.{Field}
use Rattle.serde_json.specs.declared.value.Value.{Value as JsonValue}

abbrev key_and_value : List (List ℕ)
key_and_value = codes "key" ∷ codes "value" ∷ []

-- The names in the table of an entry's fields.
pub entry_names : (table : List Field) → rows_of table ≡ field_rows 0 entry_fields → names_of table ++ names_of [] ≡ codes "key" ∷ codes "value" ∷ []
entry_names table e = append-nil (names_of table) ∙ table_names 0 table entry_fields e

-- So has the list of its rows.
pub entry_rows : (table : List Field) → rows_of table ≡ field_rows 0 entry_fields → row_names (name_rows (table ++ [])) ≡ codes "key" ∷ codes "value" ∷ []
entry_rows table e = names-rows (table ++ []) ∙ ap names_of (append-nil table) ∙ table_names 0 table entry_fields e

-- The table of an entry's fields lists them.
pub entry_listed : (table : List Field) → rows_of table ≡ field_rows 0 entry_fields → ListsFields (name_rows (table ++ [])) entry_fields FieldAdditions.closed_fields
entry_listed table e = tables_list (λ (rows : List Field). rows) table [] None entry_fields FieldAdditions.closed_fields e refl refl

below_at : (slots rest mid after : List Slot) (slot u : Slot) → length slots ≡ 2 → AllBelow (slot_nodes slot) slots → mid ≡ slots ++ rest → mid ≡ u ∷ after → head_nodes after < slot_nodes slot
below_at [] rest mid after slot u e below is shown = absurd (omega (arith, e))
below_at (a ∷ []) rest mid after slot u e below is shown = absurd (omega (arith, e))
below_at (a ∷ b ∷ []) rest mid after slot u e below is shown = rw (same_tail u a after (b ∷ rest) (sym shown ∙ is)) below.1.0
below_at (a ∷ b ∷ c ∷ ss) rest mid after slot u e below is shown = absurd (omega (arith, e))

module _ {n : Notation} {before mid late : List Slot} {ahead others : List (List ℕ)} (rows : List NameRow) where
  -- The value of an entry has fewer nodes than the entry.
  pub value_below : {s : Shape} {x : Value} → row_names rows ≡ key_and_value → PutsMembers n rows before mid → TakesField n s (Ahead.ahead ahead mid) (Ahead.ahead others late) (Some x) → head_nodes late < head_nodes before
  value_below e (slot, slots, rest, was, is, len, below, has) (TakesField.takes_field (TakesSlot.takes_value t v shown says) more) = rw was (below_at slots rest mid late slot t (len ∙ sym (length-map rows (λ (r : NameRow). r.name)) ∙ ap length e) below is shown)

  -- A key and a value are read as an entry.
  pub entry_read : {after : List Slot} (k : String Global) (v : JsonValue) → row_names rows ≡ key_and_value → PutsMembers n rows before mid
      → TakesField n utf8_string (Ahead.ahead ahead mid) (Ahead.ahead others late) (Some (Value.text (string_bytes k))) → Answer n document_shape json_value late (Ok v) after → Answer n entry_shape json_entry before (Ok (k, v)) after
  entry_read k v e opened key (t, shown, says) =
      members_read SeqKind.sequence entry_fields FieldAdditions.closed_fields rows (Some (Value.text (string_bytes k)) ∷ Some (json_value v) ∷ []) e opened
      (TakesFields.takes_next key (TakesFields.takes_next (TakesField.takes_field (TakesSlot.takes_value t (json_value v) shown says) refl) TakesFields.takes_none refl) refl)

  -- A value is refused.
  pub value_refused : {x : Value} (codec : Codec) (inner err : Failure) → row_names rows ≡ key_and_value → ahead ≡ key_and_value → PutsMembers n rows before mid
      → TakesField n utf8_string (Ahead.ahead ahead mid) (Ahead.ahead others late) (Some x) → notation_of codec ≡ n → (err ≡ wrapped (codes "value") codec inner) ⊎ (err ≡ at_root Cause.out_of_memory codec)
      → Refuses n (FailsWith n document_shape (head_slot late)) inner → Refuses n (FailsWith n entry_shape (head_slot before)) err
  value_refused codec inner err e along opened (TakesField.takes_field key is) of wraps h =
      members_refused SeqKind.sequence entry_fields FieldAdditions.closed_fields rows e along opened
      (RefusesFields.refuses_later_field (TakesField.takes_field key is)
      (RefusesFields.refuses_field (subst (λ name. Refuses n (WithinField name (FailsWith n document_shape (head_slot late))) err) (sym (ap head_name (is ∙ ap tail_names along))) (field_refused (codes "value") codec of inner err wraps h))) refl)

-- A key is refused.
pub key_refused : {n : Notation} {before mid : List Slot} {ahead : List (List ℕ)} (rows : List NameRow) (err : Failure) → row_names rows ≡ codes "key" ∷ codes "value" ∷ [] → ahead ≡ codes "key" ∷ codes "value" ∷ [] → PutsMembers n rows before mid
    → Refuses n (WithinField (head_name ahead) (FailsWith n utf8_string (head_slot mid))) err → Refuses n (FailsWith n entry_shape (head_slot before)) err
key_refused rows err e along opened h = members_refused SeqKind.sequence entry_fields FieldAdditions.closed_fields rows e along opened (RefusesFields.refuses_field h)
