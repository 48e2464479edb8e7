-- A name that is repeated refuses, as it is told.
use Rattle.std.proofs.Common.{◌≡◌, ◌∙◌, [], ap, refl, sym, ℕ, ◌<◌, List, Some, length}
use Rattle.std.proofs.lemmas.Option.{get_or_from_slice_get, slice_get-map, slice_get_within}
use Rattle.std.specs.List.{slice_get}
use Rattle.std.specs.Prelude.{option_map}
use Rattle.asn_core.specs.declared.codec.Codec.{Codec}
use Rattle.asn_coding.specs.Answer.{Refuses}
use Rattle.asn_coding.specs.Opening.{RepeatsName}
use Rattle.asn_coding.specs.Tables.{ListsFields}
use Rattle.asn_coding.proofs.Refusing.{at_no_field}
use Rattle.asn_coding.proofs.Repeated.{first_row}
use Rattle.asn_dynamic_faults.specs.DynFailure.{IsTold}
use Rattle.asn_fault.specs.Failure.{Cause, Failure, at_root}
use Rattle.asn_model.specs.FailsWith.{FailsWith}
use Rattle.asn_model.specs.Notation.{Notation, notation_of}
use Rattle.asn_model.specs.Shape.{FieldAdditions, Fields, SeqKind, Shape}
use Rattle.asn_model.specs.Tree.{Slot, head_slot}
use Rattle.asn_names.specs.Rows.{NameRow, name_at, row_names}
use Rattle.asn_dynamic_reading.proofs.Telling.{told-refuses}

pub repeated-within : {n : Notation} {rows : List NameRow} {before : List Slot} {place : ℕ} → RepeatsName n rows before place → place < length rows
repeated-within {n} {rows} {before} {place} r = slice_get_within rows place r.row r.at

repeated-name : {n : Notation} {rows : List NameRow} {before : List Slot} {place : ℕ} → (r : RepeatsName n rows before place) → name_at rows place ≡ r.row.name
repeated-name {n} {rows} {before} {place} r = get_or_from_slice_get (row_names rows) place r.row.name [] (slice_get-map (λ (x : NameRow). x.name) rows place ∙ ap (option_map (λ (x : NameRow). x.name)) r.at)

pub repeated-told : {n : Notation} (kind : SeqKind) (fs : Fields) (added : FieldAdditions) {rows : List NameRow} {before : List Slot} {place : ℕ} → ListsFields rows fs added → RepeatsName n rows before place → (name : List ℕ) → name ≡ name_at rows place
    → (k : Codec) (f : Failure) → notation_of k ≡ n → IsTold k (at_root (Cause.duplicate_field name) k) f → Refuses n (FailsWith n (Shape.seq kind fs added) (head_slot before)) f
repeated-told {n} kind fs added {rows} {before} {place} listed r name same k f of told =
    told-refuses {n = n} {P = FailsWith n (Shape.seq kind fs added) (head_slot before)} k (at_root (Cause.duplicate_field name) k) f of told
    (at_no_field {n = n} {P = FailsWith n (Shape.seq kind fs added) (head_slot before)} (Cause.duplicate_field name) k (at_root (Cause.duplicate_field name) k) refl of
    (rw r.pending (FailsWith.fails_repeated kind fs added r.tree r.look name r.members (first_row listed r.first ∙ ap Some (sym (same ∙ repeated-name r))))))
