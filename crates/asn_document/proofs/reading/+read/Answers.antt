use Rattle.std.proofs.Common.{◌++◌, ◌∷◌, [], ap, ◌∙◌, subst, arith, ◌<◌, ◌*◌, string_bytes}
use Rattle.std.proofs.lemmas.Result.{err_from_is_err_and}
use Rattle.asn_document.proofs.Entries.{entry_listed, entry_names, entry_rows, value_below, entry_read, key_refused, value_refused}
use Rattle.asn_document.proofs.Puts.{put_next, table_fails, table_read}
use Rattle.asn_document.proofs.Whole.{items_more, put_whole}
use Rattle.asn_document.specs.Meaning.{alternatives_with, document_alternatives, entry_fields, entry_shape, json_value}
use Rattle.asn_coding.proofs.Choices.{choice_by_tag}
use Rattle.asn_coding.proofs.Reading as list
use Rattle.asn_coding.proofs.Steps.{loop_answer, loop_refuses, refuses_by}
use Rattle.asn_fault.specs.Failure.{failure_of}
use Rattle.asn_model.specs.Shape.{Shape, SeqKind, are_distinct, AlternativeAdditions, FieldAdditions, closed_choice}
use Rattle.asn_model.specs.Tree.{head_nodes}
use Rattle.serde_json.proofs.Views.{Entry}
use Rattle.serde_json.specs.View.{view, members_view}
use Rattle.serde_json.specs.Written.{members_have_float}
use Rattle.asn_document.proofs.reading.+read.Goals as goal

pub read_entry-read_value-requires : goal.read_entry-read_value-requires
read_entry-read_value-requires g t c κs within =
    let rows = entry_rows c.entry_table-table.result.now c.entry_table-table.ensures in
    let h = value_below _ rows c.in-Ok.ensures c.in-Ok-read_field.ensures.read in
    (subst (λ m. 2 * head_nodes (g.D.Decoder.pending c.read_field.new.decoder) < m) c.decreases (omega (arith, h)), within)

pub read_entry-returns-in-Ok-read_value-clause-read : goal.read_entry-returns-in-Ok-read_value-clause-read
read_entry-returns-in-Ok-read_value-clause-read g t c =
    let rows = entry_rows c.entry_table-table.result.now c.entry_table-table.ensures in
    entry_read _ c.in-Ok-read_field.key c.in-Ok-read_value.value rows c.in-Ok.ensures c.in-Ok-read_field.ensures.read c.in-Ok-read_value.ensures.read

pub read_entry-returns-in-Err-read_value-clause-read : goal.read_entry-returns-in-Err-read_value-clause-read
read_entry-returns-in-Err-read_value-clause-read g t c =
    let names = entry_names c.entry_table-table.result.now c.entry_table-table.ensures in
    let rows = entry_rows c.entry_table-table.result.now c.entry_table-table.ensures in
    let w = c.within_field.ensures in
    value_refused _ w.0 (failure_of c.in-Err-read_value.error) (failure_of c.within_field.result) rows (c.new-names.ensures ∙ names) c.in-Ok.ensures c.in-Ok-read_field.ensures.read w.1 w.2 c.in-Err-read_value.ensures.read

pub read_entry-returns-in-Err-read_field-clause-read : goal.read_entry-returns-in-Err-read_field-clause-read
read_entry-returns-in-Err-read_field-clause-read g t c =
    let names = entry_names c.entry_table-table.result.now c.entry_table-table.ensures in
    let rows = entry_rows c.entry_table-table.result.now c.entry_table-table.ensures in
    key_refused _ (failure_of c.in-Err-read_field.error) rows (c.new-names.ensures ∙ names) c.in-Ok.ensures c.in-Err-read_field.ensures.refused

pub read_items-read_value-requires : goal.read_items-read_value-requires
read_items-read_value-requires g t c κs within =
    let h = list.head_below _ SeqKind.sequence _ _ _ _ _ _ _ c.loop-i.invariant.0 c.loop-i-test.true in
    (subst (λ m. 2 * head_nodes (g.D.Decoder.pending c.loop-i.decoder) < m) c.decreases (omega (arith, h)), within)

pub read_items-returns-in_err-item-clause-read : goal.read_items-returns-in_err-item-clause-read
read_items-returns-in_err-item-clause-read g t c =
    let p = err_from_is_err_and c.from_residual-in_err-item.result c.from_residual-in_err-item.ensures.1 in
    rw (p.1, p.2) (list.refuse _ SeqKind.sequence _ _ _ _ _ _ _ _ c.loop-i.invariant.0 c.loop-i-test.true c.in_err-item.ensures.read)

pub read_items-loop-i-preserved : goal.read_items-loop-i-preserved
read_items-loop-i-preserved g t c =
    rw c.in-Ok-push.ensures.items (list.step _ SeqKind.sequence _ _ _ _ _ _ _ _ _ c.loop-i.invariant.0 c.loop-i-test.true c.in_ok-item.ensures.read, items_more _ _ c.loop-i.invariant.1 c.in_ok-item.ensures.whole)

pub read_items-returns-clause-read : goal.read_items-returns-clause-read
read_items-returns-clause-read g t c =
    list.finish _ SeqKind.sequence _ _ _ _ _ _ _ c.loop-i.invariant.0 c.loop-i-test.false

pub read_members-returns-in_err-count-clause-read : goal.read_members-returns-in_err-count-clause-read
read_members-returns-in_err-count-clause-read g t c =
    let p = err_from_is_err_and c.from_residual.result c.from_residual.ensures.1 in
    rw (p.1, p.2) (refuses_by (table_fails entry_shape _) _ (c.in_err-count.ensures entry_shape))

pub read_members-loop-i-init : goal.read_members-loop-i-init
read_members-loop-i-init g t c =
    ([], list.start _ SeqKind.sequence _ _ _ [] _ _ c.in_ok-count.ensures, ap members_view c.new-members.ensures.empty, ap (λ es. members_have_float (members_view es)) c.new-members.ensures.empty)

pub read_members-read_entry-requires : goal.read_members-read_entry-requires
read_members-read_entry-requires g t c κs within =
    let h = list.head_below _ SeqKind.sequence _ _ _ _ _ _ _ c.loop-i.invariant.1 c.loop-i-test.true in
    (subst (λ m. 2 * head_nodes (g.D.Decoder.pending c.loop-i.decoder) < m) c.decreases (omega (arith, h)), within)

pub read_members-returns-in_err-entry-clause-read : goal.read_members-returns-in_err-entry-clause-read
read_members-returns-in_err-entry-clause-read g t c =
    let p = err_from_is_err_and c.from_residual-in_err-entry.result c.from_residual-in_err-entry.ensures.1 in
    rw (p.1, p.2) (refuses_by (table_fails entry_shape _) _ (list.refuse _ SeqKind.sequence _ _ _ _ _ _ _ _ c.loop-i.invariant.1 c.loop-i-test.true c.in_err-entry.ensures.read))

pub read_members-loop-i-preserved : goal.read_members-loop-i-preserved
read_members-loop-i-preserved g t c =
    let es = c.loop-i.invariant.0 in
    let e : Entry = c.in_ok-entry.entry in
    let old = c.loop-i.members.entries in
    let new = c.put_member.new.members.entries in (
      es ++ e ∷ [],
      list.step _ SeqKind.sequence _ _ _ _ _ _ _ _ _ c.loop-i.invariant.1 c.loop-i-test.true c.in_ok-entry.ensures.read,
      put_next old new es e.0 e.1 c.in-Ok.ensures.put c.loop-i.invariant.2,
      put_whole c.put_member.result old new (string_bytes e.0) (view e.1) c.put_member.ensures.put c.put_member.ensures.kept c.in_ok-entry.ensures.whole c.loop-i.invariant.3,
    )

pub read_members-returns-clause-read : goal.read_members-returns-clause-read
read_members-returns-clause-read g t c =
    table_read _ c.loop-i.invariant.0 c.loop-i.invariant.2 (list.finish _ SeqKind.sequence _ _ _ _ _ _ _ c.loop-i.invariant.1 c.loop-i-test.false)

pub read_value-returns-in-Ok-clause-read : goal.read_value-returns-in-Ok-clause-read
read_value-returns-in-Ok-clause-read g t c =
    loop_answer _ (closed_choice (alternatives_with (Shape.back 0))) json_value _ _ _ (choice_by_tag _ document_alternatives AlternativeAdditions.closed_alternatives _ _ _ _ c.in-Ok.tag _ c.in-Ok.ensures c.read_payload.ensures.read)

pub read_value-returns-in-Err-clause-read : goal.read_value-returns-in-Err-clause-read
read_value-returns-in-Err-clause-read g t c =
    loop_refuses (closed_choice (alternatives_with (Shape.back 0))) _ _ c.in-Err.ensures

pub read_entry-open_fields-requires : goal.read_entry-open_fields-requires
read_entry-open_fields-requires g t c =
    ap are_distinct (entry_names c.entry_table-table.result.now c.entry_table-table.ensures)

pub read_entry-returns-in-Err-clause-read : goal.read_entry-returns-in-Err-clause-read
read_entry-returns-in-Err-clause-read g t c =
    c.in-Err.ensures entry_fields FieldAdditions.closed_fields (entry_listed c.entry_table-table.result.now c.entry_table-table.ensures)
