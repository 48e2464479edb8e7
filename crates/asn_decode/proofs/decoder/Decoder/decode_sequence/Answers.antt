use Rattle.std.proofs.Common.{◌≡◌, ◌∙◌, ◌++◌, ap, length, subst, sym, true}
use Rattle.std.proofs.lemmas.List.{length-map}
use Rattle.asn_model.specs.Shape.{are_distinct}
use Rattle.asn_model.proofs.Readables.{names_distinct}
use Rattle.asn_names.specs.Rows.{NameRow}
use Rattle.asn_coding.specs.Tables.{name_rows}
use Rattle.asn_coding.proofs.NameRows.{names-tables}
use Rattle.asn_coding.proofs.Scopes.{sequence_answer, all_table_names}
use Rattle.asn_coding.proofs.TagOrder.{tables_list}
use Rattle.asn_decode.proofs.decoder.Decoder.decode_sequence.Goals as goal

pub open_fields-requires : goal.open_fields-requires
open_fields-requires g c =
    let t = g.C.Constructed in
    let names = all_table_names (λ t. t.items.now) _ _ _ t.fields t.added c.field_table.ensures c.extended_field_table.ensures c.listed_fields-additions.ensures in
    subst (λ ns. are_distinct ns ≡ true) (sym names) (names_distinct g.C.AsnType.shape_of t.kind t.fields t.added g.met.C.AsnType.readable g.met.C.Constructed.of_fields)

pub decode_fn-requires : goal.decode_fn-requires
decode_fn-requires g c =
    let h = c.in-Ok.ensures in
    let t = g.C.Constructed in
    let rows = name_rows (c.field_table.result.items.now ++ c.listed_fields-additions.result.now) in
    let names = names-tables _ _ ∙ all_table_names (λ t. t.items.now) _ _ _ t.fields t.added c.field_table.ensures c.extended_field_table.ensures c.listed_fields-additions.ensures in
    let count = sym (length-map rows (λ (r : NameRow). r.name)) ∙ ap length names in
    c.requires.callable _ h.0 h.1 h.2 h.3 h.4 (h.5 ∙ count) h.6

pub returns-in-Ok : goal.returns-in-Ok
returns-in-Ok g c =
    let h = c.in-Ok.ensures in
    let t = g.C.Constructed in
    let rows = name_rows (c.field_table.result.items.now ++ c.listed_fields-additions.result.now) in
    let names = names-tables _ _ ∙ all_table_names (λ t. t.items.now) _ _ _ t.fields t.added c.field_table.ensures c.extended_field_table.ensures c.listed_fields-additions.ensures in
    let count = sym (length-map rows (λ (r : NameRow). r.name)) ∙ ap length names in
    sequence_answer _ _ t.kind t.fields t.added _ _ _ h.2 h.1 h.0 _ _ c.requires.sequence names h.3 h.7 (c.requires.reads _ _ _ h.1 h.2 h.4 (h.5 ∙ count) c.decode_fn.ensures)

pub returns-in-Err : goal.returns-in-Err
returns-in-Err g c =
    let t = g.C.Constructed in
    rw (c.requires.sequence, c.of.ensures) (c.in-Err.ensures t.fields t.added (tables_list (λ t. t.items.now) _ _ _ t.fields t.added c.field_table.ensures c.extended_field_table.ensures c.listed_fields-additions.ensures))
