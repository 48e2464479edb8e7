use Rattle.std.proofs.Common.{◌≡◌, ◌++◌, ◌∙◌, ap, subst, sym}
use Rattle.std.proofs.lemmas.List.{map-append}
use Rattle.asn_model.specs.Components.{component_names, reading_order}
use Rattle.asn_model.specs.ShapeView.{kind_view}
use Rattle.asn_coding.specs.Tables.{names_of}
use Rattle.asn_coding.specs.declared.field.Field.{Field}
use Rattle.asn_coding.proofs.ReadingOrder.{names-read}
use Rattle.asn_coding.proofs.Scopes.{all_table_names}
use Rattle.asn_coding.proofs.TagOrder.{set_table_names, set_tables_list, tables_list}
use Rattle.asn_traits.proofs.sequence.read_sequence.Goals as goal

pub read_members-requires-clause-rows : goal.read_members-requires-clause-rows
read_members-requires-clause-rows g c =
    let t = g.T.SequenceFields in
    tables_list (λ t. t.now) _ _ _ t.fields t.added c.listed.ensures c.listed_added.ensures c.listed-additions.ensures

pub read_members-requires-clause-names : goal.read_members-requires-clause-names
read_members-requires-clause-names g c =
    let t = g.T.SequenceFields in
    subst (λ k. names_of c.listed.result.now ++ names_of c.listed-additions.result.now ≡ component_names (reading_order k t.fields t.added)) (sym (ap kind_view c.in-Sequence.is) ∙ c.seq_kind.ensures)
    (all_table_names (λ t. t.now) _ _ _ t.fields t.added c.listed.ensures c.listed_added.ensures c.listed-additions.ensures ∙ sym (names-read t.fields t.added))

pub read_members-requires-in-Set-clause-rows : goal.read_members-requires-in-Set-clause-rows
read_members-requires-in-Set-clause-rows g c =
    let t = g.T.SequenceFields in
    set_tables_list (λ t. t.now) c.listed-in-Set.result.now _ _ t.fields t.added c.listed-in-Set.ensures c.listed_added.ensures c.listed-additions.ensures _ (c.as_slice.ensures.value ∙ c.in-Ok.ensures)

pub read_members-requires-in-Set-clause-names : goal.read_members-requires-in-Set-clause-names
read_members-requires-in-Set-clause-names g c =
    let t = g.T.SequenceFields in
    subst (λ k. names_of c.as_slice.result.now ++ names_of c.listed-additions.result.now ≡ component_names (reading_order k t.fields t.added)) (sym (ap kind_view c.in-Set.is) ∙ c.seq_kind.ensures)
    (sym (map-append (λ (f : Field). f.name.now) _ _)
    ∙ set_table_names (λ t. t.now) c.listed-in-Set.result.now _ _ t.fields t.added c.listed-in-Set.ensures c.listed_added.ensures c.listed-additions.ensures _ (c.as_slice.ensures.value ∙ c.in-Ok.ensures))
