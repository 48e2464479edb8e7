use Rattle.std.proofs.Common.{ℕ, ◌∙◌, ap, append-nil, arith, map, refl, subst, sym}
use Rattle.asn_core.specs.declared.tag.Tag.{Tag}
use Rattle.asn_model.specs.Shape.{SeqKind, are_distinct}
use Rattle.asn_model.proofs.Readables.{names_distinct}
use Rattle.asn_coding.specs.Tables.{ListsFields, field_tag, name_rows, names_of}
use Rattle.asn_coding.specs.declared.field.Field.{Field}
use Rattle.asn_coding.proofs.NameRows.{names-rows}
use Rattle.asn_coding.proofs.SetReading.{all_numbers, as_many, next_place, set_answer, set_ends, set_refused, set_starts, set_steps, set_stops}
use Rattle.asn_coding.proofs.TagOrder.{read-distinct, set_places, set_table_names, set_tables_list}
use Rattle.asn_decode.proofs.decoder.Decoder.decode_set.Goals as goal

pub open_fields-requires : goal.open_fields-requires
open_fields-requires g c =
    let t = g.C.Constructed in
    let names = append-nil _ ∙ ap names_of (c.as_slice.ensures.value ∙ c.in-Ok.ensures) ∙ set_table_names (λ t. t.items.now) _ _ _ t.fields t.added c.field_table.ensures c.extended_field_table.ensures c.listed_fields-additions.ensures _ refl in
    ap are_distinct names ∙ read-distinct SeqKind.set t.fields t.added ∙ names_distinct g.C.AsnType.shape_of t.kind t.fields t.added g.met.C.AsnType.readable g.met.C.Constructed.of_fields

pub loop-field-init : goal.loop-field-init
loop-field-init g c = rw c.new-answers.ensures.items set_starts

pub decode_fn-requires : goal.decode_fn-requires
decode_fn-requires g c =
    let t = g.C.Constructed in
    let same = ap (map {B = ℕ × Tag} (λ (f : Field). (f.index, field_tag f))) (c.deref-field-items.ensures.value ∙ c.in-Ok.ensures) ∙ set_places (λ t. t.items.now) _ _ _ t.fields t.added c.field_table.ensures c.extended_field_table.ensures c.listed_fields-additions.ensures _ refl in
    let next = next_place t.fields t.added c.deref-field-items.result.now c.loop-field.field-index _ _ same c.loop-field-test.true c.place_and_tag-place.ensures in
    rw (sym next.tagged) (c.requires.callable _ _ next.place.1 next.stands)

pub returns-in-Err-decode_fn : goal.returns-in-Err-decode_fn
returns-in-Err-decode_fn g c =
    let t = g.C.Constructed in
    let names = names-rows _ ∙ ap names_of (append-nil _ ∙ c.as_slice.ensures.value ∙ c.in-Ok.ensures) ∙ set_table_names (λ t. t.items.now) _ _ _ t.fields t.added c.field_table.ensures c.extended_field_table.ensures c.listed_fields-additions.ensures _ refl in
    let same = ap (map {B = ℕ × Tag} (λ (f : Field). (f.index, field_tag f))) (c.deref-field-items.ensures.value ∙ c.in-Ok.ensures) ∙ set_places (λ t. t.items.now) _ _ _ t.fields t.added c.field_table.ensures c.extended_field_table.ensures c.listed_fields-additions.ensures _ refl in
    let next = next_place t.fields t.added c.deref-field-items.result.now c.loop-field.field-index _ _ same c.loop-field-test.true c.place_and_tag-place.ensures in
    set_refused t.kind t.fields t.added _ c.requires.set names c.in-Ok-open_fields.ensures
    (set_stops c.loop-field.field-index next.place c.loop-field.answers.items _ next.below next.at c.loop-field.invariant (c.requires.reads _ _ _ _ next.place.1 next.stands (rw (sym next.tagged) at c.in-Err-decode_fn.ensures)))

pub loop-field-preserved : goal.loop-field-preserved
loop-field-preserved g c =
    let t = g.C.Constructed in
    let same = ap (map {B = ℕ × Tag} (λ (f : Field). (f.index, field_tag f))) (c.deref-field-items.ensures.value ∙ c.in-Ok.ensures) ∙ set_places (λ t. t.items.now) _ _ _ t.fields t.added c.field_table.ensures c.extended_field_table.ensures c.listed_fields-additions.ensures _ refl in
    let next = next_place t.fields t.added c.deref-field-items.result.now c.loop-field.field-index _ _ same c.loop-field-test.true c.place_and_tag-place.ensures in
    rw c.in-Ok-push.ensures.items
    (set_steps c.loop-field.field-index next.place c.loop-field.answers.items c.in-Ok-decode_fn.answer _ _ next.below next.at c.loop-field.invariant next.is (c.requires.reads _ _ _ _ next.place.1 next.stands (rw (sym next.tagged) at c.in-Ok-decode_fn.ensures)))

pub field_fn-requires : goal.field_fn-requires
field_fn-requires g c =
    let t = g.C.Constructed in
    let same = ap (map {B = ℕ × Tag} (λ (f : Field). (f.index, field_tag f))) (c.deref-field-items.ensures.value ∙ c.in-Ok.ensures) ∙ set_places (λ t. t.items.now) _ _ _ t.fields t.added c.field_table.ensures c.extended_field_table.ensures c.listed_fields-additions.ensures _ refl in
    c.requires.buildable _ (all_numbers c.loop-field.field-index c.loop-field.answers.items _ (as_many t.fields t.added c.deref-field-items.result.now same (omega arith)) c.loop-field.invariant)

pub returns : goal.returns
returns g c =
    let t = g.C.Constructed in
    let names = names-rows _ ∙ ap names_of (append-nil _ ∙ c.as_slice.ensures.value ∙ c.in-Ok.ensures) ∙ set_table_names (λ t. t.items.now) _ _ _ t.fields t.added c.field_table.ensures c.extended_field_table.ensures c.listed_fields-additions.ensures _ refl in
    let same = ap (map {B = ℕ × Tag} (λ (f : Field). (f.index, field_tag f))) (c.deref-field-items.ensures.value ∙ c.in-Ok.ensures) ∙ set_places (λ t. t.items.now) _ _ _ t.fields t.added c.field_table.ensures c.extended_field_table.ensures c.listed_fields-additions.ensures _ refl in
    let all = as_many t.fields t.added c.deref-field-items.result.now same (omega arith) in
    set_answer g.E.Refusal.failure g.S.SetField.slot _ t.kind t.fields t.added g.C.AsnType.value_of _ c.loop-field.answers.items c.field_fn.result c.requires.set names c.in-Ok-open_fields.ensures
    (set_ends c.loop-field.field-index c.loop-field.answers.items _ all c.loop-field.invariant) (c.requires.builds _ _ (all_numbers c.loop-field.field-index c.loop-field.answers.items _ all c.loop-field.invariant) c.field_fn.ensures)

pub returns-in-Err : goal.returns-in-Err
returns-in-Err g c =
    let t = g.C.Constructed in
    let lists = set_tables_list (λ t. t.items.now) _ _ _ t.fields t.added c.field_table.ensures c.extended_field_table.ensures c.listed_fields-additions.ensures _ refl in
    rw (c.requires.set, c.of-in-Err.ensures) (c.in-Err.ensures t.fields t.added (subst (λ rows. ListsFields (name_rows rows) t.fields t.added) (sym (append-nil _ ∙ c.as_slice.ensures.value ∙ c.in-Ok.ensures)) lists))
