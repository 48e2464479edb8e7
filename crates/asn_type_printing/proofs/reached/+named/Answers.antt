use Rattle.std.proofs.Common.{ap, sym, ◌∙◌}
use Rattle.std.proofs.lemmas.Result.{on_ok_weaker}
use Rattle.asn_model.specs.ShapeView.{added_field_views, alternative_views, field_views, kind_view, shape_view}
use Rattle.asn_model.proofs.Viewing.{sequence_viewed}
use Rattle.asn_type_printing.specs.Names.{additions_view}
use Rattle.asn_type_printing.specs.Reached.{added_alternative_names, added_field_names, alternative_names, field_names_of, with_numbers}
use Rattle.asn_type_printing.proofs.Gathered.{alternative-gathered, choice-gathered, field-gathered, seq-gathered}
use Rattle.asn_type_printing.proofs.Viewed.{choice_seen}
use Rattle.asn_type_printing.proofs.reached.+named.Goals as goal

pub add_alternative_names-loop-alternative-preserved : goal.add_alternative_names-loop-alternative-preserved
add_alternative_names-loop-alternative-preserved t c =
    alternative-gathered c.args.count c.loop-alternative.found.keys c.add_named.new.found.keys c.args.alternatives.now c.loop-alternative.alternative-index c.alternative-item.result _ c.loop-alternative-test.true c.alternative-item.is c.in_ok-add_named.ensures c.loop-alternative.invariant

pub add_field_names-loop-field-preserved : goal.add_field_names-loop-field-preserved
add_field_names-loop-field-preserved t c =
    field-gathered c.args.count c.loop-field.found.keys c.add_named.new.found.keys c.args.fields.now c.loop-field.field-index c.field-item.result _ c.loop-field-test.true c.field-item.is c.in_ok-add_named.ensures c.loop-field.invariant

pub add_named-returns-in-Some : goal.add_named-returns-in-Some
add_named-returns-in-Some t c =
    let seq = c.in-Seq in
    on_ok_weaker c.add_field_names-in-Some.result
    (λ l. seq-gathered c.args.count c.args.found.now.keys c.add_field_names.new.found.keys c.add_field_names-in-Some.new.found.keys (shape_view c.args.shape.now) (kind_view seq.kind) (field_views seq.fields.items) (added_field_views seq.added)
    (ap shape_view seq.is ∙ sequence_viewed seq.kind seq.fields seq.added) (c.in_ok-add_field_names-in-Seq.ensures ∙ ap (λ fs. with_numbers c.args.count c.args.found.now.keys (field_names_of (field_views fs))) c.deref.ensures.value)
    (l ∙ ap (λ fs. with_numbers c.args.count c.add_field_names.new.found.keys (field_names_of (field_views fs))) c.deref-in-Some.ensures.value ∙ ap (λ a. with_numbers c.args.count c.add_field_names.new.found.keys (added_field_names (added_field_views a))) (sym c.in-Some.is)))
    c.add_field_names-in-Some.ensures

pub add_named-returns-in-None : goal.add_named-returns-in-None
add_named-returns-in-None t c =
    let seq = c.in-Seq in
    seq-gathered c.args.count c.args.found.now.keys c.add_field_names.new.found.keys c.add_field_names.new.found.keys (shape_view c.args.shape.now) (kind_view seq.kind) (field_views seq.fields.items) (added_field_views seq.added)
    (ap shape_view seq.is ∙ sequence_viewed seq.kind seq.fields seq.added) (c.in_ok-add_field_names-in-Seq.ensures ∙ ap (λ fs. with_numbers c.args.count c.args.found.now.keys (field_names_of (field_views fs))) c.deref.ensures.value)
    (ap (λ a. with_numbers c.args.count c.add_field_names.new.found.keys (added_field_names (added_field_views a))) (sym c.in-None.is))

pub add_named-returns-in-Some-added : goal.add_named-returns-in-Some-added
add_named-returns-in-Some-added t c =
    let choice = c.in-Choice in
    on_ok_weaker c.add_alternative_names-in-Some-added.result
    (λ l. choice-gathered c.args.count c.args.found.now.keys c.add_alternative_names.new.found.keys c.add_alternative_names-in-Some-added.new.found.keys (shape_view c.args.shape.now) (alternative_views choice.alternatives.items) (additions_view choice.added)
    (ap shape_view choice.is ∙ choice_seen choice.alternatives choice.added)
    (c.in_ok-add_alternative_names-in-Choice.ensures ∙ ap (λ alts. with_numbers c.args.count c.args.found.now.keys (alternative_names (alternative_views alts))) c.deref-in-Choice.ensures.value)
    (l ∙ ap (λ alts. with_numbers c.args.count c.add_alternative_names.new.found.keys (alternative_names (alternative_views alts))) c.deref-in-Some-added.ensures.value
    ∙ ap (λ a. with_numbers c.args.count c.add_alternative_names.new.found.keys (added_alternative_names (additions_view a))) (sym c.in-Some-added.is)))
    c.add_alternative_names-in-Some-added.ensures

pub add_named-returns-in-None-added : goal.add_named-returns-in-None-added
add_named-returns-in-None-added t c =
    let choice = c.in-Choice in
    choice-gathered c.args.count c.args.found.now.keys c.add_alternative_names.new.found.keys c.add_alternative_names.new.found.keys (shape_view c.args.shape.now) (alternative_views choice.alternatives.items) (additions_view choice.added)
    (ap shape_view choice.is ∙ choice_seen choice.alternatives choice.added)
    (c.in_ok-add_alternative_names-in-Choice.ensures ∙ ap (λ alts. with_numbers c.args.count c.args.found.now.keys (alternative_names (alternative_views alts))) c.deref-in-Choice.ensures.value)
    (ap (λ a. with_numbers c.args.count c.add_alternative_names.new.found.keys (added_alternative_names (additions_view a))) (sym c.in-None-added.is))
