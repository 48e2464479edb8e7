use Rattle.std.proofs.Common.{◌+◌, ◌++◌, ◌∷◌, [], ap, sym, ◌∙◌, drop, map, string_bytes, append-nil}
use Rattle.std.proofs.lemmas.Result.{IfOk-equal}
use Rattle.asn_growth.specs.Paths.{into_each}
use Rattle.asn_growth.proofs.Steps.{drop-step}
use Rattle.asn_model.specs.ShapeView.{added_field_views, alternative_views, field_views, shape_view}
use Rattle.asn_model.proofs.Viewing.{added_alternative_views}
use Rattle.asn_version_reports.specs.Paths.{path_steps}
use Rattle.asn_version_reports.specs.Valueless.{added_alternative_valueless, added_field_valueless, alternative_valueless, field_valueless, valueless_paths}
use Rattle.asn_version_reports.proofs.Behind.{steps_further}
use Rattle.asn_version_reports.proofs.Listed.{listed-both, listed-part, listed-within, texts}
use Rattle.asn_version_reports.proofs.Nodes.{choice-valueless, element-valueless, seq-valueless}
use Rattle.asn_version_reports.proofs.valueless.+valueless.Goals as goal

pub add_valueless_fields-loop-field-preserved : goal.add_valueless_fields-loop-field-preserved
add_valueless_fields-loop-field-preserved t c =
    let fields = c.args.fields.now in
    let at = c.loop-field.field-index in
    let x = c.field-item.result in
    let steps = path_steps c.args.path.now in
    let next = ap field_views (drop-step fields at x c.loop-field-test.true ∙ ap (λ y. y ∷ drop (at + 1) fields) (sym c.field-item.is)) in
    listed-part (map string_bytes c.loop-field.found.items) (map string_bytes c.add_valueless.new.found.items) steps _ (string_bytes x.name) (field_valueless (field_views (drop at fields))) (valueless_paths (shape_view x.shape)) (field_valueless (field_views (drop (at + 1) fields))) _
    (ap field_valueless next) (steps_further c.as_str.result c.args.path ∙ ap (λ n. steps ++ n ∷ []) c.as_str.ensures.value) c.in_ok-add_valueless.ensures c.loop-field.invariant

pub add_valueless_alternatives-loop-alternative-preserved : goal.add_valueless_alternatives-loop-alternative-preserved
add_valueless_alternatives-loop-alternative-preserved t c =
    let alternatives = c.args.alternatives.now in
    let at = c.loop-alternative.alternative-index in
    let x = c.alternative-item.result in
    let steps = path_steps c.args.path.now in
    let next = ap alternative_views (drop-step alternatives at x c.loop-alternative-test.true ∙ ap (λ y. y ∷ drop (at + 1) alternatives) (sym c.alternative-item.is)) in
    listed-part (map string_bytes c.loop-alternative.found.items) (map string_bytes c.add_valueless.new.found.items) steps _ (string_bytes x.identifier) (alternative_valueless (alternative_views (drop at alternatives))) (valueless_paths (shape_view x.shape)) (alternative_valueless (alternative_views (drop (at + 1) alternatives))) _
    (ap alternative_valueless next) (steps_further c.as_str.result c.args.path ∙ ap (λ n. steps ++ n ∷ []) c.as_str.ensures.value) c.in_ok-add_valueless.ensures c.loop-alternative.invariant

pub add_valueless-returns-in-Some : goal.add_valueless-returns-in-Some
add_valueless-returns-in-Some t c =
    let whole = c.in-Seq in
    let steps = path_steps c.args.path.now in
    let first = map string_bytes c.add_valueless_fields.new.found.items in
    let last = ap (λ l. first ++ texts steps (field_valueless (field_views l))) c.deref-in-Some.ensures.value ∙ ap (λ o. first ++ texts steps (added_field_valueless (added_field_views o))) (sym c.in-Some.is) in
    IfOk-equal c.add_valueless_fields-in-Some.result _ _ _ c.add_valueless_fields-in-Some.ensures
    (listed-both (map string_bytes c.args.found.now.items) first _ steps (valueless_paths (shape_view c.args.shape.now)) (field_valueless (field_views c.deref.result.now)) (added_field_valueless (added_field_views whole.added))
    (seq-valueless c.args.shape.now whole.kind whole.fields whole.added c.deref.result.now whole.is c.deref.ensures.value) c.in_ok-add_valueless_fields-in-Seq.ensures last)

pub add_valueless-returns-in-None : goal.add_valueless-returns-in-None
add_valueless-returns-in-None t c =
    let whole = c.in-Seq in
    let steps = path_steps c.args.path.now in
    let first = map string_bytes c.add_valueless_fields.new.found.items in
    listed-both (map string_bytes c.args.found.now.items) first first steps (valueless_paths (shape_view c.args.shape.now)) (field_valueless (field_views c.deref.result.now)) (added_field_valueless (added_field_views whole.added))
    (seq-valueless c.args.shape.now whole.kind whole.fields whole.added c.deref.result.now whole.is c.deref.ensures.value) c.in_ok-add_valueless_fields-in-Seq.ensures
    (sym (append-nil first) ∙ ap (λ o. first ++ texts steps (added_field_valueless (added_field_views o))) (sym c.in-None.is))

pub add_valueless-returns-in-Some-added : goal.add_valueless-returns-in-Some-added
add_valueless-returns-in-Some-added t c =
    let whole = c.in-Choice in
    let steps = path_steps c.args.path.now in
    let first = map string_bytes c.add_valueless_alternatives.new.found.items in
    let last = ap (λ l. first ++ texts steps (alternative_valueless (alternative_views l))) c.deref-in-Some-added.ensures.value ∙ ap (λ o. first ++ texts steps (added_alternative_valueless (added_alternative_views o))) (sym c.in-Some-added.is) in
    IfOk-equal c.add_valueless_alternatives-in-Some-added.result _ _ _ c.add_valueless_alternatives-in-Some-added.ensures
    (listed-both (map string_bytes c.args.found.now.items) first _ steps (valueless_paths (shape_view c.args.shape.now)) (alternative_valueless (alternative_views c.deref-in-Choice.result.now)) (added_alternative_valueless (added_alternative_views whole.added))
    (choice-valueless c.args.shape.now whole.alternatives whole.added c.deref-in-Choice.result.now whole.is c.deref-in-Choice.ensures.value) c.in_ok-add_valueless_alternatives-in-Choice.ensures last)

pub add_valueless-returns-in-None-added : goal.add_valueless-returns-in-None-added
add_valueless-returns-in-None-added t c =
    let whole = c.in-Choice in
    let steps = path_steps c.args.path.now in
    let first = map string_bytes c.add_valueless_alternatives.new.found.items in
    listed-both (map string_bytes c.args.found.now.items) first first steps (valueless_paths (shape_view c.args.shape.now)) (alternative_valueless (alternative_views c.deref-in-Choice.result.now)) (added_alternative_valueless (added_alternative_views whole.added))
    (choice-valueless c.args.shape.now whole.alternatives whole.added c.deref-in-Choice.result.now whole.is c.deref-in-Choice.ensures.value) c.in_ok-add_valueless_alternatives-in-Choice.ensures
    (sym (append-nil first) ∙ ap (λ o. first ++ texts steps (added_alternative_valueless (added_alternative_views o))) (sym c.in-None-added.is))

pub add_valueless-returns-in-ListOf : goal.add_valueless-returns-in-ListOf
add_valueless-returns-in-ListOf t c =
    let part = c.deref-in-ListOf.result.now in
    IfOk-equal c.add_valueless-in-ListOf.result _ _ _ c.add_valueless-in-ListOf.ensures
    (listed-within (map string_bytes c.args.found.now.items) (path_steps c.args.path.now) _ into_each (valueless_paths (shape_view c.args.shape.now)) (valueless_paths (shape_view part)) (element-valueless c.args.shape.now c.in-ListOf.part part c.in-ListOf.is c.deref-in-ListOf.ensures) (steps_further _ _))
