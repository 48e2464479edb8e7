use Rattle.std.proofs.Common.{◌+◌, ◌++◌, ◌∷◌, [], ap, sym, ◌∙◌, drop, string_bytes}
use Rattle.std.proofs.lemmas.Result.{IfOk-equal}
use Rattle.asn_growth.specs.Paths.{added_alternative_paths, added_field_paths, alternative_paths, field_paths, into_each, paths}
use Rattle.asn_growth.proofs.Steps.{drop-step}
use Rattle.asn_model.specs.ShapeView.{added_field_views, alternative_views, field_views, shape_view}
use Rattle.asn_model.proofs.Viewing.{added_alternative_views}
use Rattle.asn_version_reports.specs.Passing.{lines_view, pass_all}
use Rattle.asn_version_reports.specs.Paths.{behind, path_steps}
use Rattle.asn_version_reports.proofs.Behind.{steps_further}
use Rattle.asn_version_reports.proofs.Nodes.{choice-paths, element-paths, seq-paths}
use Rattle.asn_version_reports.proofs.Passed.{passed-node, passed-part, passed-within}
use Rattle.asn_version_reports.proofs.differences.+lines.Goals as goal

pub add_field_lines-loop-field-preserved : goal.add_field_lines-loop-field-preserved
add_field_lines-loop-field-preserved t c =
    let fields = c.args.fields.now in
    let at = c.loop-field.field-index in
    let f = c.field-item.result in
    let steps = path_steps c.args.path.now in
    let next = ap field_views (drop-step fields at f c.loop-field-test.true ∙ ap (λ x. x ∷ drop (at + 1) fields) (sym c.field-item.is)) in
    passed-part (lines_view c.loop-field.lines) (lines_view c.add_lines.new.lines) steps _ (string_bytes f.name) (field_paths (field_views (drop at fields))) (paths (shape_view f.shape)) (field_paths (field_views (drop (at + 1) fields))) _
    (ap field_paths next) (steps_further c.as_str.result c.args.path ∙ ap (λ n. steps ++ n ∷ []) c.as_str.ensures.value) c.in_ok-add_lines.ensures c.loop-field.invariant

pub add_alternative_lines-loop-alternative-preserved : goal.add_alternative_lines-loop-alternative-preserved
add_alternative_lines-loop-alternative-preserved t c =
    let alternatives = c.args.alternatives.now in
    let at = c.loop-alternative.alternative-index in
    let a = c.alternative-item.result in
    let steps = path_steps c.args.path.now in
    let next = ap alternative_views (drop-step alternatives at a c.loop-alternative-test.true ∙ ap (λ x. x ∷ drop (at + 1) alternatives) (sym c.alternative-item.is)) in
    passed-part (lines_view c.loop-alternative.lines) (lines_view c.add_lines.new.lines) steps _ (string_bytes a.identifier) (alternative_paths (alternative_views (drop at alternatives))) (paths (shape_view a.shape)) (alternative_paths (alternative_views (drop (at + 1) alternatives))) _
    (ap alternative_paths next) (steps_further c.as_str.result c.args.path ∙ ap (λ n. steps ++ n ∷ []) c.as_str.ensures.value) c.in_ok-add_lines.ensures c.loop-alternative.invariant

pub add_lines-returns-in-Some : goal.add_lines-returns-in-Some
add_lines-returns-in-Some t c =
    let seq = c.in-Seq in
    let steps = path_steps c.args.path.now in
    let first = lines_view c.add_field_lines.new.lines in
    let last = ap (λ l. pass_all first (behind steps (field_paths (field_views l)))) c.deref-in-Some.ensures.value ∙ ap (λ o. pass_all first (behind steps (added_field_paths (added_field_views o)))) (sym c.in-Some.is) in
    IfOk-equal c.add_field_lines-in-Some.result _ _ _ c.add_field_lines-in-Some.ensures
    (passed-node (lines_view c.args.lines.now) (lines_view c.pass.new.lines) first _ steps (paths (shape_view c.args.shape.now)) (field_paths (field_views c.deref.result.now)) (added_field_paths (added_field_views seq.added))
    (seq-paths c.args.shape.now seq.kind seq.fields seq.added c.deref.result.now seq.is c.deref.ensures.value) c.in_ok-pass.ensures c.in_ok-add_field_lines-in-Seq.ensures last)

pub add_lines-returns-in-None : goal.add_lines-returns-in-None
add_lines-returns-in-None t c =
    let seq = c.in-Seq in
    let steps = path_steps c.args.path.now in
    let first = lines_view c.add_field_lines.new.lines in
    passed-node (lines_view c.args.lines.now) (lines_view c.pass.new.lines) first first steps (paths (shape_view c.args.shape.now)) (field_paths (field_views c.deref.result.now)) (added_field_paths (added_field_views seq.added))
    (seq-paths c.args.shape.now seq.kind seq.fields seq.added c.deref.result.now seq.is c.deref.ensures.value) c.in_ok-pass.ensures c.in_ok-add_field_lines-in-Seq.ensures
    (ap (λ o. pass_all first (behind steps (added_field_paths (added_field_views o)))) (sym c.in-None.is))

pub add_lines-returns-in-Some-added : goal.add_lines-returns-in-Some-added
add_lines-returns-in-Some-added t c =
    let choice = c.in-Choice in
    let steps = path_steps c.args.path.now in
    let first = lines_view c.add_alternative_lines.new.lines in
    let last = ap (λ l. pass_all first (behind steps (alternative_paths (alternative_views l)))) c.deref-in-Some-added.ensures.value ∙ ap (λ o. pass_all first (behind steps (added_alternative_paths (added_alternative_views o)))) (sym c.in-Some-added.is) in
    IfOk-equal c.add_alternative_lines-in-Some-added.result _ _ _ c.add_alternative_lines-in-Some-added.ensures
    (passed-node (lines_view c.args.lines.now) (lines_view c.pass.new.lines) first _ steps (paths (shape_view c.args.shape.now)) (alternative_paths (alternative_views c.deref-in-Choice.result.now)) (added_alternative_paths (added_alternative_views choice.added))
    (choice-paths c.args.shape.now choice.alternatives choice.added c.deref-in-Choice.result.now choice.is c.deref-in-Choice.ensures.value) c.in_ok-pass.ensures c.in_ok-add_alternative_lines-in-Choice.ensures last)

pub add_lines-returns-in-None-added : goal.add_lines-returns-in-None-added
add_lines-returns-in-None-added t c =
    let choice = c.in-Choice in
    let steps = path_steps c.args.path.now in
    let first = lines_view c.add_alternative_lines.new.lines in
    passed-node (lines_view c.args.lines.now) (lines_view c.pass.new.lines) first first steps (paths (shape_view c.args.shape.now)) (alternative_paths (alternative_views c.deref-in-Choice.result.now)) (added_alternative_paths (added_alternative_views choice.added))
    (choice-paths c.args.shape.now choice.alternatives choice.added c.deref-in-Choice.result.now choice.is c.deref-in-Choice.ensures.value) c.in_ok-pass.ensures c.in_ok-add_alternative_lines-in-Choice.ensures
    (ap (λ o. pass_all first (behind steps (added_alternative_paths (added_alternative_views o)))) (sym c.in-None-added.is))

pub add_lines-returns-in-ListOf : goal.add_lines-returns-in-ListOf
add_lines-returns-in-ListOf t c =
    let part = c.deref-in-ListOf.result.now in
    IfOk-equal c.add_lines-in-ListOf.result _ _ _ c.add_lines-in-ListOf.ensures
    (passed-within (lines_view c.args.lines.now) (lines_view c.pass.new.lines) (path_steps c.args.path.now) _ into_each (paths (shape_view c.args.shape.now)) (paths (shape_view part)) (element-paths c.args.shape.now c.in-ListOf.part part c.in-ListOf.is c.deref-in-ListOf.ensures) (steps_further _ _) c.in_ok-pass.ensures)
