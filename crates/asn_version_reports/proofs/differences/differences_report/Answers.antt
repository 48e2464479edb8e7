use Rattle.std.proofs.Common.{◌<◌, ◌^◌, ap, sym, ◌∙◌, subst, arith, length, string_bytes, vec_len}
use Rattle.std.proofs.lemmas.Bool.{eqb-false}
use Rattle.asn_growth.specs.Differences.{Ascends, differences_of}
use Rattle.asn_growth.specs.Paths.{paths}
use Rattle.asn_growth.proofs.Steps.{paths-length}
use Rattle.asn_model.specs.ShapeView.{shape_view}
use Rattle.asn_version_reports.specs.Passing.{lines_view}
use Rattle.asn_version_reports.specs.Paths.{path_steps}
use Rattle.asn_version_reports.specs.Reports.{report_text}
use Rattle.asn_version_reports.specs.declared.path.Path.TheVariants.{Root}
use Rattle.asn_version_reports.proofs.Behind.{steps_root}
use Rattle.asn_version_reports.proofs.Reported.{none-reported, reported}
use Rattle.asn_version_reports.proofs.differences.differences_report.Goals as goal

pub returns-clause-text : goal.returns-clause-text
returns-clause-text c =
    let old = shape_view c.args.old.now in
    let found = c.in_ok-found.found.items in
    let counted = paths-length old in
    let some : 0 < length found = omega (arith, eqb-false (vec_len c.in_ok-found.found) 0 (sym c.is_empty.ensures ∙ c.if-is_empty.false)) in
    let few : length (paths old) < 2 ^ 32 = omega (arith, counted, c.requires) in
    let ascends = subst (λ n. Ascends 0 n found) (sym counted) c.in_ok-found.ensures.in_order in
    reported (paths old) found c.as_slice.result.now (string_bytes c.new.result) (path_steps Root) (lines_view c.add_lines.new.lines) c.as_slice.ensures.value c.new.ensures.bytes steps_root few ascends some c.in_ok-add_lines.ensures
    ∙ ap (report_text (paths old)) c.in_ok-found.ensures.all

pub returns-clause-grows : goal.returns-clause-grows
returns-clause-grows c =
    let old = shape_view c.args.old.now in
    let found = c.in_ok-found.found.items in
    let some : 0 < length found = omega (arith, eqb-false (vec_len c.in_ok-found.found) 0 (sym c.is_empty.ensures ∙ c.if-is_empty.false)) in
    let all = c.in_ok-found.ensures.all in
    let none = none-reported (paths old) (differences_of old (shape_view c.args.new.now) 0) in
    (λ e. c.in_ok-found.ensures.none.0 (all ∙ none (sym (returns-clause-text c) ∙ e)), λ g. absurd (omega (arith, some, ap length (c.in_ok-found.ensures.none.1 g))))
