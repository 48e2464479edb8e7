use Rattle.std.proofs.Common.{◌≡◌, drop}
use Rattle.asn_growth.specs.Paths.{alternative_paths, field_paths}
use Rattle.asn_model.specs.ShapeView.{alternative_views, field_views}
use Rattle.asn_version_reports.specs.Passing.{lines_view, pass_all}
use Rattle.asn_version_reports.specs.Paths.{behind, path_steps}
use Rattle.asn_version_reports.proofs.differences.+lines.Given as goal

-- When the nodes of the fields that are left are passed, all are.
abbrev pub invariant-add_field_lines-loop-field : goal.invariant-add_field_lines-loop-field
invariant-add_field_lines-loop-field l =
    pass_all (lines_view l.lines) (behind (path_steps l.path) (field_paths (field_views (drop l.field-index l.fields)))) ≡ pass_all (lines_view l.fn.lines) (behind (path_steps l.path) (field_paths (field_views l.fields)))

-- The same of alternatives.
abbrev pub invariant-add_alternative_lines-loop-alternative : goal.invariant-add_alternative_lines-loop-alternative
invariant-add_alternative_lines-loop-alternative l =
    pass_all (lines_view l.lines) (behind (path_steps l.path) (alternative_paths (alternative_views (drop l.alternative-index l.alternatives)))) ≡ pass_all (lines_view l.fn.lines) (behind (path_steps l.path) (alternative_paths (alternative_views l.alternatives)))
