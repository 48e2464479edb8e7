use Rattle.std.proofs.Common.{◌++◌, ap, ◌∙◌, map, string_bytes}
use Rattle.asn_model.specs.ShapeView.{shape_view}
use Rattle.asn_version_reports.specs.Paths.{behind, path_text}
use Rattle.asn_version_reports.specs.Valueless.{valueless_paths}
use Rattle.asn_version_reports.proofs.Behind.{behind-none, steps_root}
use Rattle.asn_version_reports.proofs.valueless.parts_without_values.Goals as goal

pub returns : goal.returns
returns c =
    let all = valueless_paths (shape_view c.args.shape.now) in
    c.in_ok-add_valueless.ensures ∙ (λ i. map string_bytes (c.new-found.ensures.items i) ++ map path_text (behind (steps_root i) all)) ∙ ap (map path_text) (behind-none all)
