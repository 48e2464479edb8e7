use Rattle.std.proofs.Common.{◌≡◌, ◌∙◌, ◌↔◌, [], ap, map, string_bytes}
use Rattle.std.proofs.lemmas.Result.{IfOk-weaker}
use Rattle.std.specs.List.{flat_map}
use Rattle.asn_model.specs.ShapeView.{shape_view}
use Rattle.asn_version_reports.specs.Valueless.{uncompared_line, valueless_paths}
use Rattle.asn_version_reports.proofs.Lacking.{none-uncompared}
use Rattle.asn_version_reports.proofs.uncompared.uncompared_report.Goals as goal

pub returns-clause-none : goal.returns-clause-none
returns-clause-none c =
    let shape = shape_view c.args.shape.now in
    let parts = ap (map string_bytes) c.deref.ensures.value ∙ c.in_ok-parts.ensures in
    IfOk-weaker c.lines_on_parts.result (λ s. string_bytes s ≡ flat_map uncompared_line (map string_bytes c.deref.result.now)) (λ s. (string_bytes s ≡ []) ↔ (valueless_paths shape ≡ []))
    (λ s e. none-uncompared shape (string_bytes s) (e ∙ ap (flat_map uncompared_line) parts)) c.lines_on_parts.ensures
