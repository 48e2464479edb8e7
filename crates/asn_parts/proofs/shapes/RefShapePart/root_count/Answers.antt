use Rattle.std.proofs.Common.{◌≡◌, ◌∙◌, ap, arith, length, sym}
use Rattle.asn_model.specs.ShapeView.{shape_view}
use Rattle.asn_parts.specs.Listed.{root_count_in}
use Rattle.asn_parts.proofs.ShapeViews.{root-counted}
use Rattle.asn_parts.proofs.shapes.RefShapePart.root_count.Goals as goal

pub returns-in-Seq : goal.returns-in-Seq
returns-in-Seq c around =
    let s = c.in-Seq in
    let own : c.len.result ≡ length s.fields.items = omega (arith, c.len.ensures) in
    own ∙ sym (ap (λ x. root_count_in (shape_view x)) s.is ∙ root-counted s.kind s.fields s.added)
