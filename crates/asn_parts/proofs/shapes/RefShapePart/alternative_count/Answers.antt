use Rattle.std.proofs.Common.{◌≡◌, ◌∙◌, ◌+◌, ap, arith, length, sym}
use Rattle.asn_model.specs.Shape.{identifiers}
use Rattle.asn_model.specs.ShapeView.{shape_view}
use Rattle.asn_parts.specs.Listed.{alternatives_in}
use Rattle.asn_parts.proofs.ShapeViews.{alternatives-counted}
use Rattle.asn_parts.proofs.shapes.RefShapePart.alternative_count.Goals as goal

pub returns-in-Choice : goal.returns-in-Choice
returns-in-Choice c =
    let s = c.in-Choice in
    let own : c.len.result ≡ length s.alternatives.items = omega (arith, c.len.ensures) in
    (λ i. own i + length (c.entries.ensures i)) ∙ sym (ap (λ x. length (identifiers (alternatives_in (shape_view x)))) s.is ∙ alternatives-counted s.alternatives s.added)
