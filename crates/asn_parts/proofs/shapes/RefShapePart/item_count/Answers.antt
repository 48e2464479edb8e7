use Rattle.std.proofs.Common.{◌≡◌, ◌∙◌, ◌+◌, ap, arith, length, sym}
use Rattle.asn_model.specs.ShapeView.{shape_view}
use Rattle.asn_parts.specs.Listed.{items_in}
use Rattle.asn_parts.proofs.ShapeViews.{items-counted}
use Rattle.asn_parts.proofs.shapes.RefShapePart.item_count.Goals as goal

pub returns-in-Enum : goal.returns-in-Enum
returns-in-Enum c around =
    let s = c.in-Enum in
    let own : c.len.result ≡ length s.items.items = omega (arith, c.len.ensures) in
    (λ i. own i + length (c.entries.ensures i)) ∙ sym (ap (λ x. length (items_in (shape_view x))) s.is ∙ items-counted s.items s.added)
