use Rattle.std.proofs.Common.{◌≡◌, ◌∙◌, ◌+◌, ap, arith, length, sym}
use Rattle.asn_model.specs.ShapeView.{shape_view}
use Rattle.asn_parts.specs.Listed.{fields_in}
use Rattle.asn_parts.proofs.ShapeViews.{fields-counted}
use Rattle.asn_parts.proofs.shapes.RefShapePart.field_count.Goals as goal

pub returns-in-Seq : goal.returns-in-Seq
returns-in-Seq c =
    let s = c.in-Seq in
    let own : c.len.result ≡ length s.fields.items = omega (arith, c.len.ensures) in
    (λ i. own i + length (c.entries.ensures i)) ∙ sym (ap (λ x. length (fields_in (shape_view x))) s.is ∙ fields-counted s.kind s.fields s.added)
