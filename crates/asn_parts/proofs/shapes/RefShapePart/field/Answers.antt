use Rattle.std.proofs.Common.{◌≡◌, ◌<◌, ◌≤◌, ◌∙◌, ◌-◌, Some, ap, arith, get_or, length, sym}
use Rattle.asn_coding.specs.SetFields.{component_at}
use Rattle.asn_model.specs.ShapeView.{shape_view}
use Rattle.asn_parts.specs.Listed.{fields_in}
use Rattle.asn_parts.proofs.ShapeViews.{added-field, fields-counted, root-field}
use Rattle.asn_parts.proofs.shapes.RefShapePart.field.Goals as goal

pub unreachable-requires : goal.unreachable-requires
unreachable-requires c =
    let s = c.in-Seq in
    let count = ap (λ x. length (fields_in (shape_view x))) s.is ∙ fields-counted s.kind s.fields s.added in
    omega (arith, c.requires, c.if-place-len.false, c.len.ensures, c.len-in-Seq.ensures, c.in-None.ensures.lookup.3, ap length c.entries.ensures, count)

pub returns-then-place-len : goal.returns-then-place-len
returns-then-place-len c around =
    let s = c.in-Seq in
    let below : c.args.place < length s.fields.items = omega (arith, c.if-place-len.true, c.len.ensures) in
    ap (λ x. component_at (fields_in (shape_view x)) c.args.place) s.is
    ∙ root-field s.kind s.fields s.added c.args.place c.index.result.now below c.index.ensures
    ∙ sym (ap (λ x. Some x) c.field_part.ensures)

pub returns : goal.returns
returns c around =
    let s = c.in-Seq in
    let past : length s.fields.items ≤ c.args.place = omega (arith, c.if-place-len.false, c.len.ensures) in
    let own : c.len-in-Seq.result ≡ length s.fields.items = omega (arith, c.len-in-Seq.ensures) in
    ap (λ x. component_at (fields_in (shape_view x)) c.args.place) s.is
    ∙ added-field s.kind s.fields s.added c.args.place c.in-Some.field.now past (omega (arith, c.requires, ap (λ x. length (fields_in (shape_view x))) s.is))
    (c.in-Some.ensures.lookup.1 ∙ (λ i. get_or (c.entries.ensures i) (c.args.place - own i) c.in-Some.field.now))
    ∙ sym (ap (λ x. Some x) c.field_part-in-Some.ensures)
