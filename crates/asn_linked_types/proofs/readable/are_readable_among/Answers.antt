use Rattle.std.proofs.Common.{◌≡◌, ap, sym, ◌∙◌}
use Rattle.asn_linked_types.proofs.Within.{among-more, among-other}
use Rattle.asn_model.specs.Readable.{is_readable_in}
use Rattle.asn_model.specs.ShapeView.{shape_view}
use Rattle.asn_model.specs.declared.shape_type.Shape.{Shape}
use Rattle.asn_linked_types.proofs.readable.are_readable_among.Goals as goal

pub returns-then-not-is_readable_within : goal.returns-then-not-is_readable_within
returns-then-not-is_readable_within c =
    let count = c.args.count in
    let s = c.shape-item.result in
    let read : is_readable_in count count (shape_view s) ≡ c.is_readable_within.result = sym c.is_readable_within.ensures in
    sym (among-other count _ _ _ c.loop-shape-test.true (ap (λ (x : Shape). is_readable_in count count (shape_view x)) (sym c.shape-item.is) ∙ read ∙ c.if-not-is_readable_within.true))

pub loop-shape-preserved : goal.loop-shape-preserved
loop-shape-preserved c =
    let count = c.args.count in
    let s = c.shape-item.result in
    let read : is_readable_in count count (shape_view s) ≡ c.is_readable_within.result = sym c.is_readable_within.ensures in
    among-more count _ _ _ c.loop-shape-test.true c.loop-shape.invariant
    (ap (λ (x : Shape). is_readable_in count count (shape_view x)) (sym c.shape-item.is) ∙ read ∙ c.if-not-is_readable_within.false)
