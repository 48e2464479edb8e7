use Rattle.std.proofs.Common.{◌≡◌, ap, sym, ◌∙◌}
use Rattle.asn_model.specs.Enclosing.{loops_of}
use Rattle.asn_model.specs.Readable.{is_readable_in, suits}
use Rattle.asn_model.specs.ShapeView.{shape_view, presence_view}
use Rattle.asn_model.specs.declared.shape_type.AlternativeShape.{AlternativeShape}
use Rattle.asn_model.proofs.Readables.{and-both}
use Rattle.asn_model.proofs.ShapeNames.{field_readable, fields-more, fields-other, alternatives-more, alternatives-other, and-false, and-false_left, part_readable}
use Rattle.asn_model.proofs.readable.+readable.Goals as goal

pub are_alternatives_readable-returns-then-not-is_readable_in : goal.are_alternatives_readable-returns-then-not-is_readable_in
are_alternatives_readable-returns-then-not-is_readable_in t c =
    let loops = loops_of c.args.around.now in
    let read : is_readable_in loops 0 (shape_view c.alternative-item.result.shape) ≡ c.is_readable_in.result = sym (c.is_readable_in.ensures ∙ part_readable c.args.around (shape_view c.alternative-item.result.shape)) in
    sym (alternatives-other loops _ _ _ c.loop-alternative-test.true (ap (λ (a : AlternativeShape). is_readable_in loops 0 (shape_view a.shape)) (sym c.alternative-item.is) ∙ read ∙ c.if-not-is_readable_in.true))

pub are_alternatives_readable-loop-alternative-preserved : goal.are_alternatives_readable-loop-alternative-preserved
are_alternatives_readable-loop-alternative-preserved t c =
    let loops = loops_of c.args.around.now in
    let read : is_readable_in loops 0 (shape_view c.alternative-item.result.shape) ≡ c.is_readable_in.result = sym (c.is_readable_in.ensures ∙ part_readable c.args.around (shape_view c.alternative-item.result.shape)) in
    alternatives-more loops _ _ _ c.loop-alternative-test.true c.loop-alternative.invariant
    (ap (λ (a : AlternativeShape). is_readable_in loops 0 (shape_view a.shape)) (sym c.alternative-item.is) ∙ read ∙ c.if-not-is_readable_in.false)

pub are_fields_readable-returns-then-not-suits : goal.are_fields_readable-returns-then-not-suits
are_fields_readable-returns-then-not-suits t c =
    let loops = loops_of c.args.around.now in
    let f = c.field-item.result in
    sym (fields-other loops _ _ _ c.loop-field-test.true (ap (field_readable loops) (sym c.field-item.is) ∙ and-false_left (suits (presence_view f.presence) (shape_view f.shape)) _ (sym c.suits.ensures ∙ c.if-not-suits.true)))

pub are_fields_readable-returns-then-not-is_readable_in : goal.are_fields_readable-returns-then-not-is_readable_in
are_fields_readable-returns-then-not-is_readable_in t c =
    let loops = loops_of c.args.around.now in
    let f = c.field-item.result in
    let read : is_readable_in loops 0 (shape_view f.shape) ≡ c.is_readable_in.result = sym (c.is_readable_in.ensures ∙ part_readable c.args.around (shape_view f.shape)) in
    sym (fields-other loops _ _ _ c.loop-field-test.true (ap (field_readable loops) (sym c.field-item.is) ∙ and-false (suits (presence_view f.presence) (shape_view f.shape)) _ (read ∙ c.if-not-is_readable_in.true)))

pub are_fields_readable-loop-field-preserved : goal.are_fields_readable-loop-field-preserved
are_fields_readable-loop-field-preserved t c =
    let loops = loops_of c.args.around.now in
    let f = c.field-item.result in
    let read : is_readable_in loops 0 (shape_view f.shape) ≡ c.is_readable_in.result = sym (c.is_readable_in.ensures ∙ part_readable c.args.around (shape_view f.shape)) in
    fields-more loops _ _ _ c.loop-field-test.true c.loop-field.invariant
    (ap (field_readable loops) (sym c.field-item.is) ∙ and-both (suits (presence_view f.presence) (shape_view f.shape)) _ (sym c.suits.ensures ∙ c.if-not-suits.false) (read ∙ c.if-not-is_readable_in.false))
