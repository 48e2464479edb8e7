use Rattle.std.proofs.Common.{◌++◌, ap, sym, ◌∙◌, length, length-append}
use Rattle.std.proofs.lemmas.List.{length-map}
use Rattle.asn_model.specs.ShapeView.{shape_view}
use Rattle.asn_model.specs.declared.shape_type.AlternativeShape.{AlternativeShape}
use Rattle.asn_model.specs.declared.shape_type.FieldShape.{FieldShape}
use Rattle.asn_growth.proofs.Viewed.{choice_parts_viewed, seq_parts_viewed}
use Rattle.asn_growth.proofs.parts.part_count.Goals as goal

pub returns-in-Seq : goal.returns-in-Seq
returns-in-Seq c =
    let fields = c.root_fields.result.now in
    let more = c.added_fields.result.now in
    sym (ap length (seq_parts_viewed c.args.shape.now c.in-Seq.kind c.in-Seq.fields c.in-Seq.added c.root_fields.result.now c.added_fields.result.now c.in-Seq.is c.root_fields.ensures c.added_fields.ensures) ∙ length-map (fields ++ more) (λ (f : FieldShape). shape_view f.shape) ∙ length-append fields more)

pub returns-in-Choice : goal.returns-in-Choice
returns-in-Choice c =
    let alternatives = c.root_alternatives.result.now in
    let more = c.added_alternatives.result.now in
    sym (ap length (choice_parts_viewed c.args.shape.now c.in-Choice.alternatives c.in-Choice.added c.root_alternatives.result.now c.added_alternatives.result.now c.in-Choice.is c.root_alternatives.ensures c.added_alternatives.ensures) ∙ length-map (alternatives ++ more) (λ (a : AlternativeShape). shape_view a.shape) ∙ length-append alternatives more)
