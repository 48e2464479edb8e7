use Rattle.std.proofs.Common.{◌<◌, ◌++◌, ap, sym, ◌∙◌, arith, length, get_or}
use Rattle.std.proofs.lemmas.List.{get_or-map, length-map}
use Rattle.asn_model.specs.Shape as spec
use Rattle.asn_model.specs.ShapeView.{shape_view}
use Rattle.asn_model.specs.declared.shape_type.AlternativeShape.{AlternativeShape}
use Rattle.asn_model.specs.declared.shape_type.FieldShape.{FieldShape}
use Rattle.asn_growth.proofs.Viewed.{choice_parts_viewed, seq_parts_viewed}
use Rattle.asn_growth.proofs.parts.part_at.Goals as goal

pub at-field-requires : goal.at-field-requires
at-field-requires c =
    let all = c.root_fields.result.now ++ c.added_fields.result.now in
    omega (arith, c.requires, ap length (seq_parts_viewed c.args.shape.now c.in-Seq.kind c.in-Seq.fields c.in-Seq.added c.root_fields.result.now c.added_fields.result.now c.in-Seq.is c.root_fields.ensures c.added_fields.ensures), length-map all (λ (f : FieldShape). shape_view f.shape))

pub at-alternative-requires : goal.at-alternative-requires
at-alternative-requires c =
    let all = c.root_alternatives.result.now ++ c.added_alternatives.result.now in
    omega (arith, c.requires, ap length (choice_parts_viewed c.args.shape.now c.in-Choice.alternatives c.in-Choice.added c.root_alternatives.result.now c.added_alternatives.result.now c.in-Choice.is c.root_alternatives.ensures c.added_alternatives.ensures), length-map all (λ (a : AlternativeShape). shape_view a.shape))

pub returns-in-Seq : goal.returns-in-Seq
returns-in-Seq c =
    let all = c.root_fields.result.now ++ c.added_fields.result.now in
    let within : c.args.index < length all = omega (arith, c.requires, ap length (seq_parts_viewed c.args.shape.now c.in-Seq.kind c.in-Seq.fields c.in-Seq.added c.root_fields.result.now c.added_fields.result.now c.in-Seq.is c.root_fields.ensures c.added_fields.ensures), length-map all (λ (f : FieldShape). shape_view f.shape)) in
    sym (ap (λ l. get_or l c.args.index spec.Shape.null) (seq_parts_viewed c.args.shape.now c.in-Seq.kind c.in-Seq.fields c.in-Seq.added c.root_fields.result.now c.added_fields.result.now c.in-Seq.is c.root_fields.ensures c.added_fields.ensures) ∙ get_or-map (λ (f : FieldShape). shape_view f.shape) all c.args.index c.at-field.result.now spec.Shape.null within
    ∙ ap (λ (f : FieldShape). shape_view f.shape) (sym c.at-field.ensures))

pub returns-in-Choice : goal.returns-in-Choice
returns-in-Choice c =
    let all = c.root_alternatives.result.now ++ c.added_alternatives.result.now in
    let within : c.args.index < length all = omega (arith, c.requires, ap length (choice_parts_viewed c.args.shape.now c.in-Choice.alternatives c.in-Choice.added c.root_alternatives.result.now c.added_alternatives.result.now c.in-Choice.is c.root_alternatives.ensures c.added_alternatives.ensures), length-map all (λ (a : AlternativeShape). shape_view a.shape)) in
    sym (ap (λ l. get_or l c.args.index spec.Shape.null) (choice_parts_viewed c.args.shape.now c.in-Choice.alternatives c.in-Choice.added c.root_alternatives.result.now c.added_alternatives.result.now c.in-Choice.is c.root_alternatives.ensures c.added_alternatives.ensures) ∙ get_or-map (λ (a : AlternativeShape). shape_view a.shape) all c.args.index c.at-alternative.result.now spec.Shape.null within
    ∙ ap (λ (a : AlternativeShape). shape_view a.shape) (sym c.at-alternative.ensures))
