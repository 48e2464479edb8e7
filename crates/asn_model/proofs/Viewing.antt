-- What the shape of a SEQUENCE, SET or CHOICE is, by the shapes of its parts.
use Rattle.std.proofs.Common.{◌≡◌, refl, ap, sym, ◌∙◌, List, [], ◌∷◌, ◌++◌, map, Option, Some, None, string_bytes}
use Rattle.std.specs.Global.{Vec}
use Rattle.asn_model.specs.Shape as spec
use Rattle.asn_model.specs.ShapeView.{added_field_views, shape_view, shape_step, field_step, alternative_step, fields_of, alternatives_of, kind_view, presence_view, field_views, alternative_views, with_last_field, with_last_alternative}
use Rattle.asn_model.specs.declared.shape_type.SeqKind.{SeqKind}
use Rattle.asn_model.specs.declared.shape_type.FieldShape.{FieldShape}
use Rattle.asn_model.specs.declared.shape_type.AlternativeShape.{AlternativeShape}
use Rattle.asn_model.specs.declared.shape_type.Shape.TheOpen as layer
use Rattle.asn_model.specs.declared.shape_type.Shape.TheVariants.{rolls-Seq, rolls-Choice}
use Rattle.asn_model.specs.declared.shape_type.Shape.TheViews.{Seq, Choice}
use Rattle.asn_model.specs.declared.shape_type.Shape.TheFolds.{fold-FieldShape, fold-AlternativeShape, fold-roll-Shape, fold_out-FieldShape, fold_out-AlternativeShape}

-- The extension additions that `AlternativeShape`s are, if there is an extension marker.
abbrev pub added_alternative_views : Option (Vec AlternativeShape) → spec.AlternativeAdditions
added_alternative_views None = spec.AlternativeAdditions.closed_alternatives
added_alternative_views (Some alts) = spec.AlternativeAdditions.extended_alternatives (alternative_views alts.items)

abbrev FieldInFront : Type 0
FieldInFront = spec.Fields → spec.Fields

abbrev AlternativeInFront : Type 0
AlternativeInFront = spec.Alternatives → spec.Alternatives

abbrev field_fold : FieldShape → FieldInFront
field_fold = fold-FieldShape spec.Shape AlternativeInFront FieldInFront shape_step alternative_step field_step

abbrev alternative_fold : AlternativeShape → AlternativeInFront
alternative_fold = fold-AlternativeShape spec.Shape AlternativeInFront FieldInFront shape_step alternative_step field_step

fields_viewed : (fs : List FieldShape) → fields_of (map field_fold fs) ≡ field_views fs
fields_viewed [] = refl
fields_viewed (f ∷ fs) = ap (λ g. g (fields_of (map field_fold fs))) (fold_out-FieldShape spec.Shape AlternativeInFront FieldInFront shape_step alternative_step field_step f)
    ∙ ap (spec.Fields.field (string_bytes f.name) f.tag (presence_view f.presence) (shape_view f.shape)) (fields_viewed fs)

alternatives_viewed : (alts : List AlternativeShape) → alternatives_of (map alternative_fold alts) ≡ alternative_views alts
alternatives_viewed [] = refl
alternatives_viewed (a ∷ alts) = ap (λ g. g (alternatives_of (map alternative_fold alts))) (fold_out-AlternativeShape spec.Shape AlternativeInFront FieldInFront shape_step alternative_step field_step a)
    ∙ ap (spec.Alternatives.alternative (string_bytes a.identifier) a.tag (shape_view a.shape)) (alternatives_viewed alts)

-- A SEQUENCE or SET, by its fields.
pub sequence_viewed : (k : SeqKind) (fs : Vec FieldShape) (added : Option (Vec FieldShape))
    → shape_view (Seq k fs added) ≡ spec.Shape.seq (kind_view k) (field_views fs.items) (added_field_views added)
sequence_viewed k fs None = ap shape_view (sym (rolls-Seq k fs None)) ∙ fold-roll-Shape spec.Shape AlternativeInFront FieldInFront shape_step alternative_step field_step (layer.Seq k fs None)
    ∙ ap (λ l. spec.Shape.seq (kind_view k) l spec.FieldAdditions.closed_fields) (fields_viewed fs.items)
sequence_viewed k fs (Some gs) = ap shape_view (sym (rolls-Seq k fs (Some gs))) ∙ fold-roll-Shape spec.Shape AlternativeInFront FieldInFront shape_step alternative_step field_step (layer.Seq k fs (Some gs))
    ∙ ap (λ l. spec.Shape.seq (kind_view k) l (spec.FieldAdditions.extended_fields (fields_of (map field_fold gs.items)))) (fields_viewed fs.items)
    ∙ ap (λ l. spec.Shape.seq (kind_view k) (field_views fs.items) (spec.FieldAdditions.extended_fields l)) (fields_viewed gs.items)

-- A CHOICE, by its alternatives.
pub choice_viewed : (alts : Vec AlternativeShape) (added : Option (Vec AlternativeShape))
    → shape_view (Choice alts added) ≡ spec.Shape.choice (alternative_views alts.items) (added_alternative_views added)
choice_viewed alts None = ap shape_view (sym (rolls-Choice alts None)) ∙ fold-roll-Shape spec.Shape AlternativeInFront FieldInFront shape_step alternative_step field_step (layer.Choice alts None)
    ∙ ap (λ l. spec.Shape.choice l spec.AlternativeAdditions.closed_alternatives) (alternatives_viewed alts.items)
choice_viewed alts (Some bs) = ap shape_view (sym (rolls-Choice alts (Some bs))) ∙ fold-roll-Shape spec.Shape AlternativeInFront FieldInFront shape_step alternative_step field_step (layer.Choice alts (Some bs))
    ∙ ap (λ l. spec.Shape.choice l (spec.AlternativeAdditions.extended_alternatives (alternatives_of (map alternative_fold bs.items)))) (alternatives_viewed alts.items)
    ∙ ap (λ l. spec.Shape.choice (alternative_views alts.items) (spec.AlternativeAdditions.extended_alternatives l)) (alternatives_viewed bs.items)

-- The fields with one more behind the others.
pub field_views-push : (fs : List FieldShape) (f : FieldShape) → field_views (fs ++ f ∷ []) ≡ with_last_field (field_views fs) (string_bytes f.name) f.tag (presence_view f.presence) (shape_view f.shape)
field_views-push [] f = refl
field_views-push (g ∷ fs) f = ap (spec.Fields.field (string_bytes g.name) g.tag (presence_view g.presence) (shape_view g.shape)) (field_views-push fs f)

-- The alternatives with one more behind the others.
pub alternative_views-push : (alts : List AlternativeShape) (a : AlternativeShape) → alternative_views (alts ++ a ∷ []) ≡ with_last_alternative (alternative_views alts) (string_bytes a.identifier) a.tag (shape_view a.shape)
alternative_views-push [] a = refl
alternative_views-push (b ∷ alts) a = ap (spec.Alternatives.alternative (string_bytes b.identifier) b.tag (shape_view b.shape)) (alternative_views-push alts a)
