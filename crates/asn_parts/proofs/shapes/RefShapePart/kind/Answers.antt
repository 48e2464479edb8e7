use Rattle.std.proofs.Common.{◌∙◌, ap, map, string_bytes}
use Rattle.std.specs.Prelude.{option_map, String}
use Rattle.std.specs.Global.{Global, Vec}
use Rattle.asn_model.specs.Shape.{Shape}
use Rattle.asn_model.specs.ShapeView.{added_field_views, alternative_views, field_views, kind_view, shape_view}
use Rattle.asn_model.proofs.Viewing.{added_alternative_views, choice_viewed, sequence_viewed}
use Rattle.asn_parts.proofs.ShapeViews.{view-Enum}
use Rattle.asn_parts.proofs.shapes.RefShapePart.kind.Goals as goal

pub returns-in-Enum : goal.returns-in-Enum
returns-in-Enum c =
    let s = c.in-Enum in
    (map string_bytes s.items.items, option_map (λ (v : Vec (String Global)). map string_bytes v.items) s.added, ap shape_view s.is ∙ view-Enum s.items s.added)

pub returns-in-Sequence : goal.returns-in-Sequence
returns-in-Sequence c =
    let s = c.in-Seq in
    (field_views s.fields.items, added_field_views s.added, ap shape_view s.is ∙ sequence_viewed s.kind s.fields s.added ∙ ap (λ k. Shape.seq (kind_view k) (field_views s.fields.items) (added_field_views s.added)) c.in-Sequence.is)

pub returns-in-Set : goal.returns-in-Set
returns-in-Set c =
    let s = c.in-Seq in
    (field_views s.fields.items, added_field_views s.added, ap shape_view s.is ∙ sequence_viewed s.kind s.fields s.added ∙ ap (λ k. Shape.seq (kind_view k) (field_views s.fields.items) (added_field_views s.added)) c.in-Set.is)

pub returns-in-Choice : goal.returns-in-Choice
returns-in-Choice c =
    let s = c.in-Choice in
    (alternative_views s.alternatives.items, added_alternative_views s.added, ap shape_view s.is ∙ choice_viewed s.alternatives s.added)
