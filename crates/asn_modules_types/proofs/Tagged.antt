-- Fields and alternatives that are made of parts.
use Rattle.std.proofs.Common.{◌≡◌, ℕ, suc, ◌+◌, List, [], ◌∷◌, ◌++◌, map, Option, Some, None, refl, sym, ap, ◌∙◌, length, string_bytes, arith}
use Rattle.std.proofs.lemmas.List.{length-map, map-append}
use Rattle.std.specs.Global.{Vec}
use Rattle.std.specs.Option.{option_map}
use Rattle.asn_expansion.specs.Expansion.{context_tag}
use Rattle.asn_model.proofs.Viewing.{added_alternative_views}
use Rattle.asn_model.specs.Shape.{AlternativeAdditions, Alternatives, FieldAdditions, Fields, join_alternatives, join_fields}
use Rattle.asn_model.specs.ShapeView.{added_field_views, alternative_views, field_views, presence_view, shape_view}
use Rattle.asn_model.specs.declared.shape_type.AlternativeShape.{AlternativeShape}
use Rattle.asn_model.specs.declared.shape_type.FieldShape.{FieldShape}
use Rattle.asn_modules_types.specs.Known.{part_view, parts_view}
use Rattle.asn_modules_types.specs.Types as spec
use Rattle.asn_modules_types.specs.Types.{added_alternatives_from, added_fields_from, alternatives_from, choice_shape, fields_from, members_shape}
use Rattle.asn_modules_types.specs.declared.parts.Part.{Part}

fields_joined : (fs gs : List FieldShape) → field_views (fs ++ gs) ≡ join_fields (field_views fs) (field_views gs)
fields_joined [] gs = refl
fields_joined (f ∷ fs) gs = ap (Fields.field (string_bytes f.name) f.tag (presence_view f.presence) (shape_view f.shape)) (fields_joined fs gs)

fields_apart : (first tag : ℕ) (ps qs : List spec.Part) → tag ≡ first + length ps → fields_from first (ps ++ qs) ≡ join_fields (fields_from first ps) (fields_from tag qs)
fields_apart first tag [] qs e = let t : first ≡ tag = omega (arith, e) in ap (λ k. fields_from k qs) t
fields_apart first tag (p ∷ ps) qs e = ap (Fields.field p.name (context_tag first) p.presence p.shape) (fields_apart (suc first) tag ps qs (omega (arith, e)))

-- With one more.
pub fields_more : (first tag : ℕ) (fs new : List FieldShape) (f : FieldShape) (ps : List Part) (p : Part) → field_views fs ≡ fields_from first (map part_view ps) → tag ≡ first + length ps
    → field_views (f ∷ []) ≡ fields_from tag (part_view p ∷ []) → new ≡ fs ++ f ∷ [] → field_views new ≡ fields_from first (map part_view (ps ++ p ∷ []))
fields_more first tag fs new f ps p so t one n =
    ap field_views n ∙ fields_joined fs (f ∷ []) ∙ ap (λ x. join_fields x (field_views (f ∷ []))) so ∙ ap (join_fields (fields_from first (map part_view ps))) one
    ∙ sym (ap (fields_from first) (map-append part_view ps (p ∷ [])) ∙ fields_apart first tag (map part_view ps) (part_view p ∷ []) (omega (arith, t, length-map ps part_view)))

alternatives_joined : (fs gs : List AlternativeShape) → alternative_views (fs ++ gs) ≡ join_alternatives (alternative_views fs) (alternative_views gs)
alternatives_joined [] gs = refl
alternatives_joined (f ∷ fs) gs = ap (Alternatives.alternative (string_bytes f.identifier) f.tag (shape_view f.shape)) (alternatives_joined fs gs)

alternatives_apart : (first tag : ℕ) (ps qs : List spec.Part) → tag ≡ first + length ps → alternatives_from first (ps ++ qs) ≡ join_alternatives (alternatives_from first ps) (alternatives_from tag qs)
alternatives_apart first tag [] qs e = let t : first ≡ tag = omega (arith, e) in ap (λ k. alternatives_from k qs) t
alternatives_apart first tag (p ∷ ps) qs e = ap (Alternatives.alternative p.name (context_tag first) p.shape) (alternatives_apart (suc first) tag ps qs (omega (arith, e)))

-- With one more.
pub alternatives_more : (first tag : ℕ) (fs new : List AlternativeShape) (f : AlternativeShape) (ps : List Part) (p : Part) → alternative_views fs ≡ alternatives_from first (map part_view ps) → tag ≡ first + length ps
    → alternative_views (f ∷ []) ≡ alternatives_from tag (part_view p ∷ []) → new ≡ fs ++ f ∷ [] → alternative_views new ≡ alternatives_from first (map part_view (ps ++ p ∷ []))
alternatives_more first tag fs new f ps p so t one n =
    ap alternative_views n ∙ alternatives_joined fs (f ∷ []) ∙ ap (λ x. join_alternatives x (alternative_views (f ∷ []))) so ∙ ap (join_alternatives (alternatives_from first (map part_view ps))) one
    ∙ sym (ap (alternatives_from first) (map-append part_view ps (p ∷ [])) ∙ alternatives_apart first tag (map part_view ps) (part_view p ∷ []) (omega (arith, t, length-map ps part_view)))

-- The extension additions that were made of parts.
pub fields_extended : (tag : ℕ) (root : List Part) (o : Option (Vec Part)) (ps : Vec Part) (made : Option (Vec FieldShape)) (fs : Vec FieldShape) → tag ≡ 0 + length root → o ≡ Some ps → made ≡ Some fs → field_views fs.items ≡ fields_from tag (map part_view ps.items)
    → added_field_views made ≡ added_fields_from (length (map part_view root)) (option_map parts_view o)
fields_extended tag root o ps made fs t is m e =
    let place : tag ≡ length (map part_view root) = omega (arith, t, length-map root part_view) in
    ap added_field_views m ∙ ap FieldAdditions.extended_fields (e ∙ ap (λ k. fields_from k (map part_view ps.items)) place) ∙ sym (ap (λ x. added_fields_from (length (map part_view root)) (option_map parts_view x)) is)

pub fields_closed : (n : ℕ) (o : Option (Vec Part)) (made : Option (Vec FieldShape)) → o ≡ None → made ≡ None → added_field_views made ≡ added_fields_from n (option_map parts_view o)
fields_closed n o made is m = ap added_field_views m ∙ sym (ap (λ x. added_fields_from n (option_map parts_view x)) is)

pub alternatives_extended : (tag : ℕ) (root : List Part) (o : Option (Vec Part)) (ps : Vec Part) (made : Option (Vec AlternativeShape)) (fs : Vec AlternativeShape) → tag ≡ 0 + length root → o ≡ Some ps → made ≡ Some fs → alternative_views fs.items ≡ alternatives_from tag (map part_view ps.items)
    → added_alternative_views made ≡ added_alternatives_from (length (map part_view root)) (option_map parts_view o)
alternatives_extended tag root o ps made fs t is m e =
    let place : tag ≡ length (map part_view root) = omega (arith, t, length-map root part_view) in
    ap added_alternative_views m ∙ ap AlternativeAdditions.extended_alternatives (e ∙ ap (λ k. alternatives_from k (map part_view ps.items)) place) ∙ sym (ap (λ x. added_alternatives_from (length (map part_view root)) (option_map parts_view x)) is)

pub alternatives_closed : (n : ℕ) (o : Option (Vec Part)) (made : Option (Vec AlternativeShape)) → o ≡ None → made ≡ None → added_alternative_views made ≡ added_alternatives_from n (option_map parts_view o)
alternatives_closed n o made is m = ap added_alternative_views m ∙ sym (ap (λ x. added_alternatives_from n (option_map parts_view x)) is)
