-- The nodes of a shape that a program holds, by those of its parts.
use Rattle.std.proofs.Common.{◌≡◌, refl, ap, sym, ◌∙◌, subst, List, [], ◌∷◌, ◌++◌, Option, ◌⊎◌, inl, inr}
use Rattle.std.specs.Global.{Box, Vec}
use Rattle.asn_growth.specs.Paths.{added_alternative_paths, added_field_paths, alternative_paths, field_paths, into_each, paths, under}
use Rattle.asn_model.specs.ShapeView.{added_field_views, alternative_step, alternative_views, field_step, field_views, kind_view, shape_step, shape_view}
use Rattle.asn_model.specs.Shape as spec
use Rattle.asn_model.specs.declared.shape_type.AlternativeShape.{AlternativeShape}
use Rattle.asn_model.specs.declared.shape_type.FieldShape.{FieldShape}
use Rattle.asn_model.specs.declared.shape_type.SeqKind.{SeqKind}
use Rattle.asn_model.specs.declared.shape_type.Shape.{Shape}
use Rattle.asn_model.specs.declared.shape_type.Shape.TheFolds.{fold-roll-Shape}
use Rattle.asn_model.specs.declared.shape_type.Shape.TheOpen as layer
use Rattle.asn_model.specs.declared.shape_type.Shape.TheVariants.{rolls-ListOf, rolls-SetOf, rolls-Table}
use Rattle.asn_model.specs.declared.shape_type.Shape.TheViews.{Choice, ListOf, Seq, SetOf, Table}
use Rattle.asn_model.proofs.Viewing.{added_alternative_views, choice_viewed, sequence_viewed}
use Rattle.asn_version_reports.specs.Valueless.{added_alternative_valueless, added_field_valueless, alternative_valueless, field_valueless, valueless_paths}

-- A list, set or table, by its element or entry.
element-seen : (x : Shape) (b : Box Shape) → (x ≡ ListOf b) ⊎ ((x ≡ SetOf b) ⊎ (x ≡ Table b)) → (P : spec.Shape → Type 0) → P (spec.Shape.list_of (shape_view b.value)) → P (spec.Shape.set_of (shape_view b.value)) → P (spec.Shape.table (shape_view b.value)) → P (shape_view x)
element-seen x b (inl e) P l s t =
    subst P (sym (ap shape_view (e ∙ sym (rolls-ListOf b)) ∙ fold-roll-Shape spec.Shape (spec.Alternatives → spec.Alternatives) (spec.Fields → spec.Fields) shape_step alternative_step field_step (layer.ListOf b))) l
element-seen x b (inr (inl e)) P l s t =
    subst P (sym (ap shape_view (e ∙ sym (rolls-SetOf b)) ∙ fold-roll-Shape spec.Shape (spec.Alternatives → spec.Alternatives) (spec.Fields → spec.Fields) shape_step alternative_step field_step (layer.SetOf b))) s
element-seen x b (inr (inr e)) P l s t =
    subst P (sym (ap shape_view (e ∙ sym (rolls-Table b)) ∙ fold-roll-Shape spec.Shape (spec.Alternatives → spec.Alternatives) (spec.Fields → spec.Fields) shape_step alternative_step field_step (layer.Table b))) t

pub element-paths : (x : Shape) (b : Box Shape) (part : Shape) → (x ≡ ListOf b) ⊎ ((x ≡ SetOf b) ⊎ (x ≡ Table b)) → part ≡ b.value → paths (shape_view x) ≡ [] ∷ under into_each (paths (shape_view part))
element-paths x b part is same = element-seen x b is (λ s. paths s ≡ [] ∷ under into_each (paths (shape_view b.value))) refl refl refl ∙ ap (λ p. [] ∷ under into_each (paths (shape_view p))) (sym same)

pub element-valueless : (x : Shape) (b : Box Shape) (part : Shape) → (x ≡ ListOf b) ⊎ ((x ≡ SetOf b) ⊎ (x ≡ Table b)) → part ≡ b.value → valueless_paths (shape_view x) ≡ under into_each (valueless_paths (shape_view part))
element-valueless x b part is same = element-seen x b is (λ s. valueless_paths s ≡ under into_each (valueless_paths (shape_view b.value))) refl refl refl ∙ ap (λ p. under into_each (valueless_paths (shape_view p))) (sym same)

-- A SEQUENCE or SET, by its fields.
module _ (x : Shape) (k : SeqKind) (fs : Vec FieldShape) (added : Option (Vec FieldShape)) (root : List FieldShape) (is : x ≡ Seq k fs added) (same : root ≡ fs.items) where
  seq-seen : shape_view x ≡ spec.Shape.seq (kind_view k) (field_views root) (added_field_views added)
  seq-seen = ap shape_view is ∙ sequence_viewed k fs added ∙ ap (λ l. spec.Shape.seq (kind_view k) (field_views l) (added_field_views added)) (sym same)

  pub seq-paths : paths (shape_view x) ≡ [] ∷ (field_paths (field_views root) ++ added_field_paths (added_field_views added))
  seq-paths = ap paths seq-seen

  pub seq-valueless : valueless_paths (shape_view x) ≡ field_valueless (field_views root) ++ added_field_valueless (added_field_views added)
  seq-valueless = ap valueless_paths seq-seen

-- A CHOICE, by its alternatives.
module _ (x : Shape) (alts : Vec AlternativeShape) (added : Option (Vec AlternativeShape)) (root : List AlternativeShape) (is : x ≡ Choice alts added) (same : root ≡ alts.items) where
  choice-seen : shape_view x ≡ spec.Shape.choice (alternative_views root) (added_alternative_views added)
  choice-seen = ap shape_view is ∙ choice_viewed alts added ∙ ap (λ l. spec.Shape.choice (alternative_views l) (added_alternative_views added)) (sym same)

  pub choice-paths : paths (shape_view x) ≡ [] ∷ (alternative_paths (alternative_views root) ++ added_alternative_paths (added_alternative_views added))
  choice-paths = ap paths choice-seen

  pub choice-valueless : valueless_paths (shape_view x) ≡ alternative_valueless (alternative_views root) ++ added_alternative_valueless (added_alternative_views added)
  choice-valueless = ap valueless_paths choice-seen
