-- What the shapes are that an expansion makes.
use Rattle.std.proofs.Common.{◌≡◌, ap, sym, ◌∙◌, subst, arith, ℕ, ◌+◌, List, Option}
use Rattle.std.specs.Global.{Box, Vec}
use Rattle.asn_expansion.specs.Resolving.{additions_view}
use Rattle.asn_expansion.proofs.Alternatives.{choice_made}
use Rattle.asn_growth.specs.Parts.{added_alternative_nodes, added_field_nodes, alternative_nodes, field_nodes, node_count}
use Rattle.asn_linked_types.specs.expander.Large.{IsBeyond}
use Rattle.asn_linked_types.specs.expander.Loops.{added_alternative_loops, added_field_loops, alternative_loops, field_loops, loop_depth}
use Rattle.asn_linked_types.proofs.expander.Alternatives.{choice-beyond-added, choice-beyond-root}
use Rattle.asn_linked_types.proofs.expander.Fields.{seq-beyond-added, seq-beyond-root}
use Rattle.asn_linked_types.specs.Expansion.{linked_added_alternatives, linked_added_fields, linked_alternatives, linked_fields, linked_shape}
use Rattle.asn_model.specs.Shape.{Alternatives, Fields, Shape}
use Rattle.asn_model.specs.ShapeView.{added_field_views, alternative_step, alternative_views, field_step, field_views, kind_view, shape_step, shape_view}
use Rattle.asn_model.specs.declared.shape_type.AlternativeShape.{AlternativeShape}
use Rattle.asn_model.specs.declared.shape_type.FieldShape.{FieldShape}
use Rattle.asn_model.specs.declared.shape_type.SeqKind.{SeqKind}
use Rattle.asn_model.specs.declared.shape_type.Shape as code
use Rattle.asn_model.specs.declared.shape_type.Shape.TheFolds.{fold-roll-Shape}
use Rattle.asn_model.specs.declared.shape_type.Shape.TheOpen as layer
use Rattle.asn_model.specs.declared.shape_type.Shape.TheVariants.{Back, rolls-Back, rolls-Loop}
use Rattle.asn_model.specs.declared.shape_type.Shape.TheViews.{Choice, Loop, Seq}
use Rattle.asn_model.proofs.Viewing.{sequence_viewed}

pub back-seen : (place : ℕ) → shape_view (Back place) ≡ Shape.back place
back-seen place = ap shape_view (sym (rolls-Back place)) ∙ fold-roll-Shape Shape (Alternatives → Alternatives) (Fields → Fields) shape_step alternative_step field_step (layer.Back place)

pub loop-seen : (b : Box code.Shape) → shape_view (Loop b) ≡ Shape.loop (shape_view b.value)
loop-seen b = ap shape_view (sym (rolls-Loop b)) ∙ fold-roll-Shape Shape (Alternatives → Alternatives) (Fields → Fields) shape_step alternative_step field_step (layer.Loop b)

-- A SEQUENCE or SET, by its fields.
module _ (f : ℕ → Shape) (x : code.Shape) (kind : SeqKind) (fs : Vec FieldShape) (added : Option (Vec FieldShape)) (root : List FieldShape) (is : x ≡ Seq kind fs added) (same : root ≡ fs.items) where
  seq-linked : linked_shape f (shape_view x) ≡ Shape.seq (kind_view kind) (linked_fields f (field_views root)) (linked_added_fields f (added_field_views added))
  seq-linked =
      ap (linked_shape f) (ap shape_view is ∙ sequence_viewed kind fs added) ∙ ap (λ l. Shape.seq (kind_view kind) (linked_fields f (field_views l)) (linked_added_fields f (added_field_views added))) (sym same)

  -- It is made of its fields and extension additions.
  pub seq-made : (made : Vec FieldShape) (more : Option (Vec FieldShape)) → field_views made.items ≡ linked_fields f (field_views root) → added_field_views more ≡ linked_added_fields f (added_field_views added) → shape_view (Seq kind made more) ≡ linked_shape f (shape_view x)
  seq-made made more e a = sequence_viewed kind made more ∙ (λ i. Shape.seq (kind_view kind) (e i) (a i)) ∙ sym seq-linked

  pub seq-large-root : (old left loops : ℕ) → old ≡ left + 1 → IsBeyond field_nodes field_loops left loops (linked_fields f (field_views root)) → IsBeyond node_count loop_depth old loops (linked_shape f (shape_view x))
  seq-large-root old left loops e b =
      subst (λ n. IsBeyond node_count loop_depth n loops (linked_shape f (shape_view x))) (sym e)
      (subst (IsBeyond node_count loop_depth (left + 1) loops) (sym seq-linked) (seq-beyond-root (kind_view kind) left loops (linked_fields f (field_views root)) (linked_added_fields f (added_field_views added)) b))

  pub seq-large-added : (made : Fields) (old left less loops : ℕ) → old ≡ left + 1 → made ≡ linked_fields f (field_views root) → field_nodes made + less ≡ left → IsBeyond added_field_nodes added_field_loops less loops (linked_added_fields f (added_field_views added))
      → IsBeyond node_count loop_depth old loops (linked_shape f (shape_view x))
  seq-large-added made old left less loops e m n b =
      subst (λ k. IsBeyond node_count loop_depth k loops (linked_shape f (shape_view x))) (sym e)
      (subst (IsBeyond node_count loop_depth (left + 1) loops) (sym seq-linked)
      (seq-beyond-added (kind_view kind) left less loops (linked_fields f (field_views root)) (linked_added_fields f (added_field_views added)) (omega (arith, n, ap field_nodes m)) b))

-- A CHOICE, by its alternatives.
module _ (f : ℕ → Shape) (x : code.Shape) (alts : Vec AlternativeShape) (added : Option (Vec AlternativeShape)) (root : List AlternativeShape) (is : x ≡ Choice alts added) (same : root ≡ alts.items) where
  choice-linked : linked_shape f (shape_view x) ≡ Shape.choice (linked_alternatives f (alternative_views root)) (linked_added_alternatives f (additions_view added))
  choice-linked =
      ap (linked_shape f) (ap shape_view is ∙ choice_made alts added) ∙ ap (λ l. Shape.choice (linked_alternatives f (alternative_views l)) (linked_added_alternatives f (additions_view added))) (sym same)

  -- It is made of its alternatives and extension additions.
  pub choice-made : (made : Vec AlternativeShape) (more : Option (Vec AlternativeShape)) → alternative_views made.items ≡ linked_alternatives f (alternative_views root) → additions_view more ≡ linked_added_alternatives f (additions_view added)
      → shape_view (Choice made more) ≡ linked_shape f (shape_view x)
  choice-made made more e a = choice_made made more ∙ (λ i. Shape.choice (e i) (a i)) ∙ sym choice-linked

  pub choice-large-root : (old left loops : ℕ) → old ≡ left + 1 → IsBeyond alternative_nodes alternative_loops left loops (linked_alternatives f (alternative_views root)) → IsBeyond node_count loop_depth old loops (linked_shape f (shape_view x))
  choice-large-root old left loops e b =
      subst (λ n. IsBeyond node_count loop_depth n loops (linked_shape f (shape_view x))) (sym e)
      (subst (IsBeyond node_count loop_depth (left + 1) loops) (sym choice-linked) (choice-beyond-root left loops (linked_alternatives f (alternative_views root)) (linked_added_alternatives f (additions_view added)) b))

  pub choice-large-added : (made : Alternatives) (old left less loops : ℕ) → old ≡ left + 1 → made ≡ linked_alternatives f (alternative_views root) → alternative_nodes made + less ≡ left
      → IsBeyond added_alternative_nodes added_alternative_loops less loops (linked_added_alternatives f (additions_view added)) → IsBeyond node_count loop_depth old loops (linked_shape f (shape_view x))
  choice-large-added made old left less loops e m n b =
      subst (λ k. IsBeyond node_count loop_depth k loops (linked_shape f (shape_view x))) (sym e)
      (subst (IsBeyond node_count loop_depth (left + 1) loops) (sym choice-linked)
      (choice-beyond-added left less loops (linked_alternatives f (alternative_views root)) (linked_added_alternatives f (additions_view added)) (omega (arith, n, ap alternative_nodes m)) b))
