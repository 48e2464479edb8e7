-- Fields that are expanded one by one.
use Rattle.std.proofs.Common.{◌≡◌, ◌<◌, ◌≤◌, ◌+◌, refl, sym, ap, subst, ◌∙◌, arith, ℕ, max, List, [], ◌∷◌, ◌++◌, drop, get_or, length, string_bytes, inl, inr}
use Rattle.std.proofs.lemmas.List.{drop_all}
use Rattle.asn_core.specs.declared.tag.Tag.{Tag}
use Rattle.asn_growth.specs.Parts.{added_field_nodes, field_nodes, node_count}
use Rattle.asn_growth.proofs.Steps.{drop-step}
use Rattle.asn_linked_types.specs.expander.Large.{IsBeyond}
use Rattle.asn_linked_types.specs.expander.Loops.{added_field_loops, field_loops, loop_depth}
use Rattle.asn_linked_types.specs.Expansion.{linked_fields, linked_shape}
use Rattle.asn_model.specs.Shape.{FieldAdditions, Fields, Presence, SeqKind, Shape, join_fields}
use Rattle.asn_model.specs.ShapeView.{field_views, presence_view, shape_view}
use Rattle.asn_model.specs.declared.shape_type.FieldShape.{FieldShape}

joined-none : (fs : Fields) → join_fields fs Fields.no_fields ≡ fs
joined-none Fields.no_fields = refl
joined-none (Fields.field n t p s fs) = ap (λ x. Fields.field n t p s x) (joined-none fs)

joined-nodes : (fs gs : Fields) → field_nodes (join_fields fs gs) ≡ field_nodes fs + field_nodes gs
joined-nodes Fields.no_fields gs = omega arith
joined-nodes (Fields.field n t p s fs) gs = omega (arith, joined-nodes fs gs)

joined-loops : (fs gs : Fields) → field_loops (join_fields fs gs) ≡ max (field_loops fs) (field_loops gs)
joined-loops Fields.no_fields gs = omega arith
joined-loops (Fields.field n t p s fs) gs = omega (arith, joined-loops fs gs)

joined-push : (fs : List FieldShape) (x : FieldShape) (gs : Fields) → join_fields (field_views (fs ++ x ∷ [])) gs ≡ join_fields (field_views fs) (Fields.field (string_bytes x.name) x.tag (presence_view x.presence) (shape_view x.shape) gs)
joined-push [] x gs = refl
joined-push (f ∷ fs) x gs = ap (λ y. Fields.field (string_bytes f.name) f.tag (presence_view f.presence) (shape_view f.shape) y) (joined-push fs x gs)

pushed-nodes : (fs : List FieldShape) (x : FieldShape) → field_nodes (field_views (fs ++ x ∷ [])) ≡ field_nodes (field_views fs) + node_count (shape_view x.shape)
pushed-nodes [] x = omega arith
pushed-nodes (f ∷ fs) x = omega (arith, pushed-nodes fs x)

-- What is made of fields so far, and how many nodes are left of them.
pub record FieldsGoing (f : ℕ → Shape) (fs : List FieldShape) (i : ℕ) (made : List FieldShape) (left whole : ℕ) : Type 0 where
  pub shape : linked_fields f (field_views fs) ≡ join_fields (field_views made) (linked_fields f (field_views (drop i fs)))
  pub nodes : field_nodes (field_views made) + left ≡ whole

pub fields-start : (f : ℕ → Shape) (fs made : List FieldShape) (whole : ℕ) → made ≡ [] → FieldsGoing f fs 0 made whole whole
fields-start f fs made whole e = record { shape = ap (λ l. join_fields (field_views l) (linked_fields f (field_views fs))) (sym e); nodes = omega (arith, ap (λ l. field_nodes (field_views l)) e) }

at-field : (f : ℕ → Shape) (fs : List FieldShape) (i : ℕ) (x : FieldShape) → i < length fs → x ≡ get_or fs i x
    → linked_fields f (field_views (drop i fs)) ≡ Fields.field (string_bytes x.name) x.tag (presence_view x.presence) (linked_shape f (shape_view x.shape)) (linked_fields f (field_views (drop (i + 1) fs)))
at-field f fs i x h e = ap (λ l. linked_fields f (field_views l)) (drop-step fs i x h ∙ ap (λ y. y ∷ drop (i + 1) fs) (sym e))

-- One more field.
pub fields-next : (f : ℕ → Shape) (fs : List FieldShape) (i : ℕ) (made new : List FieldShape) (left less whole : ℕ) (x m : FieldShape) → i < length fs → x ≡ get_or fs i x → FieldsGoing f fs i made left whole
    → string_bytes m.name ≡ string_bytes x.name → m.tag ≡ x.tag → presence_view m.presence ≡ presence_view x.presence → shape_view m.shape ≡ linked_shape f (shape_view x.shape) → node_count (shape_view m.shape) + less ≡ left → new ≡ made ++ m ∷ []
    → FieldsGoing f fs (i + 1) new less whole
fields-next f fs i made new left less whole x m h e going name tag presence shape taken pushed =
    let rest = linked_fields f (field_views (drop (i + 1) fs)) in
    record {
      shape = going.shape ∙ ap (join_fields (field_views made)) (at-field f fs i x h e ∙ (λ j. Fields.field (sym name j) (sym tag j) (sym presence j) (sym shape j) rest)) ∙ sym (joined-push made m rest) ∙ ap (λ l. join_fields (field_views l) rest) (sym pushed);
      nodes = omega (arith, going.nodes, taken, pushed-nodes made m, ap (λ l. field_nodes (field_views l)) pushed);
    }

-- All fields.
pub fields-end : (f : ℕ → Shape) (fs : List FieldShape) (i : ℕ) (made : List FieldShape) (left whole : ℕ) → length fs ≤ i → FieldsGoing f fs i made left whole → field_views made ≡ linked_fields f (field_views fs)
fields-end f fs i made left whole h going = sym (going.shape ∙ ap (λ l. join_fields (field_views made) (linked_fields f (field_views l))) (drop_all i fs h) ∙ joined-none (field_views made))

joined-beyond : (made rest : Fields) (n : List ℕ) (t : Tag) (p : Presence) (s : Shape) (left whole loops : ℕ) → field_nodes made + left ≡ whole → IsBeyond node_count loop_depth left loops s → IsBeyond field_nodes field_loops whole loops (join_fields made (Fields.field n t p s rest))
joined-beyond made rest n t p s left whole loops e (inl h) = inl (omega (arith, e, h, joined-nodes made (Fields.field n t p s rest)))
joined-beyond made rest n t p s left whole loops e (inr h) = inr (omega (arith, h, joined-loops made (Fields.field n t p s rest)))

-- Where a field is beyond what is left, they all are beyond what was.
pub fields-beyond : (f : ℕ → Shape) (fs : List FieldShape) (i : ℕ) (made : List FieldShape) (left whole loops : ℕ) (x : FieldShape) → i < length fs → x ≡ get_or fs i x → FieldsGoing f fs i made left whole → IsBeyond node_count loop_depth left loops (linked_shape f (shape_view x.shape))
    → IsBeyond field_nodes field_loops whole loops (linked_fields f (field_views fs))
fields-beyond f fs i made left whole loops x h e going b =
    subst (IsBeyond field_nodes field_loops whole loops) (sym (going.shape ∙ ap (join_fields (field_views made)) (at-field f fs i x h e)))
    (joined-beyond (field_views made) (linked_fields f (field_views (drop (i + 1) fs))) (string_bytes x.name) x.tag (presence_view x.presence) (linked_shape f (shape_view x.shape)) left whole loops going.nodes b)

-- A SEQUENCE or SET is beyond what is left where its fields are, or its extension additions behind them.
pub seq-beyond-root : (kind : SeqKind) (left loops : ℕ) (fs : Fields) (added : FieldAdditions) → IsBeyond field_nodes field_loops left loops fs → IsBeyond node_count loop_depth (left + 1) loops (Shape.seq kind fs added)
seq-beyond-root kind left loops fs added (inl n) = inl (omega (arith, n))
seq-beyond-root kind left loops fs added (inr n) = inr (omega (arith, n))

pub seq-beyond-added : (kind : SeqKind) (left less loops : ℕ) (fs : Fields) (added : FieldAdditions) → field_nodes fs + less ≡ left → IsBeyond added_field_nodes added_field_loops less loops added → IsBeyond node_count loop_depth (left + 1) loops (Shape.seq kind fs added)
seq-beyond-added kind left less loops fs added e (inl n) = inl (omega (arith, e, n))
seq-beyond-added kind left less loops fs added e (inr n) = inr (omega (arith, n))
