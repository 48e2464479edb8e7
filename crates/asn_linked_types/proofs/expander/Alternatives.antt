-- Alternatives that are expanded one by one.
use Rattle.std.proofs.Common.{◌≡◌, ◌<◌, ◌≤◌, ◌+◌, refl, sym, ap, subst, ◌∙◌, arith, ℕ, max, List, [], ◌∷◌, ◌++◌, drop, get_or, length, string_bytes, inl, inr}
use Rattle.std.proofs.lemmas.List.{drop_all}
use Rattle.asn_core.specs.declared.tag.Tag.{Tag}
use Rattle.asn_growth.specs.Parts.{added_alternative_nodes, alternative_nodes, node_count}
use Rattle.asn_growth.proofs.Steps.{drop-step}
use Rattle.asn_linked_types.specs.expander.Large.{IsBeyond}
use Rattle.asn_linked_types.specs.expander.Loops.{added_alternative_loops, alternative_loops, loop_depth}
use Rattle.asn_linked_types.specs.Expansion.{linked_alternatives, linked_shape}
use Rattle.asn_model.specs.Shape.{AlternativeAdditions, Alternatives, Shape, join_alternatives}
use Rattle.asn_model.specs.ShapeView.{alternative_views, shape_view}
use Rattle.asn_model.specs.declared.shape_type.AlternativeShape.{AlternativeShape}

joined-none : (alts : Alternatives) → join_alternatives alts Alternatives.no_alternatives ≡ alts
joined-none Alternatives.no_alternatives = refl
joined-none (Alternatives.alternative n t s alts) = ap (λ x. Alternatives.alternative n t s x) (joined-none alts)

joined-nodes : (alts bs : Alternatives) → alternative_nodes (join_alternatives alts bs) ≡ alternative_nodes alts + alternative_nodes bs
joined-nodes Alternatives.no_alternatives bs = omega arith
joined-nodes (Alternatives.alternative n t s alts) bs = omega (arith, joined-nodes alts bs)

joined-loops : (alts bs : Alternatives) → alternative_loops (join_alternatives alts bs) ≡ max (alternative_loops alts) (alternative_loops bs)
joined-loops Alternatives.no_alternatives bs = omega arith
joined-loops (Alternatives.alternative n t s alts) bs = omega (arith, joined-loops alts bs)

joined-push : (alts : List AlternativeShape) (x : AlternativeShape) (bs : Alternatives) → join_alternatives (alternative_views (alts ++ x ∷ [])) bs ≡ join_alternatives (alternative_views alts) (Alternatives.alternative (string_bytes x.identifier) x.tag (shape_view x.shape) bs)
joined-push [] x bs = refl
joined-push (f ∷ alts) x bs = ap (λ y. Alternatives.alternative (string_bytes f.identifier) f.tag (shape_view f.shape) y) (joined-push alts x bs)

pushed-nodes : (alts : List AlternativeShape) (x : AlternativeShape) → alternative_nodes (alternative_views (alts ++ x ∷ [])) ≡ alternative_nodes (alternative_views alts) + node_count (shape_view x.shape)
pushed-nodes [] x = omega arith
pushed-nodes (f ∷ alts) x = omega (arith, pushed-nodes alts x)

-- What is made of alternatives so far, and how many nodes are left of them.
pub record AlternativesGoing (f : ℕ → Shape) (alts : List AlternativeShape) (i : ℕ) (made : List AlternativeShape) (left whole : ℕ) : Type 0 where
  pub shape : linked_alternatives f (alternative_views alts) ≡ join_alternatives (alternative_views made) (linked_alternatives f (alternative_views (drop i alts)))
  pub nodes : alternative_nodes (alternative_views made) + left ≡ whole

pub alternatives-start : (f : ℕ → Shape) (alts made : List AlternativeShape) (whole : ℕ) → made ≡ [] → AlternativesGoing f alts 0 made whole whole
alternatives-start f alts made whole e = record { shape = ap (λ l. join_alternatives (alternative_views l) (linked_alternatives f (alternative_views alts))) (sym e); nodes = omega (arith, ap (λ l. alternative_nodes (alternative_views l)) e) }

at-alternative : (f : ℕ → Shape) (alts : List AlternativeShape) (i : ℕ) (x : AlternativeShape) → i < length alts → x ≡ get_or alts i x
    → linked_alternatives f (alternative_views (drop i alts)) ≡ Alternatives.alternative (string_bytes x.identifier) x.tag (linked_shape f (shape_view x.shape)) (linked_alternatives f (alternative_views (drop (i + 1) alts)))
at-alternative f alts i x h e = ap (λ l. linked_alternatives f (alternative_views l)) (drop-step alts i x h ∙ ap (λ y. y ∷ drop (i + 1) alts) (sym e))

-- One more alternative.
pub alternatives-next : (f : ℕ → Shape) (alts : List AlternativeShape) (i : ℕ) (made new : List AlternativeShape) (left less whole : ℕ) (x m : AlternativeShape) → i < length alts → x ≡ get_or alts i x → AlternativesGoing f alts i made left whole
    → string_bytes m.identifier ≡ string_bytes x.identifier → m.tag ≡ x.tag → shape_view m.shape ≡ linked_shape f (shape_view x.shape) → node_count (shape_view m.shape) + less ≡ left → new ≡ made ++ m ∷ []
    → AlternativesGoing f alts (i + 1) new less whole
alternatives-next f alts i made new left less whole x m h e going name tag shape taken pushed =
    let rest = linked_alternatives f (alternative_views (drop (i + 1) alts)) in
    record {
      shape = going.shape ∙ ap (join_alternatives (alternative_views made)) (at-alternative f alts i x h e ∙ (λ j. Alternatives.alternative (sym name j) (sym tag j) (sym shape j) rest)) ∙ sym (joined-push made m rest) ∙ ap (λ l. join_alternatives (alternative_views l) rest) (sym pushed);
      nodes = omega (arith, going.nodes, taken, pushed-nodes made m, ap (λ l. alternative_nodes (alternative_views l)) pushed);
    }

-- All alternatives.
pub alternatives-end : (f : ℕ → Shape) (alts : List AlternativeShape) (i : ℕ) (made : List AlternativeShape) (left whole : ℕ) → length alts ≤ i → AlternativesGoing f alts i made left whole → alternative_views made ≡ linked_alternatives f (alternative_views alts)
alternatives-end f alts i made left whole h going = sym (going.shape ∙ ap (λ l. join_alternatives (alternative_views made) (linked_alternatives f (alternative_views l))) (drop_all i alts h) ∙ joined-none (alternative_views made))

joined-beyond : (made rest : Alternatives) (n : List ℕ) (t : Tag) (s : Shape) (left whole loops : ℕ) → alternative_nodes made + left ≡ whole → IsBeyond node_count loop_depth left loops s → IsBeyond alternative_nodes alternative_loops whole loops (join_alternatives made (Alternatives.alternative n t s rest))
joined-beyond made rest n t s left whole loops e (inl h) = inl (omega (arith, e, h, joined-nodes made (Alternatives.alternative n t s rest)))
joined-beyond made rest n t s left whole loops e (inr h) = inr (omega (arith, h, joined-loops made (Alternatives.alternative n t s rest)))

-- Where an alternative is beyond what is left, they all are beyond what was.
pub alternatives-beyond : (f : ℕ → Shape) (alts : List AlternativeShape) (i : ℕ) (made : List AlternativeShape) (left whole loops : ℕ) (x : AlternativeShape) → i < length alts → x ≡ get_or alts i x → AlternativesGoing f alts i made left whole
    → IsBeyond node_count loop_depth left loops (linked_shape f (shape_view x.shape)) → IsBeyond alternative_nodes alternative_loops whole loops (linked_alternatives f (alternative_views alts))
alternatives-beyond f alts i made left whole loops x h e going b =
    subst (IsBeyond alternative_nodes alternative_loops whole loops) (sym (going.shape ∙ ap (join_alternatives (alternative_views made)) (at-alternative f alts i x h e)))
    (joined-beyond (alternative_views made) (linked_alternatives f (alternative_views (drop (i + 1) alts))) (string_bytes x.identifier) x.tag (linked_shape f (shape_view x.shape)) left whole loops going.nodes b)

-- A CHOICE is beyond what is left where its alternatives are, or its extension additions behind them.
pub choice-beyond-root : (left loops : ℕ) (alts : Alternatives) (added : AlternativeAdditions) → IsBeyond alternative_nodes alternative_loops left loops alts → IsBeyond node_count loop_depth (left + 1) loops (Shape.choice alts added)
choice-beyond-root left loops alts added (inl n) = inl (omega (arith, n))
choice-beyond-root left loops alts added (inr n) = inr (omega (arith, n))

pub choice-beyond-added : (left less loops : ℕ) (alts : Alternatives) (added : AlternativeAdditions) → alternative_nodes alts + less ≡ left → IsBeyond added_alternative_nodes added_alternative_loops less loops added → IsBeyond node_count loop_depth (left + 1) loops (Shape.choice alts added)
choice-beyond-added left less loops alts added e (inl n) = inl (omega (arith, e, n))
choice-beyond-added left less loops alts added e (inr n) = inr (omega (arith, n))
