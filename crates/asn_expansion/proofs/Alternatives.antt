-- What lists of components are expanded to, as alternatives.
use Rattle.std.proofs.Common.{◌≡◌, ◌≤◌, ◌<◌, ℕ, suc, ◌+◌, List, [], ◌∷◌, ◌++◌, map, Option, Some, None, option_map, refl, sym, ap, subst, ◌∙◌, get_or, drop, length, string_bytes, add-one, arith}
use Rattle.std.proofs.lemmas.List.{drop_all}
use Rattle.std.specs.Global.{Vec}
use Rattle.asn_core.specs.declared.tag.Tag.{Tag}
use Rattle.asn_growth.specs.Parts.{node_count, alternative_nodes, added_alternative_nodes}
use Rattle.asn_model.specs.Shape.{Shape, Alternatives, AlternativeAdditions, join_alternatives}
use Rattle.asn_model.specs.ShapeView.{shape_view, alternative_views}
use Rattle.asn_model.specs.declared.shape_type.AlternativeShape.{AlternativeShape}
use Rattle.asn_model.specs.declared.shape_type.Shape.TheViews as code
use Rattle.asn_model.proofs.Viewing.{added_alternative_views, choice_viewed}
use Rattle.asn_notation.specs.Notation.{choice, elements_of, marker}
use Rattle.asn_notation.specs.View.{component_view, components_view, marked, notation_view}
use Rattle.asn_notation.specs.declared.notation.Component.{Component}
use Rattle.asn_notation.specs.declared.notation.Components.{Components, out-Components}
use Rattle.asn_notation.proofs.Viewing.{components_out}
use Rattle.asn_expansion.specs.Expansion.{context_tag, notation_shape, of_both, added_alternatives, root_alternatives}
use Rattle.asn_expansion.specs.Large.{HasMore}
use Rattle.asn_expansion.specs.Resolving.{additions_view}
use Rattle.asn_module_text.proofs.Printing.{elements_seen}
use Rattle.asn_module_text.proofs.References.{drop_at}

join_none-alternatives : (fs : Alternatives) → join_alternatives fs Alternatives.no_alternatives ≡ fs
join_none-alternatives Alternatives.no_alternatives = refl
join_none-alternatives (Alternatives.alternative n t s fs) = ap (λ x. Alternatives.alternative n t s x) (join_none-alternatives fs)

join_nodes-alternatives : (fs gs : Alternatives) → alternative_nodes (join_alternatives fs gs) ≡ alternative_nodes fs + alternative_nodes gs
join_nodes-alternatives Alternatives.no_alternatives gs = omega arith
join_nodes-alternatives (Alternatives.alternative n t s fs) gs = omega (arith, join_nodes-alternatives fs gs)

pushed-alternatives : (fs : List AlternativeShape) (f : AlternativeShape) (gs : Alternatives) → join_alternatives (alternative_views (fs ++ f ∷ [])) gs ≡ join_alternatives (alternative_views fs) (Alternatives.alternative (string_bytes f.identifier) f.tag (shape_view f.shape) gs)
pushed-alternatives [] f gs = refl
pushed-alternatives (x ∷ fs) f gs = ap (λ y. Alternatives.alternative (string_bytes x.identifier) x.tag (shape_view x.shape) y) (pushed-alternatives fs f gs)

pushed_nodes-alternatives : (fs : List AlternativeShape) (f : AlternativeShape) → alternative_nodes (alternative_views (fs ++ f ∷ [])) ≡ alternative_nodes (alternative_views fs) + node_count (shape_view f.shape)
pushed_nodes-alternatives [] f = omega arith
pushed_nodes-alternatives (x ∷ fs) f = omega (arith, pushed_nodes-alternatives fs f)

-- What is made of a list's components so far, and what is left of them.
pub record AlternativesGoing (f : List ℕ → Option Shape) (first : ℕ) (cs : List Component) (i : ℕ) (made : List AlternativeShape) (tag left whole : ℕ) : Type 0 where
  pub shape : root_alternatives f first (elements_seen cs) ≡ option_map (λ gs. join_alternatives (alternative_views made) gs) (root_alternatives f tag (elements_seen (drop i cs)))
  pub nodes : alternative_nodes (alternative_views made) + left ≡ whole
  pub tags : tag ≡ first + i
  pub within : tag + left ≤ first + whole
  pub bound : i ≤ length cs

same-alternatives : (o : Option Alternatives) → o ≡ option_map (λ gs. join_alternatives Alternatives.no_alternatives gs) o
same-alternatives None = refl
same-alternatives (Some gs) = refl

pub alternatives_start : (f : List ℕ → Option Shape) (first : ℕ) (cs : List Component) (made : List AlternativeShape) (whole : ℕ) → made ≡ [] → AlternativesGoing f first cs 0 made first whole whole
alternatives_start f first cs made whole e = record {
  shape = same-alternatives (root_alternatives f first (elements_seen cs)) ∙ ap (λ fs. option_map (λ gs. join_alternatives (alternative_views fs) gs) (root_alternatives f first (elements_seen cs))) (sym e);
  nodes = omega (arith, ap (λ fs. alternative_nodes (alternative_views fs)) e);
  tags = omega arith;
  within = omega arith;
  bound = omega arith;
}

onward-alternatives : (made : List AlternativeShape) (x : AlternativeShape) (o : Option Alternatives) → option_map (λ gs. join_alternatives (alternative_views made) gs) (option_map (λ gs. Alternatives.alternative (string_bytes x.identifier) x.tag (shape_view x.shape) gs) o)
    ≡ option_map (λ gs. join_alternatives (alternative_views (made ++ x ∷ [])) gs) o
onward-alternatives made x None = refl
onward-alternatives made x (Some gs) = ap (λ y. Some y) (sym (pushed-alternatives made x gs))

pub alternatives_next : (f : List ℕ → Option Shape) (first : ℕ) (cs : List Component) (i : ℕ) (made new : List AlternativeShape) (tag next left less whole : ℕ) (c : Component) (x : AlternativeShape) → i < length cs → c ≡ get_or cs i c → AlternativesGoing f first cs i made tag left whole
    → notation_shape f (notation_view c.notation) ≡ Some (shape_view x.shape) → node_count (shape_view x.shape) + less ≡ left → less < left → string_bytes x.identifier ≡ string_bytes c.name → x.tag ≡ context_tag tag → next ≡ tag + 1 → new ≡ made ++ x ∷ []
    → AlternativesGoing f first cs (i + 1) new next less whole
alternatives_next f first cs i made new tag next left less whole c x h e going s n l name t k m =
    let rest = root_alternatives f next (elements_seen (drop (i + 1) cs)) in
    let alternative_of = λ (nm : List ℕ) (tg : Tag) (gs : Alternatives). Alternatives.alternative nm tg (shape_view x.shape) gs in
    record {
      shape = going.shape ∙ ap (λ o. option_map (λ gs. join_alternatives (alternative_views made) gs) o) (
          ap (λ l. root_alternatives f tag (elements_seen l)) (drop_at cs i c h e)
          ∙ ap (λ o. of_both (λ sh gs. Alternatives.alternative (string_bytes c.name) (context_tag tag) sh gs) o (root_alternatives f (suc tag) (elements_seen (drop (i + 1) cs)))) s
          ∙ ap (λ j. option_map (λ gs. Alternatives.alternative (string_bytes c.name) (context_tag tag) (shape_view x.shape) gs) (root_alternatives f j (elements_seen (drop (i + 1) cs)))) (sym (k ∙ add-one tag))
          ∙ ap (λ a. option_map (λ gs. alternative_of a (context_tag tag) gs) rest) (sym name)
          ∙ ap (λ a. option_map (λ gs. alternative_of (string_bytes x.identifier) a gs) rest) (sym t)
          ) ∙ onward-alternatives made x rest ∙ ap (λ fs. option_map (λ gs. join_alternatives (alternative_views fs) gs) rest) (sym m);
      nodes = omega (arith, going.nodes, n, pushed_nodes-alternatives made x, ap (λ fs. alternative_nodes (alternative_views fs)) m);
      tags = omega (arith, going.tags, k);
      within = omega (arith, going.within, k, l);
      bound = omega (arith, h);
    }

pub alternatives_end : (f : List ℕ → Option Shape) (first : ℕ) (cs : List Component) (i : ℕ) (made : List AlternativeShape) (tag left whole : ℕ) → length cs ≤ i → AlternativesGoing f first cs i made tag left whole → root_alternatives f first (elements_seen cs) ≡ Some (alternative_views made)
alternatives_end f first cs i made tag left whole h going =
    going.shape ∙ ap (λ l. option_map (λ gs. join_alternatives (alternative_views made) gs) (root_alternatives f tag (elements_seen l))) (drop_all i cs h) ∙ ap (λ y. Some y) (join_none-alternatives (alternative_views made))

large-alternatives : (made : Alternatives) (left whole : ℕ) (o : Option Shape) (rest : Option Alternatives) (name : List ℕ) (tag : Tag) → alternative_nodes made + left ≡ whole → HasMore node_count left o
    → HasMore alternative_nodes whole (option_map (λ gs. join_alternatives made gs) (of_both (λ s gs. Alternatives.alternative name tag s gs) o rest))
large-alternatives made left whole None rest name tag e h = tt
large-alternatives made left whole (Some s) None name tag e h = tt
large-alternatives made left whole (Some s) (Some gs) name tag e h = omega (arith, e, h, join_nodes-alternatives made (Alternatives.alternative name tag s gs))

pub alternatives_large : (f : List ℕ → Option Shape) (first : ℕ) (cs : List Component) (i : ℕ) (made : List AlternativeShape) (tag left whole : ℕ) (c : Component) → i < length cs → c ≡ get_or cs i c → AlternativesGoing f first cs i made tag left whole
    → HasMore node_count left (notation_shape f (notation_view c.notation)) → HasMore alternative_nodes whole (root_alternatives f first (elements_seen cs))
alternatives_large f first cs i made tag left whole c h e going large =
    subst (HasMore alternative_nodes whole) (sym (going.shape ∙ ap (λ l. option_map (λ gs. join_alternatives (alternative_views made) gs) (root_alternatives f tag (elements_seen l))) (drop_at cs i c h e)))
    (large-alternatives (alternative_views made) left whole (notation_shape f (notation_view c.notation)) (root_alternatives f (suc tag) (elements_seen (drop (i + 1) cs))) (string_bytes c.name) (context_tag tag) going.nodes large)

-- The extension marker ends the root.
rooted-alternatives : (f : List ℕ → Option Shape) (tag : ℕ) (cs : List Component) (added : Option (Vec Component)) → root_alternatives f tag (elements_of (map component_view cs ++ marked component_view marker added)) ≡ root_alternatives f tag (elements_seen cs)
rooted-alternatives f tag [] None = refl
rooted-alternatives f tag [] (Some added) = refl
rooted-alternatives f tag (c ∷ cs) added =
    ap (λ o. of_both (λ s gs. Alternatives.alternative (string_bytes c.name) (context_tag tag) s gs) (notation_shape f (notation_view c.notation)) o) (rooted-alternatives f (suc tag) cs added)

-- What stands from it on is numbered behind the root.
behind-alternatives : (f : List ℕ → Option Shape) (tag : ℕ) (cs : List Component) (added : Option (Vec Component)) → added_alternatives f tag (elements_of (map component_view cs ++ marked component_view marker added)) ≡ added_alternatives f (tag + length cs) (elements_of (marked component_view marker added))
behind-alternatives f tag [] added = ap (λ k. added_alternatives f k (elements_of (marked component_view marker added))) (omega arith)
behind-alternatives f tag (c ∷ cs) added = behind-alternatives f (suc tag) cs added ∙ ap (λ k. added_alternatives f k (elements_of (marked component_view marker added))) (omega arith)

-- The shape, by the alternatives of the root and the additions.
pub choice_parts : (f : List ℕ → Option Shape) (c : Components) (tag : ℕ) → tag ≡ length (out-Components c).root.items → notation_shape f (choice (elements_of (components_view c)))
    ≡ of_both (λ fs added. Shape.choice fs added) (root_alternatives f 0 (elements_seen (out-Components c).root.items)) (added_alternatives f tag (elements_of (marked component_view marker (out-Components c).added)))
choice_parts f c tag e =
    let root = (out-Components c).root.items in
    let added = (out-Components c).added in
    ap (λ es. of_both (λ fs ad. Shape.choice fs ad) (root_alternatives f 0 (elements_of es)) (added_alternatives f 0 (elements_of es))) (components_out c)
    ∙ ap (λ o. of_both (λ fs ad. Shape.choice fs ad) o (added_alternatives f 0 (elements_of (map component_view root ++ marked component_view marker added)))) (rooted-alternatives f 0 root added)
    ∙ ap (λ o. of_both (λ fs ad. Shape.choice fs ad) (root_alternatives f 0 (elements_seen root)) o) (behind-alternatives f 0 root added ∙ ap (λ k. added_alternatives f k (elements_of (marked component_view marker added))) (omega (arith, e)))

pub choice_large_root : (left : ℕ) (root : Option Alternatives) (added : Option AlternativeAdditions) → HasMore alternative_nodes left root → HasMore node_count (left + 1) (of_both (λ fs ad. Shape.choice fs ad) root added)
choice_large_root left None added h = tt
choice_large_root left (Some fs) None h = tt
choice_large_root left (Some fs) (Some ad) h = omega (arith, h)

pub choice_large_added : (left less : ℕ) (made : Alternatives) (added : Option AlternativeAdditions) → alternative_nodes made + less ≡ left → HasMore added_alternative_nodes less added → HasMore node_count (left + 1) (of_both (λ x ad. Shape.choice x ad) (Some made) added)
choice_large_added left less made None e h = tt
choice_large_added left less made (Some ad) e h = omega (arith, e, h)

-- Additions with too many nodes.
pub added_large-alternatives : (left : ℕ) (o : Option Alternatives) → HasMore alternative_nodes left o → HasMore added_alternative_nodes left (option_map (λ gs. AlternativeAdditions.extended_alternatives gs) o)
added_large-alternatives left None h = tt
added_large-alternatives left (Some gs) h = h

-- The additions of a CHOICE, and its shape by them.
same_additions : (added : Option (Vec AlternativeShape)) → added_alternative_views added ≡ additions_view added
same_additions None = refl
same_additions (Some alts) = refl

pub choice_made : (alts : Vec AlternativeShape) (added : Option (Vec AlternativeShape)) → shape_view (code.Choice alts added) ≡ Shape.choice (alternative_views alts.items) (additions_view added)
choice_made alts added = choice_viewed alts added ∙ ap (λ ad. Shape.choice (alternative_views alts.items) ad) (same_additions added)
