-- What lists of components are expanded to, as fields.
use Rattle.std.proofs.Common.{◌≡◌, ◌≤◌, ◌<◌, ℕ, suc, ◌+◌, List, [], ◌∷◌, ◌++◌, map, Option, Some, None, option_map, refl, sym, ap, subst, ◌∙◌, get_or, drop, length, string_bytes, add-one, arith}
use Rattle.std.proofs.lemmas.List.{drop_all}
use Rattle.std.specs.Global.{Vec}
use Rattle.asn_core.specs.declared.tag.Tag.{Tag}
use Rattle.asn_growth.specs.Parts.{node_count, field_nodes, added_field_nodes}
use Rattle.asn_model.specs.Shape.{Shape, SeqKind, Fields, FieldAdditions, Presence, join_fields}
use Rattle.asn_model.specs.ShapeView.{shape_view, field_views, presence_view}
use Rattle.asn_model.specs.declared.shape_type.FieldShape.{FieldShape}
use Rattle.asn_notation.specs.Notation.{members, elements_of, marker}
use Rattle.asn_notation.specs.View.{component_view, components_view, marked, notation_view}
use Rattle.asn_notation.specs.declared.notation.Component.{Component}
use Rattle.asn_notation.specs.declared.notation.Components.{Components, out-Components}
use Rattle.asn_notation.proofs.Viewing.{components_out}
use Rattle.asn_expansion.specs.Expansion.{context_tag, notation_shape, of_both, added_fields, presence_of, root_fields}
use Rattle.asn_expansion.specs.Large.{HasMore}
use Rattle.asn_module_text.proofs.Printing.{elements_seen}
use Rattle.asn_module_text.proofs.References.{drop_at}

join_none-fields : (fs : Fields) → join_fields fs Fields.no_fields ≡ fs
join_none-fields Fields.no_fields = refl
join_none-fields (Fields.field n t p s fs) = ap (λ x. Fields.field n t p s x) (join_none-fields fs)

join_nodes-fields : (fs gs : Fields) → field_nodes (join_fields fs gs) ≡ field_nodes fs + field_nodes gs
join_nodes-fields Fields.no_fields gs = omega arith
join_nodes-fields (Fields.field n t p s fs) gs = omega (arith, join_nodes-fields fs gs)

pushed-fields : (fs : List FieldShape) (f : FieldShape) (gs : Fields) → join_fields (field_views (fs ++ f ∷ [])) gs ≡ join_fields (field_views fs) (Fields.field (string_bytes f.name) f.tag (presence_view f.presence) (shape_view f.shape) gs)
pushed-fields [] f gs = refl
pushed-fields (x ∷ fs) f gs = ap (λ y. Fields.field (string_bytes x.name) x.tag (presence_view x.presence) (shape_view x.shape) y) (pushed-fields fs f gs)

pushed_nodes-fields : (fs : List FieldShape) (f : FieldShape) → field_nodes (field_views (fs ++ f ∷ [])) ≡ field_nodes (field_views fs) + node_count (shape_view f.shape)
pushed_nodes-fields [] f = omega arith
pushed_nodes-fields (x ∷ fs) f = omega (arith, pushed_nodes-fields fs f)

-- What is made of a list's components so far, and what is left of them.
pub record FieldsGoing (f : List ℕ → Option Shape) (first : ℕ) (cs : List Component) (i : ℕ) (made : List FieldShape) (tag left whole : ℕ) : Type 0 where
  pub shape : root_fields f first (elements_seen cs) ≡ option_map (λ gs. join_fields (field_views made) gs) (root_fields f tag (elements_seen (drop i cs)))
  pub nodes : field_nodes (field_views made) + left ≡ whole
  pub tags : tag ≡ first + i
  pub within : tag + left ≤ first + whole
  pub bound : i ≤ length cs

same-fields : (o : Option Fields) → o ≡ option_map (λ gs. join_fields Fields.no_fields gs) o
same-fields None = refl
same-fields (Some gs) = refl

pub fields_start : (f : List ℕ → Option Shape) (first : ℕ) (cs : List Component) (made : List FieldShape) (whole : ℕ) → made ≡ [] → FieldsGoing f first cs 0 made first whole whole
fields_start f first cs made whole e = record {
  shape = same-fields (root_fields f first (elements_seen cs)) ∙ ap (λ fs. option_map (λ gs. join_fields (field_views fs) gs) (root_fields f first (elements_seen cs))) (sym e);
  nodes = omega (arith, ap (λ fs. field_nodes (field_views fs)) e);
  tags = omega arith;
  within = omega arith;
  bound = omega arith;
}

onward-fields : (made : List FieldShape) (x : FieldShape) (o : Option Fields) → option_map (λ gs. join_fields (field_views made) gs) (option_map (λ gs. Fields.field (string_bytes x.name) x.tag (presence_view x.presence) (shape_view x.shape) gs) o)
    ≡ option_map (λ gs. join_fields (field_views (made ++ x ∷ [])) gs) o
onward-fields made x None = refl
onward-fields made x (Some gs) = ap (λ y. Some y) (sym (pushed-fields made x gs))

pub fields_next : (f : List ℕ → Option Shape) (first : ℕ) (cs : List Component) (i : ℕ) (made new : List FieldShape) (tag next left less whole : ℕ) (c : Component) (x : FieldShape) → i < length cs → c ≡ get_or cs i c → FieldsGoing f first cs i made tag left whole
    → notation_shape f (notation_view c.notation) ≡ Some (shape_view x.shape) → node_count (shape_view x.shape) + less ≡ left → less < left → string_bytes x.name ≡ string_bytes c.name → x.tag ≡ context_tag tag → presence_view x.presence ≡ presence_of c.optional → next ≡ tag + 1 → new ≡ made ++ x ∷ []
    → FieldsGoing f first cs (i + 1) new next less whole
fields_next f first cs i made new tag next left less whole c x h e going s n l name t p k m =
    let rest = root_fields f next (elements_seen (drop (i + 1) cs)) in
    let field_of = λ (nm : List ℕ) (tg : Tag) (pr : Presence) (gs : Fields). Fields.field nm tg pr (shape_view x.shape) gs in
    record {
      shape = going.shape ∙ ap (λ o. option_map (λ gs. join_fields (field_views made) gs) o) (
          ap (λ l. root_fields f tag (elements_seen l)) (drop_at cs i c h e)
          ∙ ap (λ o. of_both (λ sh gs. Fields.field (string_bytes c.name) (context_tag tag) (presence_of c.optional) sh gs) o (root_fields f (suc tag) (elements_seen (drop (i + 1) cs)))) s
          ∙ ap (λ j. option_map (λ gs. Fields.field (string_bytes c.name) (context_tag tag) (presence_of c.optional) (shape_view x.shape) gs) (root_fields f j (elements_seen (drop (i + 1) cs)))) (sym (k ∙ add-one tag))
          ∙ ap (λ a. option_map (λ gs. field_of a (context_tag tag) (presence_of c.optional) gs) rest) (sym name)
          ∙ ap (λ a. option_map (λ gs. field_of (string_bytes x.name) a (presence_of c.optional) gs) rest) (sym t)
          ∙ ap (λ a. option_map (λ gs. field_of (string_bytes x.name) x.tag a gs) rest) (sym p)
          ) ∙ onward-fields made x rest ∙ ap (λ fs. option_map (λ gs. join_fields (field_views fs) gs) rest) (sym m);
      nodes = omega (arith, going.nodes, n, pushed_nodes-fields made x, ap (λ fs. field_nodes (field_views fs)) m);
      tags = omega (arith, going.tags, k);
      within = omega (arith, going.within, k, l);
      bound = omega (arith, h);
    }

pub fields_end : (f : List ℕ → Option Shape) (first : ℕ) (cs : List Component) (i : ℕ) (made : List FieldShape) (tag left whole : ℕ) → length cs ≤ i → FieldsGoing f first cs i made tag left whole → root_fields f first (elements_seen cs) ≡ Some (field_views made)
fields_end f first cs i made tag left whole h going =
    going.shape ∙ ap (λ l. option_map (λ gs. join_fields (field_views made) gs) (root_fields f tag (elements_seen l))) (drop_all i cs h) ∙ ap (λ y. Some y) (join_none-fields (field_views made))

large-fields : (made : Fields) (left whole : ℕ) (o : Option Shape) (rest : Option Fields) (name : List ℕ) (tag : Tag) (p : Presence) → field_nodes made + left ≡ whole → HasMore node_count left o
    → HasMore field_nodes whole (option_map (λ gs. join_fields made gs) (of_both (λ s gs. Fields.field name tag p s gs) o rest))
large-fields made left whole None rest name tag p e h = tt
large-fields made left whole (Some s) None name tag p e h = tt
large-fields made left whole (Some s) (Some gs) name tag p e h = omega (arith, e, h, join_nodes-fields made (Fields.field name tag p s gs))

pub fields_large : (f : List ℕ → Option Shape) (first : ℕ) (cs : List Component) (i : ℕ) (made : List FieldShape) (tag left whole : ℕ) (c : Component) → i < length cs → c ≡ get_or cs i c → FieldsGoing f first cs i made tag left whole
    → HasMore node_count left (notation_shape f (notation_view c.notation)) → HasMore field_nodes whole (root_fields f first (elements_seen cs))
fields_large f first cs i made tag left whole c h e going large =
    subst (HasMore field_nodes whole) (sym (going.shape ∙ ap (λ l. option_map (λ gs. join_fields (field_views made) gs) (root_fields f tag (elements_seen l))) (drop_at cs i c h e)))
    (large-fields (field_views made) left whole (notation_shape f (notation_view c.notation)) (root_fields f (suc tag) (elements_seen (drop (i + 1) cs))) (string_bytes c.name) (context_tag tag) (presence_of c.optional) going.nodes large)

-- The extension marker ends the root.
rooted-fields : (f : List ℕ → Option Shape) (tag : ℕ) (cs : List Component) (added : Option (Vec Component)) → root_fields f tag (elements_of (map component_view cs ++ marked component_view marker added)) ≡ root_fields f tag (elements_seen cs)
rooted-fields f tag [] None = refl
rooted-fields f tag [] (Some added) = refl
rooted-fields f tag (c ∷ cs) added =
    ap (λ o. of_both (λ s gs. Fields.field (string_bytes c.name) (context_tag tag) (presence_of c.optional) s gs) (notation_shape f (notation_view c.notation)) o) (rooted-fields f (suc tag) cs added)

-- What stands from it on is numbered behind the root.
behind-fields : (f : List ℕ → Option Shape) (tag : ℕ) (cs : List Component) (added : Option (Vec Component)) → added_fields f tag (elements_of (map component_view cs ++ marked component_view marker added)) ≡ added_fields f (tag + length cs) (elements_of (marked component_view marker added))
behind-fields f tag [] added = ap (λ k. added_fields f k (elements_of (marked component_view marker added))) (omega arith)
behind-fields f tag (c ∷ cs) added = behind-fields f (suc tag) cs added ∙ ap (λ k. added_fields f k (elements_of (marked component_view marker added))) (omega arith)

-- The shape, by the fields of the root and the additions.
pub members_parts : (f : List ℕ → Option Shape) (kind : SeqKind) (c : Components) (tag : ℕ) → tag ≡ length (out-Components c).root.items → notation_shape f (members kind (elements_of (components_view c)))
    ≡ of_both (λ fs added. Shape.seq kind fs added) (root_fields f 0 (elements_seen (out-Components c).root.items)) (added_fields f tag (elements_of (marked component_view marker (out-Components c).added)))
members_parts f kind c tag e =
    let root = (out-Components c).root.items in
    let added = (out-Components c).added in
    ap (λ es. of_both (λ fs ad. Shape.seq kind fs ad) (root_fields f 0 (elements_of es)) (added_fields f 0 (elements_of es))) (components_out c)
    ∙ ap (λ o. of_both (λ fs ad. Shape.seq kind fs ad) o (added_fields f 0 (elements_of (map component_view root ++ marked component_view marker added)))) (rooted-fields f 0 root added)
    ∙ ap (λ o. of_both (λ fs ad. Shape.seq kind fs ad) (root_fields f 0 (elements_seen root)) o) (behind-fields f 0 root added ∙ ap (λ k. added_fields f k (elements_of (marked component_view marker added))) (omega (arith, e)))

pub members_large_root : (kind : SeqKind) (left : ℕ) (root : Option Fields) (added : Option FieldAdditions) → HasMore field_nodes left root → HasMore node_count (left + 1) (of_both (λ fs ad. Shape.seq kind fs ad) root added)
members_large_root kind left None added h = tt
members_large_root kind left (Some fs) None h = tt
members_large_root kind left (Some fs) (Some ad) h = omega (arith, h)

pub members_large_added : (kind : SeqKind) (left less : ℕ) (made : Fields) (added : Option FieldAdditions) → field_nodes made + less ≡ left → HasMore added_field_nodes less added → HasMore node_count (left + 1) (of_both (λ x ad. Shape.seq kind x ad) (Some made) added)
members_large_added kind left less made None e h = tt
members_large_added kind left less made (Some ad) e h = omega (arith, e, h)

-- Additions with too many nodes.
pub added_large-fields : (left : ℕ) (o : Option Fields) → HasMore field_nodes left o → HasMore added_field_nodes left (option_map (λ gs. FieldAdditions.extended_fields gs) o)
added_large-fields left None h = tt
added_large-fields left (Some gs) h = h
