-- What the items of an ENUMERATED are expanded to.
use Rattle.std.proofs.Common.{◌≡◌, ◌<◌, ◌+◌, ℕ, List, [], ◌∷◌, ◌++◌, map, take, get_or, length, Option, Some, None, option_map, String, string_bytes, refl, sym, ap, ◌∙◌}
use Rattle.std.proofs.lemmas.List.{take_more, map-append}
use Rattle.std.specs.Global.{Global, Vec}
use Rattle.asn_model.specs.Shape.{Shape, Fields, Alternatives}
use Rattle.asn_model.specs.ShapeView.{shape_view, shape_step, alternative_step, field_step}
use Rattle.asn_model.specs.declared.shape_type.Shape.TheOpen as layer
use Rattle.asn_model.specs.declared.shape_type.Shape.TheVariants.{rolls-Enum, Enum}
use Rattle.asn_model.specs.declared.shape_type.Shape.TheFolds.{fold-roll-Shape}
use Rattle.asn_notation.specs.View.{items_of}
use Rattle.asn_expansion.specs.Expansion.{added_items, root_items}

items_alone : (items : List (String Global)) → root_items (map (λ i. Some (string_bytes i)) items) ≡ map string_bytes items
items_alone [] = refl
items_alone (i ∷ items) = ap (λ l. string_bytes i ∷ l) (items_alone items)

items_root : (items : List (String Global)) (added : Option (Vec (String Global))) → root_items (items_of items added) ≡ map string_bytes items
items_root [] None = refl
items_root [] (Some more) = refl
items_root (i ∷ items) added = ap (λ l. string_bytes i ∷ l) (items_root items added)

items_added : (items : List (String Global)) (added : Option (Vec (String Global))) → added_items (items_of items added) ≡ option_map (λ v. map string_bytes v.items) added
items_added [] None = refl
items_added [] (Some more) = ap (λ l. Some l) (items_alone more.items)
items_added (i ∷ items) added = items_added items added

-- The shape of copies of the items.
pub items_made : (items : List (String Global)) (added : Option (Vec (String Global))) (made : Vec (String Global)) (more : Option (Vec (String Global))) → map string_bytes made.items ≡ map string_bytes items
    → option_map (λ v. map string_bytes v.items) more ≡ option_map (λ v. map string_bytes v.items) added → shape_view (Enum made more) ≡ Shape.enum (root_items (items_of items added)) (added_items (items_of items added))
items_made items added made more e f =
    ap shape_view (sym (rolls-Enum made more)) ∙ fold-roll-Shape Shape (Alternatives → Alternatives) (Fields → Fields) shape_step alternative_step field_step (layer.Enum made more)
    ∙ ap (λ x. Shape.enum x (option_map (λ v. map string_bytes v.items) more)) (e ∙ sym (items_root items added))
    ∙ ap (λ x. Shape.enum (root_items (items_of items added)) x) (f ∙ sym (items_added items added))

-- Copies of texts up to a place, with one more.
pub copied_more : (texts : List (String Global)) (i : ℕ) (made new : List (String Global)) (t x : String Global) → i < length texts → t ≡ get_or texts i t → map string_bytes made ≡ map string_bytes (take i texts) → string_bytes x ≡ string_bytes t → new ≡ made ++ x ∷ []
    → map string_bytes new ≡ map string_bytes (take (i + 1) texts)
copied_more texts i made new t x h e so same more =
    ap (λ l. map string_bytes l) more ∙ map-append string_bytes made (x ∷ []) ∙ ap (λ l. l ++ string_bytes x ∷ []) so ∙ ap (λ b. map string_bytes (take i texts) ++ b ∷ []) same
    ∙ sym (ap (λ l. map string_bytes l) (take_more texts i t h ∙ ap (λ y. take i texts ++ y ∷ []) (sym e)) ∙ map-append string_bytes (take i texts) (t ∷ []))
