-- Items before and after an extension marker.
use Rattle.std.proofs.Common.{◌≡◌, ℕ, refl, ap, sym, ◌∙◌, List, [], ◌∷◌, ◌++◌, map, Option, Some, None}
use Rattle.std.specs.Global.{Vec}
use Rattle.std.specs.List.{filter_map}
use Rattle.asn_modules_grammar.specs.notation.View.{items_view}
use Rattle.asn_modules_grammar.specs.declared.notation.number.Item.{Item}
use Rattle.asn_modules_grammar.specs.declared.notation.notation.Base.{Base}
use Rattle.asn_modules_grammar.specs.declared.notation.notation.Base.TheVariants.{Enumerated}
use Rattle.asn_modules_rules.specs.numbers.Faults.{added_items, enumerated_fault, number_fault, root_items}
use Rattle.asn_modules_reader.specs.Views.{base_view}
use Rattle.asn_modules_reader.proofs.Viewing.{enumerated_viewed}

abbrev somes : List Item → List (Option Item)
somes items = map (λ i. Some i) items

all_some : (items : List Item) → filter_map (λ i. i) (somes items) ≡ items
all_some [] = refl
all_some (i ∷ is) = ap (λ l. i ∷ l) (all_some is)

root_alone : (items : List Item) → root_items (somes items) ≡ items
root_alone [] = refl
root_alone (i ∷ is) = ap (λ l. i ∷ l) (root_alone is)

root_before : (items : List Item) (behind : List (Option Item)) → root_items (somes items ++ None ∷ behind) ≡ items
root_before [] behind = refl
root_before (i ∷ is) behind = ap (λ l. i ∷ l) (root_before is behind)

added_none : (items : List Item) → added_items (somes items) ≡ []
added_none [] = refl
added_none (i ∷ is) = added_none is

added_behind : (items : List Item) (behind : List (Option Item)) → added_items (somes items ++ None ∷ behind) ≡ filter_map (λ i. i) behind
added_behind [] behind = refl
added_behind (i ∷ is) behind = added_behind is behind

root_is : (items : Vec Item) (added : Option (Vec Item)) → root_items (items_view items added) ≡ items.items
root_is items None = root_alone items.items
root_is items (Some a) = root_before items.items (somes a.items)

pub no_added : (items : Vec Item) (added : Option (Vec Item)) → added ≡ None → [] ≡ added_items (items_view items added)
no_added items added e = sym (ap (λ o. added_items (items_view items o)) e ∙ added_none items.items)

pub added_are : (items : Vec Item) (added : Option (Vec Item)) (a : Vec Item) → added ≡ Some a → a.items ≡ added_items (items_view items added)
added_are items added a e = sym (ap (λ o. added_items (items_view items o)) e ∙ added_behind items.items (somes a.items) ∙ all_some a.items)

pub enumerated_is : (text : List ℕ) (base : Base) (items : Vec Item) (added : Option (Vec Item)) → base ≡ Enumerated items added → enumerated_fault text items.items (added_items (items_view items added)) ≡ number_fault text (base_view base)
enumerated_is text base items added e =
    ap (λ l. enumerated_fault text l (added_items (items_view items added))) (sym (root_is items added))
    ∙ ap (number_fault text) (sym (ap base_view e ∙ enumerated_viewed items added))
