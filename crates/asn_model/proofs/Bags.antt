-- Elements in another order are those of the same multiset.
use Rattle.std.proofs.Common.{◌≡◌, List, [], ◌∷◌, map, refl, ap, sym, subst, ◌∙◌}
use Rattle.std.specs.declared.cmp.Ordering.{Ordering}
use Rattle.std.specs.List.{AllByRecursion}
use Rattle.serde_json.specs.Data.{Items}
use Rattle.serde_json.specs.Written.{compact_text}
use Rattle.avn_grammar.specs.Print.{print}
use Rattle.avn_grammar.specs.Tree.{Trees as AvnTrees}
use Rattle.asn_model.specs.Canonical.{jer_data, jer_items, json_list, json_items, sorted_items, avn_tree, avn_trees, tree_list, listed_trees, sorted_trees, canonical_text}
use Rattle.asn_model.specs.Notation.{Notation}
use Rattle.asn_model.specs.Sorting.{sort, by_text}
use Rattle.asn_model.specs.Value.{Value, Values, values, elements, ordered_by, sort_values, value_cmp}
use Rattle.asn_model.proofs.Sorting.{each-sort, sort-map, sort-sort}
use Rattle.asn_model.proofs.ValueOrder.{value_cmp_total, value_cmp-IsAntisymmetric}

pub elements-values : (xs : List Value) → elements (values (λ v. v) xs) ≡ xs
elements-values [] = refl
elements-values (x ∷ xs) = ap (λ l. x ∷ l) (elements-values xs)

pub values-elements : (vs : Values) → values (λ v. v) (elements vs) ≡ vs
values-elements Values.no_values = refl
values-elements (Values.value v vs) = ap (Values.value v) (values-elements vs)

-- The order in which the elements were doesn't count.
pub sort-ordered_by : (cmp : Value → Value → Ordering) (vs : Values) → sort_values (ordered_by cmp vs) ≡ sort_values vs
sort-ordered_by cmp vs =
    ap (λ l. values (λ v. v) (sort value_cmp l)) (elements-values (sort cmp (elements vs)))
    ∙ ap (values (λ v. v)) (sort-sort value_cmp value_cmp_total value_cmp-IsAntisymmetric cmp (elements vs))

-- What holds of each element holds of each in another order.
pub each-ordered : (P : Value → Type 0) (cmp : Value → Value → Ordering) (vs : Values) → AllByRecursion P (elements vs) → AllByRecursion P (elements (ordered_by cmp vs))
each-ordered P cmp vs h = subst (AllByRecursion P) (sym (elements-values (sort cmp (elements vs)))) (each-sort cmp P (elements vs) h)

list-jer_items : (vs : Values) → json_list (jer_items vs) ≡ map jer_data (elements vs)
list-jer_items Values.no_values = refl
list-jer_items (Values.value v vs) = ap (λ l. jer_data v ∷ l) (list-jer_items vs)

items-values : (xs : List Value) → json_items (map jer_data xs) ≡ jer_items (values (λ v. v) xs)
items-values [] = refl
items-values (x ∷ xs) = ap (Items.item (jer_data x)) (items-values xs)

-- JER writes the elements of a set in the order of their texts.
pub jer_items-sorted : (vs : Values) → sorted_items (jer_items vs) ≡ jer_items (ordered_by (by_text (canonical_text Notation.jer)) vs)
jer_items-sorted vs =
    ap (λ l. json_items (sort (by_text compact_text) l)) (list-jer_items vs)
    ∙ ap json_items (sort-map (by_text compact_text) jer_data (elements vs))
    ∙ items-values (sort (by_text (canonical_text Notation.jer)) (elements vs))

list-avn_trees : (vs : Values) → tree_list (avn_trees vs) ≡ map avn_tree (elements vs)
list-avn_trees Values.no_values = refl
list-avn_trees (Values.value v vs) = ap (λ l. avn_tree v ∷ l) (list-avn_trees vs)

trees-values : (xs : List Value) → listed_trees (map avn_tree xs) ≡ avn_trees (values (λ v. v) xs)
trees-values [] = refl
trees-values (x ∷ xs) = ap (AvnTrees.tree (avn_tree x)) (trees-values xs)

-- So does AVN.
pub avn_trees-sorted : (vs : Values) → sorted_trees (avn_trees vs) ≡ avn_trees (ordered_by (by_text (canonical_text Notation.avn)) vs)
avn_trees-sorted vs =
    ap (λ l. listed_trees (sort (by_text (print 0)) l)) (list-avn_trees vs)
    ∙ ap listed_trees (sort-map (by_text (print 0)) avn_tree (elements vs))
    ∙ trees-values (sort (by_text (canonical_text Notation.avn)) (elements vs))
