use Rattle.std.proofs.Common.{◌≡◌, ap, sym, ◌∙◌, map, rules, Bool}
use Rattle.std.specs.Cmp.{IsStrictWeakOrder}
use Rattle.std.specs.Ordering.{is_lt, on}
use Rattle.std.proofs.lemmas.Cmp.{on_total}
use Rattle.std.proofs.lemmas.List.Sorted.{ranks_by}
use Rattle.std.proofs.lemmas.Fn.{always_returns_same}
use Rattle.asn_model.specs.Sorting.{sort}
use Rattle.asn_model.specs.Value.{Value, value_cmp, values}
use Rattle.asn_model.proofs.Sorting.{sort-map}
use Rattle.asn_model.proofs.ValueOrder.{value_cmp_total}
use Rattle.asn_sorting.proofs.Exact.{sorted-stable}
use Rattle.asn_dynamic_values.specs.DynView.{dyn_value}
use Rattle.asn_dynamic_values.specs.declared.value.DynValue.{DynValue}
use Rattle.asn_dynamic_values.proofs.Views.{elements-map, layer-Bag}
use Rattle.asn_dynamic_values.proofs.copies.bag.Goals as goal

pub returns : goal.returns
returns c =
    let old = c.args.elements.items in
    let lt : DynValue → DynValue → Bool = λ p q. is_lt (on dyn_value value_cmp p q) in
    let order : IsStrictWeakOrder lt = ranks_by value_cmp_total dyn_value in
    let sorted : c.sort_by.new.self.items ≡ sort (on dyn_value value_cmp) old
    = sorted-stable (on dyn_value value_cmp) (on_total dyn_value value_cmp_total) old c.sort_by.new.self.items
    (c.in_ok-sort_by.ensures.sorted lt order (always_returns_same _ _ _ (λ a r q k. search rules)))
    (c.in_ok-sort_by.ensures.stable lt order (always_returns_same _ _ _ (λ a r q k. search rules))) in
    layer-Bag c.sort_by.new.self
    ∙ ap (λ l. Value.bag (values (λ v. v) l)) (ap (map dyn_value) sorted ∙ sym (sort-map value_cmp dyn_value old) ∙ ap (sort value_cmp) (sym (elements-map old)))
