use Rattle.std.proofs.Common.{◌≡◌, ap, sym, ◌∙◌, nat_cmp, rules, to_z-of_z, SFits, w64}
use Rattle.std.specs.Ordering.{int_cmp, ordering_then}
use Rattle.std.specs.declared.cmp.Ordering.TheVariants.{Equal}
use Rattle.asn_dynamic_values.specs.DynView.{dyn_value}
use Rattle.asn_dynamic_values.specs.Order.{contents_cmp, kind_number}
use Rattle.asn_dynamic_values.proofs.Rows.{cmp_parts, then_unequal}
use Rattle.asn_dynamic_values.proofs.Views.{view-Bag, view-List, view-Members, view-Utc}
use Rattle.asn_dynamic_values.proofs.+compare.Goals as goal

pub value::DynValue::compare-returns-in-Equal : goal.value::DynValue::compare-returns-in-Equal
value::DynValue::compare-returns-in-Equal t c =
    let v = dyn_value c.args.self.now in
    let w = dyn_value c.args.other.now in
    let same : nat_cmp (kind_number v) (kind_number w) ≡ Equal = (λ i. nat_cmp (sym c.kind_number.ensures i) (sym c.kind_number-2.ensures i)) ∙ sym c.cmp.ensures ∙ c.in-Equal.is in
    c.compare_contents.ensures ∙ ap (λ o. ordering_then o (contents_cmp v w)) (sym same) ∙ cmp_parts v w

pub value::DynValue::compare-returns-in_default : goal.value::DynValue::compare-returns-in_default
value::DynValue::compare-returns-in_default t c =
    let v = dyn_value c.args.self.now in
    let w = dyn_value c.args.other.now in
    then_unequal c.cmp.result (contents_cmp v w) c.in_default.not-Equal
    ∙ ap (λ o. ordering_then o (contents_cmp v w)) (c.cmp.ensures ∙ (λ i. nat_cmp (c.kind_number.ensures i) (c.kind_number-2.ensures i)))
    ∙ cmp_parts v w

pub value::DynValue::compare_contents-returns-in-Members-Members : goal.value::DynValue::compare_contents-returns-in-Members-Members
value::DynValue::compare_contents-returns-in-Members-Members t c =
    let m = c.in-Members-Members in
    rw (c.deref.ensures.value, c.deref-in-Members-Members.ensures.value) at c.compare_members.ensures
    ∙ (λ i. contents_cmp (sym (ap dyn_value m.is-0 ∙ view-Members m.left) i) (sym (ap dyn_value m.is-1 ∙ view-Members m.right) i))

pub value::DynValue::compare_contents-returns-in-List-List : goal.value::DynValue::compare_contents-returns-in-List-List
value::DynValue::compare_contents-returns-in-List-List t c =
    let m = c.in-List-List in
    rw (c.deref-in-List-List.ensures.value, c.deref-in-List-List-2.ensures.value) at c.compare_elements.ensures
    ∙ (λ i. contents_cmp (sym (ap dyn_value m.is-0 ∙ view-List m.left) i) (sym (ap dyn_value m.is-1 ∙ view-List m.right) i))

pub value::DynValue::compare_contents-returns-in-Bag-Bag : goal.value::DynValue::compare_contents-returns-in-Bag-Bag
value::DynValue::compare_contents-returns-in-Bag-Bag t c =
    let m = c.in-Bag-Bag in
    rw (c.deref-in-Bag-Bag.ensures.value, c.deref-in-Bag-Bag-2.ensures.value) at c.compare_elements-in-Bag-Bag.ensures
    ∙ (λ i. contents_cmp (sym (ap dyn_value m.is-0 ∙ view-Bag m.left) i) (sym (ap dyn_value m.is-1 ∙ view-Bag m.right) i))

pub value::DynValue::compare_contents-returns-in-Utc-Utc : goal.value::DynValue::compare_contents-returns-in-Utc-Utc
value::DynValue::compare_contents-returns-in-Utc-Utc t c =
    let m = c.in-Utc-Utc in
    let fits : SFits w64 c.seconds.result = search rules in
    let other_fits : SFits w64 c.seconds-in-Utc-Utc.result = search rules in
    c.cmp-in-Utc-Utc.ensures
    ∙ (λ i. int_cmp ((to_z-of_z fits ∙ c.seconds.ensures.value) i) ((to_z-of_z other_fits ∙ c.seconds-in-Utc-Utc.ensures.value) i))
    ∙ (λ i. contents_cmp (sym (ap dyn_value m.is-0 ∙ view-Utc m.left) i) (sym (ap dyn_value m.is-1 ∙ view-Utc m.right) i))
