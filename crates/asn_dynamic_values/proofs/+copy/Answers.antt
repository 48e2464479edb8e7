use Rattle.std.proofs.Common.{ap, sym, ◌∙◌, map}
use Rattle.asn_dynamic_values.specs.DynView.{dyn_value, members_named, named_value}
use Rattle.asn_model.specs.Value.{Value, values}
use Rattle.asn_dynamic_values.proofs.Views.{layer-Bag, layer-List, view-Members}
use Rattle.asn_dynamic_values.proofs.+copy.Goals as goal

pub value::DynValue::try_clone-returns-in_ok-copies_of_members-in-Members : goal.value::DynValue::try_clone-returns-in_ok-copies_of_members-in-Members
value::DynValue::try_clone-returns-in_ok-copies_of_members-in-Members t c =
    let made = c.in_ok-copies_of_members-in-Members in
    view-Members made.field-0 ∙ ap (λ l. Value.members (members_named l)) (made.ensures ∙ ap (map named_value) c.deref-in-Members.ensures.value)
    ∙ sym (ap dyn_value c.in-Members.is ∙ view-Members c.in-Members.members)

pub value::DynValue::try_clone-returns-in_ok-copies-in-List : goal.value::DynValue::try_clone-returns-in_ok-copies-in-List
value::DynValue::try_clone-returns-in_ok-copies-in-List t c =
    let made = c.in_ok-copies-in-List in
    layer-List made.field-0 ∙ ap (λ l. Value.list (values (λ v. v) l)) (made.ensures ∙ ap (map dyn_value) c.deref-in-List.ensures.value)
    ∙ sym (ap dyn_value c.in-List.is ∙ layer-List c.in-List.elements)

pub value::DynValue::try_clone-returns-in_ok-copies-in-Bag : goal.value::DynValue::try_clone-returns-in_ok-copies-in-Bag
value::DynValue::try_clone-returns-in_ok-copies-in-Bag t c =
    let made = c.in_ok-copies-in-Bag in
    layer-Bag made.field-0 ∙ ap (λ l. Value.bag (values (λ v. v) l)) (made.ensures ∙ ap (map dyn_value) c.deref-in-Bag.ensures.value)
    ∙ sym (ap dyn_value c.in-Bag.is ∙ layer-Bag c.in-Bag.elements)
