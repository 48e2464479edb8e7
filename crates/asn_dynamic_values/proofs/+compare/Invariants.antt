use Rattle.std.proofs.Common.{◌≡◌, drop, map}
use Rattle.asn_dynamic_values.specs.DynView.{dyn_value, members_named, named_value}
use Rattle.asn_dynamic_values.specs.Order.{elements_cmp, members_cmp}
use Rattle.asn_model.specs.Value.{values}
use Rattle.asn_dynamic_values.proofs.+compare.Given as goal

-- What is left to look at decides.
abbrev pub invariant-order::compare_elements-loop-element : goal.invariant-order::compare_elements-loop-element
invariant-order::compare_elements-loop-element l =
    elements_cmp (values dyn_value l.left) (values dyn_value l.right) ≡ elements_cmp (values dyn_value (drop l.element-index l.left)) (values dyn_value l.others.rest.now)

-- What is left to look at decides.
abbrev pub invariant-order::compare_members-loop-name : goal.invariant-order::compare_members-loop-name
invariant-order::compare_members-loop-name l =
    members_cmp (members_named (map named_value l.left)) (members_named (map named_value l.right))
    ≡ members_cmp (members_named (map named_value (drop l.name-index l.left))) (members_named (map named_value l.others.rest.now))
