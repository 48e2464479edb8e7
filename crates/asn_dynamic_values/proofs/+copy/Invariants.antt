use Rattle.std.proofs.Common.{◌≡◌, map, take}
use Rattle.asn_dynamic_values.specs.DynView.{dyn_value, named_value}
use Rattle.asn_dynamic_values.proofs.+copy.Given as goal

-- The first elements are copied.
abbrev pub invariant-copies::copies-loop-element : goal.invariant-copies::copies-loop-element
invariant-copies::copies-loop-element l = map dyn_value l.made.items ≡ map dyn_value (take l.element-index l.elements)

-- The first members are copied.
abbrev pub invariant-copies::copies_of_members-loop-name : goal.invariant-copies::copies_of_members-loop-name
invariant-copies::copies_of_members-loop-name l = map named_value l.made.items ≡ map named_value (take l.name-index l.members)
