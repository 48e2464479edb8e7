use Rattle.std.proofs.Common.{◌≡◌, drop, map, Some}
use Rattle.asn_dynamic_values.specs.DynView.{named_value}
use Rattle.asn_example_values.specs.Examples.{alternatives_example, joined, members_example}
use Rattle.asn_model.specs.ShapeView.{alternative_views, field_views}
use Rattle.asn_example_values.proofs.parts.+make.Given as goal

-- With the members of the components that are left, all are there.
abbrev pub invariant-add_members-loop-field : goal.invariant-add_members-loop-field
invariant-add_members-loop-field l =
    joined (Some (map named_value l.members.items)) (members_example l.full (field_views (drop l.field-index l.fields))) ≡ joined (Some (map named_value l.fn.members.items)) (members_example l.full (field_views l.fields))

-- The first alternative that has a value is one of those that are left.
abbrev pub invariant-alternative-loop-alternative : goal.invariant-alternative-loop-alternative
invariant-alternative-loop-alternative l = alternatives_example l.full (alternative_views (drop l.alternative-index l.alternatives)) ≡ alternatives_example l.full (alternative_views l.alternatives)
