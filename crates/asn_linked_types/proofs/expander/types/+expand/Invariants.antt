use Rattle.std.proofs.Common.{◌+◌, ◌*◌}
use Rattle.asn_linked_types.specs.expander.Resolving.{resolve}
use Rattle.asn_linked_types.proofs.expander.Alternatives.{AlternativesGoing}
use Rattle.asn_linked_types.proofs.expander.Fields.{FieldsGoing}
use Rattle.asn_linked_types.proofs.expander.types.+expand.Given as goal

-- Each shape takes a node.
abbrev pub decreases-shape_of : goal.decreases-shape_of
decreases-shape_of l = 4 * l.left.now

abbrev pub decreases-boxed : goal.decreases-boxed
decreases-boxed l = 4 * l.left.now + 1

abbrev pub decreases-shape_of_type : goal.decreases-shape_of_type
decreases-shape_of_type l = 4 * l.left.now + 2

abbrev pub decreases-fields_of : goal.decreases-fields_of
decreases-fields_of l = 4 * l.left.now + 1

abbrev pub decreases-alternatives_of : goal.decreases-alternatives_of
decreases-alternatives_of l = 4 * l.left.now + 1

abbrev pub decreases-added_fields_of : goal.decreases-added_fields_of
decreases-added_fields_of l = 4 * l.left.now + 2

abbrev pub decreases-added_alternatives_of : goal.decreases-added_alternatives_of
decreases-added_alternatives_of l = 4 * l.left.now + 2

abbrev pub invariant-fields_of-loop-field : goal.invariant-fields_of-loop-field
invariant-fields_of-loop-field l = FieldsGoing (resolve l.types l.opened) l.fields l.field-index l.made.items l.left l.fn.left

abbrev pub invariant-alternatives_of-loop-alternative : goal.invariant-alternatives_of-loop-alternative
invariant-alternatives_of-loop-alternative l = AlternativesGoing (resolve l.types l.opened) l.alternatives l.alternative-index l.made.items l.left l.fn.left
