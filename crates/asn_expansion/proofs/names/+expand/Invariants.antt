use Rattle.std.proofs.Common.{◌+◌, ◌*◌, ◌≤◌}
use Rattle.asn_expansion.specs.Resolving.{resolve}
use Rattle.asn_expansion.proofs.Alternatives.{AlternativesGoing}
use Rattle.asn_expansion.proofs.Fields.{FieldsGoing}
use Rattle.asn_expansion.proofs.names.+expand.Given as goal

-- Each notation takes a node.
abbrev pub decreases-shape_of : goal.decreases-shape_of
decreases-shape_of l = 4 * l.left.now

abbrev pub decreases-shape_of_name : goal.decreases-shape_of_name
decreases-shape_of_name l = 4 * l.left.now + 1

abbrev pub decreases-shape_of_members : goal.decreases-shape_of_members
decreases-shape_of_members l = 4 * l.left.now + 3

abbrev pub decreases-shape_of_choice : goal.decreases-shape_of_choice
decreases-shape_of_choice l = 4 * l.left.now + 3

abbrev pub decreases-fields_of : goal.decreases-fields_of
decreases-fields_of l = 4 * l.left.now + 1

abbrev pub decreases-alternatives_of : goal.decreases-alternatives_of
decreases-alternatives_of l = 4 * l.left.now + 1

abbrev pub decreases-added_fields_of : goal.decreases-added_fields_of
decreases-added_fields_of l = 4 * l.left.now + 2

abbrev pub decreases-added_alternatives_of : goal.decreases-added_alternatives_of
decreases-added_alternatives_of l = 4 * l.left.now + 2

abbrev pub invariant-fields_of-loop-component : goal.invariant-fields_of-loop-component
invariant-fields_of-loop-component l =
    FieldsGoing (resolve l.names l.more l.opened) l.fn.tag l.components l.component-index l.fields.items l.tag l.left l.fn.left × (l.left ≤ l.fn.left) × (l.tag + l.left ≤ l.fn.tag + l.fn.left)

abbrev pub invariant-alternatives_of-loop-component : goal.invariant-alternatives_of-loop-component
invariant-alternatives_of-loop-component l =
    AlternativesGoing (resolve l.names l.more l.opened) l.fn.tag l.components l.component-index l.alternatives.items l.tag l.left l.fn.left × (l.left ≤ l.fn.left) × (l.tag + l.left ≤ l.fn.tag + l.fn.left)
