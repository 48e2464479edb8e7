use Rattle.std.proofs.Common.{suc, ◌+◌, ◌*◌, map, option_map, take}
use Rattle.asn_dynamic_fits.proofs.Alternatives.{StillAhead}
use Rattle.asn_dynamic_fits.proofs.Costs.{nodes_in}
use Rattle.asn_dynamic_fits.proofs.Meant.{fields_meant}
use Rattle.asn_dynamic_fits.proofs.Members.{AreMembers}
use Rattle.asn_dynamic_values.specs.DynView.{dyn_value, members_named, named_value}
use Rattle.asn_model.specs.Shape.{Shape}
use Rattle.asn_model.specs.Value.{FitsEach, nodes, nodes_slots, nodes_values, values}
use Rattle.asn_parts.specs.Chain.{bodies_of}
use Rattle.asn_parts.specs.Bodies.{meant}
use Rattle.asn_parts.proofs.Costs.{cost}
use Rattle.asn_dynamic_fits.proofs.membership.+fits.Given as goal

-- A value costs more than its parts, and a loop more than its body.
abbrev pub decreases-fits_part : goal.decreases-fits_part
decreases-fits_part g l = 5 * cost (nodes (dyn_value l.value.now)) (meant g.P.Part.shape (bodies_of l.loops.now) l.part) + 3

abbrev pub decreases-fits_list : goal.decreases-fits_list
decreases-fits_list g l = 5 * cost (nodes (dyn_value l.value.now)) (Shape.list_of (meant g.P.Part.shape (bodies_of l.loops.now) l.element)) + 2

abbrev pub decreases-fits_bag : goal.decreases-fits_bag
decreases-fits_bag g l = 5 * cost (nodes (dyn_value l.value.now)) (Shape.set_of (meant g.P.Part.shape (bodies_of l.loops.now) l.element)) + 2

abbrev pub decreases-fits_table : goal.decreases-fits_table
decreases-fits_table g l = 5 * cost (nodes (dyn_value l.value.now)) (Shape.table (meant g.P.Part.shape (bodies_of l.loops.now) l.entry)) + 2

abbrev pub decreases-are_elements : goal.decreases-are_elements
decreases-are_elements g l = 5 * cost (suc (nodes_values (values dyn_value l.elements.now))) (Shape.list_of (meant g.P.Part.shape (bodies_of l.loops.now) l.element)) + 1

abbrev pub decreases-fits_members : goal.decreases-fits_members
decreases-fits_members g l = 5 * cost (nodes (dyn_value l.value.now)) (meant g.P.Part.shape (bodies_of l.loops.now) l.part) + 2

abbrev pub decreases-are_members : goal.decreases-are_members
decreases-are_members g l = 5 * cost (suc (nodes_slots (members_named (map named_value l.members.now)))) (meant g.P.Part.shape (bodies_of l.loops.now) l.part) + 1

abbrev pub decreases-fits_member : goal.decreases-fits_member
decreases-fits_member g l = 5 * cost (nodes_in (option_map dyn_value l.member.now.1)) (meant g.P.Part.shape (bodies_of l.loops.now) l.field.now.part) + 5

abbrev pub decreases-fits_slot : goal.decreases-fits_slot
decreases-fits_slot g l = 5 * cost (nodes_in (option_map dyn_value l.slot.now)) (meant g.P.Part.shape (bodies_of l.loops.now) l.field.now.part) + 4

abbrev pub decreases-fits_choice : goal.decreases-fits_choice
decreases-fits_choice g l = 5 * cost (nodes (dyn_value l.value.now)) (meant g.P.Part.shape (bodies_of l.loops.now) l.part) + 2

abbrev pub decreases-is_chosen : goal.decreases-is_chosen
decreases-is_chosen g l = 5 * cost (suc (nodes (dyn_value l.chosen.now.payload.now))) (meant g.P.Part.shape (bodies_of l.loops.now) l.part) + 1

abbrev pub decreases-fits_alternative : goal.decreases-fits_alternative
decreases-fits_alternative g l = 5 * cost (nodes (dyn_value l.chosen.now.payload.now)) (meant g.P.Part.shape (bodies_of l.loops.now) l.alternative.now.part) + 4

-- The elements so far are each a value.
abbrev pub invariant-are_elements-loop-value : goal.invariant-are_elements-loop-value
invariant-are_elements-loop-value g l = FitsEach (meant g.P.Part.shape (bodies_of l.loops) l.element) (values dyn_value (take l.value-index l.elements))

-- The members so far are each of their fields.
abbrev pub invariant-are_members-loop-place : goal.invariant-are_members-loop-place
invariant-are_members-loop-place g l = AreMembers (take l.place (fields_meant g.P.Part.shape (bodies_of l.loops) l.part)) (take l.place (map named_value l.members))

-- The payload is of an alternative that is still to come, if of any.
abbrev pub invariant-is_chosen-loop-place : goal.invariant-is_chosen-loop-place
invariant-is_chosen-loop-place g l = StillAhead g.P.Part.shape (bodies_of l.loops) l.part l.chosen.identifier.now (dyn_value l.chosen.payload.now) l.place
