use Rattle.std.proofs.Common.{◌+◌, ◌*◌}
use Rattle.asn_coding.proofs.Reading.{Reading}
use Rattle.asn_dynamic_values.specs.DynView.{dyn_value}
use Rattle.asn_model.specs.Tree.{head_nodes}
use Rattle.asn_parts.specs.Chain.{bodies_of}
use Rattle.asn_parts.specs.Bodies.{meant}
use Rattle.asn_parts.proofs.Costs.{cost}
use Rattle.asn_dynamic_reading.specs.fitting.HeldValue.{AreHeldValues}
use Rattle.asn_model.specs.Value.{values}
use Rattle.asn_dynamic_reading.proofs.FieldSteps.{SequenceRead}
use Rattle.asn_dynamic_reading.proofs.Held.{HeldMembers}
use Rattle.asn_dynamic_reading.proofs.Sets.{SetRead}
use Rattle.asn_coding.specs.Opening.{list_shape}
use Rattle.asn_model.specs.ShapeView.{kind_view}
use Rattle.asn_dynamic_reading.proofs.reading.+read.Given as goal

-- A slot costs more than its parts, and a loop more than its body.
abbrev pub decreases-read_value : goal.decreases-read_value
decreases-read_value g l = 5 * cost (head_nodes (g.D.Decoder.pending l.decoder.now)) (meant g.P.Part.shape (bodies_of l.loops.now) l.part) + 3

abbrev pub decreases-read_elements : goal.decreases-read_elements
decreases-read_elements g l = 5 * cost (head_nodes (g.D.Decoder.pending l.decoder.now)) (list_shape (kind_view l.kind) (meant g.P.Part.shape (bodies_of l.loops.now) l.element)) + 2

abbrev pub decreases-read_sequence : goal.decreases-read_sequence
decreases-read_sequence g l = 5 * cost (head_nodes (g.D.Decoder.pending l.decoder.now)) (meant g.P.Part.shape (bodies_of l.loops.now) l.part) + 2

abbrev pub decreases-read_set : goal.decreases-read_set
decreases-read_set g l = 5 * cost (head_nodes (g.D.Decoder.pending l.decoder.now)) (meant g.P.Part.shape (bodies_of l.loops.now) l.part) + 2

abbrev pub decreases-read_field : goal.decreases-read_field
decreases-read_field g l = 5 * cost (head_nodes (g.D.Decoder.pending l.decoder.now)) (meant g.P.Part.shape (bodies_of l.loops.now) l.field.now.part) + 5

abbrev pub decreases-read_choice : goal.decreases-read_choice
decreases-read_choice g l = 5 * cost (head_nodes (g.D.Decoder.pending l.decoder.now)) (meant g.P.Part.shape (bodies_of l.loops.now) l.part) + 2

abbrev pub decreases-read_payload : goal.decreases-read_payload
decreases-read_payload g l = 5 * cost (head_nodes (g.D.Decoder.pending l.decoder.now)) (meant g.P.Part.shape (bodies_of l.loops.now) l.alternative.now.part) + 4

-- The elements so far are read, and held.
abbrev pub invariant-read_elements-loop-i : goal.invariant-read_elements-loop-i
invariant-read_elements-loop-i g l = record {
  read : Reading g.D.Decoder.notation (meant g.P.Part.shape (bodies_of l.loops) l.element) dyn_value (g.D.Decoder.pending l.fn.decoder) l.items.items l.i l.count (g.D.Decoder.pending l.decoder);
  held : AreHeldValues (values dyn_value l.items.items);
}

-- The fields so far are read, and held.
abbrev pub invariant-read_sequence-loop-place : goal.invariant-read_sequence-loop-place
invariant-read_sequence-loop-place g l = record {
  read : SequenceRead g.D.Decoder.notation (meant g.P.Part.shape (bodies_of l.loops) l.part) (g.D.Decoder.pending l.fn.decoder) l.place l.members.items (g.D.Decoder.pending l.decoder);
  held : HeldMembers l.members.items;
}

-- The fields so far are read, and stand at their places, and are held.
abbrev pub invariant-read_set-loop-place : goal.invariant-read_set-loop-place
invariant-read_set-loop-place g l = record {
  read : SetRead g.D.Decoder.notation (meant g.P.Part.shape (bodies_of l.loops) l.part) (g.D.Decoder.pending l.fn.decoder) l.place-index l.members.items (g.D.Decoder.pending l.decoder);
  held : HeldMembers l.members.items;
}
