use Rattle.std.proofs.Common.{◌≡◌, List, ◌++◌, take, ◌+◌, ◌*◌}
use Rattle.asn_document.specs.Meaning.{document_shape, entry_shape, json_value, json_entry}
use Rattle.asn_coding.proofs.Collecting.{Collected}
use Rattle.asn_model.specs.Tree.{data_nodes, items_nodes, members_nodes}
use Rattle.serde_json.specs.View.{view, items_view, members_view}
use Rattle.serde_json.proofs.Views.{Entry}
use Rattle.asn_document.proofs.writing.+write.Given as goal

-- The open frame has the elements so far.
abbrev pub invariant-write_items-loop-item : goal.invariant-write_items-loop-item
invariant-write_items-loop-item g l = Collected g.E.Encoder.holds g.E.Encoder.notation document_shape json_value l.fn.encoder (take l.item-index l.item-items) l.encoder

-- The open frame has the members so far.
abbrev pub invariant-write_members-loop-key : goal.invariant-write_members-loop-key
invariant-write_members-loop-key g l =
    (done : List Entry) × (l.members.entries ≡ done ++ l.key-iterator) × Collected g.E.Encoder.holds g.E.Encoder.notation entry_shape json_entry l.fn.encoder done l.encoder

-- A value has more nodes than what it holds, and the calls from one node to the next count down.
abbrev pub decreases-write_value : goal.decreases-write_value
decreases-write_value g l = 4 * data_nodes (view l.value.now) + 1

abbrev pub decreases-write_payload : goal.decreases-write_payload
decreases-write_payload g l = 4 * data_nodes (view l.value.now)

abbrev pub decreases-write_items : goal.decreases-write_items
decreases-write_items g l = 4 * items_nodes (items_view l.items.now.items) + 3

abbrev pub decreases-write_members : goal.decreases-write_members
decreases-write_members g l = 4 * members_nodes (members_view l.members.now.entries) + 3

abbrev pub decreases-write_entry : goal.decreases-write_entry
decreases-write_entry g l = 4 * data_nodes (view l.member.now) + 2
