use Rattle.std.proofs.Common.{◌≡◌, false, List, ◌+◌, ◌*◌}
use Rattle.asn_document.proofs.Puts.{put_from}
use Rattle.asn_document.specs.Meaning.{document_shape, entry_shape, json_value, json_entry}
use Rattle.asn_coding.proofs.Reading.{Reading}
use Rattle.asn_model.specs.Tree.{head_nodes}
use Rattle.serde_json.proofs.Views.{Entry}
use Rattle.serde_json.specs.Data.{no_members}
use Rattle.serde_json.specs.View.{items_view, members_view}
use Rattle.serde_json.specs.Written.{items_have_float, members_have_float}
use Rattle.asn_document.proofs.reading.+read.Given as goal

-- What is opened has more nodes than its parts.
abbrev pub decreases-read_value : goal.decreases-read_value
decreases-read_value g l = 2 * head_nodes (g.D.Decoder.pending l.decoder.now)

abbrev pub decreases-read_payload : goal.decreases-read_payload
decreases-read_payload g l = 2 * head_nodes (g.D.Decoder.pending l.decoder.now) + 1

abbrev pub decreases-read_items : goal.decreases-read_items
decreases-read_items g l = 2 * head_nodes (g.D.Decoder.pending l.decoder.now)

abbrev pub decreases-read_members : goal.decreases-read_members
decreases-read_members g l = 2 * head_nodes (g.D.Decoder.pending l.decoder.now)

abbrev pub decreases-read_entry : goal.decreases-read_entry
decreases-read_entry g l = 2 * head_nodes (g.D.Decoder.pending l.decoder.now)

-- The elements so far are read, and hold no float.
abbrev pub invariant-read_items-loop-i : goal.invariant-read_items-loop-i
invariant-read_items-loop-i g l =
    Reading g.D.Decoder.notation document_shape json_value (g.D.Decoder.pending l.fn.decoder) l.items.items l.i l.count (g.D.Decoder.pending l.decoder) × (items_have_float (items_view l.items.items) ≡ false)

-- The entries so far are read, with repeats, and the map has their table.
abbrev pub invariant-read_members-loop-i : goal.invariant-read_members-loop-i
invariant-read_members-loop-i g l =
    (es : List Entry) × Reading g.D.Decoder.notation entry_shape json_entry (g.D.Decoder.pending l.fn.decoder) es l.i l.count (g.D.Decoder.pending l.decoder)
    × (members_view l.members.entries ≡ put_from no_members es) × (members_have_float (members_view l.members.entries) ≡ false)
