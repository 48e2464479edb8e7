use Rattle.std.proofs.Common.{◌≡◌, ◌+◌, ◌*◌, length}
use Rattle.avn_cursor.specs.Ahead.{Advances}
use Rattle.avn_value.proofs.Going.{Going}
use Rattle.avn_nodes.specs.NodeLists.{with_open}
use Rattle.avn_nodes.specs.declared.node_kind.NodeKind.TheVariants as kind
use Rattle.avn_value.proofs.parse.+read.Given as goal

abbrev pub decreases-read_value : goal.decreases-read_value
decreases-read_value l = 3 * length l.cursor.now.rest

abbrev pub decreases-read_item : goal.decreases-read_item
decreases-read_item l = 3 * length l.cursor.now.rest + 1

abbrev pub decreases-read_items : goal.decreases-read_items
decreases-read_items l = 3 * length l.cursor.now.rest + 2

abbrev pub invariant-read_items-items : goal.invariant-read_items-items
invariant-read_items-items l =
    Going l.limit l.level l.initial.cursor.rest l.cursor.rest l.gathered (with_open kind.SequenceOf l.fn.nodes) l.nodes × Advances 2 l.initial.cursor l.cursor × (l.place ≡ length l.fn.nodes.nodes)

abbrev pub decreases-read_items-items : goal.decreases-read_items-items
decreases-read_items-items l = length l.cursor.rest
