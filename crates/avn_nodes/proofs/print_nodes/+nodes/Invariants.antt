use Rattle.std.proofs.Common.{◌+◌, ◌-◌, ◌*◌, length, suc}
use Rattle.std.specs.Fmt.{HasWritten, IsPlainFormatter}
use Rattle.avn_grammar.specs.Print.{print_rows, print_fields}
use Rattle.avn_nodes.specs.Levels.{depth_of}
use Rattle.avn_nodes.proofs.NodeRows.{FieldsWritten, ListWritten}
use Rattle.avn_nodes.proofs.print_nodes.+nodes.Given as goal

abbrev pub decreases-print_node : goal.decreases-print_node
decreases-print_node g l = 2 * (length l.nodes.now.nodes - l.node) + 1

abbrev pub decreases-print_list : goal.decreases-print_list
decreases-print_list g l = 2 * (length l.nodes.now.nodes - l.node)

abbrev pub decreases-print_fields : goal.decreases-print_fields
decreases-print_fields g l = 2 * (length l.nodes.now.nodes - l.node)

abbrev pub invariant-print_list-children : goal.invariant-print_list-children
invariant-print_list-children g l = (w : ListWritten l.nodes.nodes l.node l.child l.row) × (IsPlainFormatter l.initial.f → HasWritten g.W.Write.write_str_gives l.initial.f (print_rows (suc (depth_of l.levels)) 0 w.done) l.f)

abbrev pub decreases-print_list-children : goal.decreases-print_list-children
decreases-print_list-children g l = l.end - l.child

abbrev pub invariant-print_fields-children : goal.invariant-print_fields-children
invariant-print_fields-children g l = (w : FieldsWritten l.nodes.nodes l.node l.child l.row) × (IsPlainFormatter l.initial.f → HasWritten g.W.Write.write_str_gives l.initial.f (print_fields (suc (depth_of l.levels)) 0 w.done) l.f)

abbrev pub decreases-print_fields-children : goal.decreases-print_fields-children
decreases-print_fields-children g l = l.end - l.child
