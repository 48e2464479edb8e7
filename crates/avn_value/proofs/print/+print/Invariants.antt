use Rattle.std.proofs.Common.{◌≡◌, ◌≤◌, suc, take}
use Rattle.std.specs.Fmt.{HasWritten, IsPlainFormatter}
use Rattle.avn_grammar.specs.Print.{print_rows, print_fields}
use Rattle.avn_value.specs.View.{list_trees, fields_trees}
use Rattle.avn_nodes.specs.Levels.{depth_of}
use Rattle.avn_nodes.proofs.Rows.{present}
use Rattle.avn_value.proofs.print.+print.Given as goal

abbrev pub invariant-print_list-loop-row : goal.invariant-print_list-loop-row
invariant-print_list-loop-row g l =
    IsPlainFormatter l.initial.f → HasWritten g.W.Write.write_str_gives l.initial.f (print_rows (suc (depth_of l.levels)) 0 (list_trees (take l.row l.item-items))) l.f

abbrev pub invariant-print_fields-loop-name : goal.invariant-print_fields-loop-name
invariant-print_fields-loop-name g l =
    (l.row ≡ present (fields_trees (take l.name-index l.name-items))) × (l.row ≤ l.name-index)
    × (IsPlainFormatter l.initial.f → HasWritten g.W.Write.write_str_gives l.initial.f (print_fields (suc (depth_of l.levels)) 0 (fields_trees (take l.name-index l.name-items))) l.f)
