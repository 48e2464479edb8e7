use Rattle.std.proofs.Common.{◌≡◌, ◌++◌, drop, map, string_bytes}
use Rattle.std.specs.List.{flat_map}
use Rattle.asn_model.specs.ShapeView.{shape_view}
use Rattle.asn_type_printing.specs.Printed.{assignment_text}
use Rattle.asn_type_printing.proofs.print.write_assignments.Given as goal

-- What is written and the assignments that are left are all.
abbrev pub invariant-loop-number : goal.invariant-loop-number
invariant-loop-number l =
    string_bytes l.out ++ flat_map (assignment_text (map string_bytes l.names) (map shape_view l.types)) (drop l.number-index l.numbers) ≡ string_bytes l.fn.out ++ flat_map (assignment_text (map string_bytes l.names) (map shape_view l.types)) l.numbers
