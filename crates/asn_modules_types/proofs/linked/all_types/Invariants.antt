use Rattle.std.proofs.Common.{◌≡◌, ◌++◌, drop, length, map}
use Rattle.asn_model.specs.ShapeView.{shape_view}
use Rattle.asn_modules_types.specs.Known.{assigned_view, sources_of}
use Rattle.asn_modules_types.specs.Linked.{linked_from}
use Rattle.asn_modules_types.proofs.linked.all_types.Given as goal

abbrev pub invariant-loop-number : goal.invariant-loop-number
invariant-loop-number l = linked_from (sources_of l.names) (length l.names.types.now) 0 (map assigned_view l.names.types.now) ≡ map shape_view l.linked.items ++ linked_from (sources_of l.names) (length l.names.types.now) l.number (drop l.number (map assigned_view l.names.types.now))
