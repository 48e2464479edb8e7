use Rattle.std.proofs.Common.{◌≡◌, ◌++◌, map, drop}
use Rattle.asn_modules_names.specs.lookup.Homes.{home_view}
use Rattle.asn_modules_types.specs.Known.{assigned_view}
use Rattle.asn_modules_types.proofs.Listing.{listed}
use Rattle.asn_modules_types.proofs.assigned.add_assigned.Given as goal

abbrev pub invariant-loop-assignment : goal.invariant-loop-assignment
invariant-loop-assignment l = map assigned_view l.fn.found.items ++ listed l.sort l.number (home_view l.home) l.assignments ≡ map assigned_view l.found.items ++ listed l.sort l.number (home_view l.home) (drop l.assignment-index l.assignments)
