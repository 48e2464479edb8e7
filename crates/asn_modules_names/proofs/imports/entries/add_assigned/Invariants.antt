use Rattle.std.proofs.Common.{◌≡◌, ◌++◌, map, drop}
use Rattle.asn_modules_names.proofs.imports.Listing.{each, name_in}
use Rattle.asn_modules_names.proofs.imports.entries.add_assigned.Given as goal
use Rattle.asn_modules_names.specs.lookup.Homes.{home_view}
use Rattle.asn_modules_names.specs.lookup.Views.{entry_view}
use Rattle.asn_modules_grammar.specs.notation.View.{assignment_view}

abbrev pub invariant-loop-assignment : goal.invariant-loop-assignment
invariant-loop-assignment l =
    map entry_view l.fn.entries.items ++ each (name_in (home_view l.home)) l.number (map assignment_view l.assignments) ≡ map entry_view l.entries.items ++ each (name_in (home_view l.home)) l.number (map assignment_view (drop l.assignment-index l.assignments))
