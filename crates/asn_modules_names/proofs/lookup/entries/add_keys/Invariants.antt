use Rattle.std.proofs.Common.{◌≡◌, ◌++◌, map, drop}
use Rattle.asn_modules_names.specs.lookup.Homes.{home_view}
use Rattle.asn_modules_names.specs.lookup.Views.{key_view}
use Rattle.asn_modules_names.proofs.lookup.Listing.{keyed}
use Rattle.asn_modules_names.proofs.lookup.entries.add_keys.Given as goal

abbrev pub invariant-loop-assignment : goal.invariant-loop-assignment
invariant-loop-assignment l = map key_view l.fn.keys.items ++ keyed l.sort l.number (home_view l.home) l.assignments ≡ map key_view l.keys.items ++ keyed l.sort l.number (home_view l.home) (drop l.assignment-index l.assignments)
