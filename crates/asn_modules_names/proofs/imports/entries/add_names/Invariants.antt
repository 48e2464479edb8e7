use Rattle.std.proofs.Common.{◌≡◌, ◌++◌, map, drop}
use Rattle.asn_modules_names.proofs.imports.Listing.{each}
use Rattle.asn_modules_names.proofs.imports.entries.add_names.Given as goal
use Rattle.asn_modules_names.specs.lookup.Homes.{bytes_in, home_view}
use Rattle.asn_modules_names.specs.lookup.Views.{entry_view}

abbrev pub invariant-loop-name : goal.invariant-loop-name
invariant-loop-name l = map entry_view l.fn.entries.items ++ each (bytes_in (home_view l.home)) l.number l.names ≡ map entry_view l.entries.items ++ each (bytes_in (home_view l.home)) l.number (drop l.name-index l.names)
