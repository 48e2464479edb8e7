use Rattle.std.proofs.Common.{◌≡◌, ◌++◌, map}
use Rattle.asn_modules_names.specs.lookup.Views.{import_view}
use Rattle.asn_modules_names.proofs.lookup.Listing.{entries_from}
use Rattle.asn_modules_names.proofs.lookup.imports.import_entries.Given as goal

abbrev pub invariant-loop-number : goal.invariant-loop-number
invariant-loop-number l = entries_from l.homes 0 ≡ map import_view l.entries.items ++ entries_from l.homes l.number
