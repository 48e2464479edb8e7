use Rattle.std.proofs.Common.{◌≡◌, ◌++◌, map, drop}
use Rattle.asn_modules_names.specs.lookup.Homes.{home_view}
use Rattle.asn_modules_names.specs.lookup.Views.{entry_view}
use Rattle.asn_modules_names.proofs.imports.Listing.{imported_from}
use Rattle.asn_modules_names.proofs.imports.entries.add_imports.Given as goal

abbrev pub invariant-loop-import : goal.invariant-loop-import
invariant-loop-import l = map entry_view l.fn.entries.items ++ imported_from l.number (home_view l.home) l.imports ≡ map entry_view l.entries.items ++ imported_from l.number (home_view l.home) (drop l.import-index l.imports)
