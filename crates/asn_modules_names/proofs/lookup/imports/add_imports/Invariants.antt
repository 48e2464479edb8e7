use Rattle.std.proofs.Common.{◌≡◌, ◌++◌, map, drop}
use Rattle.asn_modules_names.specs.lookup.Homes.{home_view}
use Rattle.asn_modules_names.specs.lookup.Views.{import_view}
use Rattle.asn_modules_names.proofs.lookup.Listing.{imported_by}
use Rattle.asn_modules_names.proofs.lookup.imports.add_imports.Given as goal

abbrev pub invariant-loop-import : goal.invariant-loop-import
invariant-loop-import l = map import_view l.fn.entries.items ++ imported_by l.number (home_view l.home) l.imports ≡ map import_view l.entries.items ++ imported_by l.number (home_view l.home) (drop l.import-index l.imports)
