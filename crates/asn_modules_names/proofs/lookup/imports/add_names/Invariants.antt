use Rattle.std.proofs.Common.{◌≡◌, ◌++◌, map, drop}
use Rattle.asn_modules_names.specs.lookup.Entries.{imported_in}
use Rattle.asn_modules_names.specs.lookup.Homes.{home_view}
use Rattle.asn_modules_names.specs.lookup.Views.{import_view}
use Rattle.asn_modules_names.proofs.lookup.imports.add_names.Given as goal

abbrev pub invariant-loop-name : goal.invariant-loop-name
invariant-loop-name l = map import_view l.fn.entries.items ++ imported_in l.number (home_view l.home) l.fn.from l.names ≡ map import_view l.entries.items ++ imported_in l.number (home_view l.home) l.fn.from (drop l.name-index l.names)
