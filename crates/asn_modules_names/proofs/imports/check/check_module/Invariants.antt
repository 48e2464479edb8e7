use Rattle.std.proofs.Common.{◌≡◌, map, drop}
use Rattle.asn_modules_grammar.specs.headers.Views as headers
use Rattle.asn_modules_names.specs.imports.Imported.{names_fault}
use Rattle.asn_modules_names.specs.imports.Tables.{modules_of}
use Rattle.asn_modules_names.proofs.imports.check.check_module.Given as goal
use Rattle.asn_modules_names.specs.lookup.Homes.{home_view}
use Rattle.asn_modules_names.specs.Assigned.{first_found}

abbrev pub invariant-loop-import : goal.invariant-loop-import
invariant-loop-import l =
    first_found (names_fault (modules_of l.index) (home_view l.home)) (map headers.import_view l.imports) ≡ first_found (names_fault (modules_of l.index) (home_view l.home)) (map headers.import_view (drop l.import-index l.imports))
