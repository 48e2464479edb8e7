use Rattle.std.proofs.Common.{◌≡◌, drop}
use Rattle.asn_modules_names.specs.imports.Imported.{import_fault}
use Rattle.asn_modules_names.specs.imports.Tables.{module_at, modules_of}
use Rattle.asn_modules_names.proofs.imports.check.check_names.Given as goal
use Rattle.asn_modules_names.specs.lookup.Homes.{home_view}
use Rattle.asn_modules_names.specs.Assigned.{first_found}

abbrev pub invariant-loop-name : goal.invariant-loop-name
invariant-loop-name l =
    first_found (import_fault (modules_of l.index) (home_view l.home) l.is_own (module_at l.index l.named)) l.names ≡ first_found (import_fault (modules_of l.index) (home_view l.home) l.is_own (module_at l.index l.named)) (drop l.name-index l.names)
