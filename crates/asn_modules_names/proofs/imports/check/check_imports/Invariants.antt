use Rattle.std.proofs.Common.{◌≡◌, map, drop}
use Rattle.asn_modules_names.specs.imports.Imported.{imports_fault}
use Rattle.asn_modules_names.proofs.imports.check.check_imports.Given as goal
use Rattle.asn_modules_names.specs.lookup.Homes.{home_view}
use Rattle.asn_modules_names.specs.Assigned.{first_found}

abbrev pub invariant-loop-home : goal.invariant-loop-home
invariant-loop-home l = first_found (imports_fault (map home_view l.homes)) (map home_view l.homes) ≡ first_found (imports_fault (map home_view l.homes)) (map home_view (drop l.home-index l.homes))
