use Rattle.std.proofs.Common.{map}
use Rattle.std.proofs.lemmas.Result.{err_from_is_err_and}
use Rattle.asn_modules_grammar.specs.headers.Views as headers
use Rattle.asn_modules_names.specs.imports.Imported.{first_import_fault, imports_fault, names_fault}
use Rattle.asn_modules_names.proofs.imports.check.check_imports.Goals as goal
use Rattle.asn_modules_names.specs.lookup.Homes.{home_view}
use Rattle.asn_modules_names.specs.Assigned.{first_found}
use Rattle.asn_modules_names.proofs.Founds.{found_here, tells_at}

pub returns-in_err-check_module : goal.returns-in_err-check_module
returns-in_err-check_module c =
    let hs = map home_view c.args.homes.now in
    let h = home_view c.home-item.result in
    let p = err_from_is_err_and c.from_residual-in_err-check_module.result c.from_residual-in_err-check_module.ensures.1 in
    let told = tells_at (λ all. first_found (names_fault all h) (map headers.import_view c.imports_of.result.now)) _ _ _ c.in_ok-index.ensures.modules c.in_err-check_module.ensures in
    rw (p.1, p.2) (found_here (imports_fault hs) home_view c.args.homes.now (first_import_fault hs) _ c.loop-home.home-index c.home-item.result
    c.loop-home-test.true c.home-item.is c.loop-home.invariant (tells_at (first_found (names_fault hs h)) _ _ _ c.imports_of.ensures told))
