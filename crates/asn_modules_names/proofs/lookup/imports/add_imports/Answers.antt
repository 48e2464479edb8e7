use Rattle.std.proofs.Common.{refl, ap, sym, ◌∙◌, ◌++◌, map, drop, arith}
use Rattle.asn_modules_names.specs.lookup.Entries.{imported_in}
use Rattle.asn_modules_names.specs.lookup.Homes.{home_view}
use Rattle.asn_modules_names.specs.lookup.Views.{import_view}
use Rattle.asn_modules_names.proofs.Founds.{listed_all}
use Rattle.asn_modules_names.proofs.lookup.Listing.{import_added, imported_by, imports_end}
use Rattle.asn_modules_names.proofs.lookup.imports.add_imports.Goals as goal

pub loop-import-init : goal.loop-import-init
loop-import-init c = refl

pub loop-import-preserved : goal.loop-import-preserved
loop-import-preserved c =
    let h = home_view c.args.home in
    import_added (map import_view c.args.entries.now.items ++ imported_by c.args.number h c.args.imports.now) (map import_view c.loop-import.entries.items) (map import_view c.add_names.new.entries.items) c.args.number h c.args.imports.now c.loop-import.import-index c.import-item.result
    c.loop-import-test.true c.import-item.is c.loop-import.invariant
    (c.in_ok-add_names.ensures ∙ ap (λ l. map import_view c.loop-import.entries.items ++ imported_in c.args.number h c.import-item.result.module l) c.as_slice.ensures.value)

pub returns : goal.returns
returns c =
    let h = home_view c.args.home in
    sym (listed_all (map import_view c.args.entries.now.items ++ imported_by c.args.number h c.args.imports.now) (map import_view c.loop-import.entries.items) (imported_by c.args.number h (drop c.loop-import.import-index c.args.imports.now)) c.loop-import.invariant
    (imports_end c.args.number h c.args.imports.now c.loop-import.import-index (omega (arith, c.loop-import-test.false))))
