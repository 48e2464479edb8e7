use Rattle.std.proofs.Common.{refl, ap, sym, ◌∙◌, ◌++◌, map, drop, arith}
use Rattle.asn_modules_names.specs.imports.Tables.{numbered_by}
use Rattle.asn_modules_names.specs.lookup.Homes.{bytes_in, home_view}
use Rattle.asn_modules_names.specs.lookup.Views.{entry_view}
use Rattle.asn_modules_names.proofs.Founds.{listed_all}
use Rattle.asn_modules_names.proofs.imports.Listing.{import_listed, imported_from, imports_listed}
use Rattle.asn_modules_names.proofs.imports.entries.add_imports.Goals as goal

pub loop-import-init : goal.loop-import-init
loop-import-init c = refl

pub loop-import-preserved : goal.loop-import-preserved
loop-import-preserved c =
    let h = home_view c.args.home in
    let k = c.args.number in
    import_listed k h (map entry_view c.args.entries.now.items ++ imported_from k h c.args.imports.now) (map entry_view c.loop-import.entries.items) (map entry_view c.add_names.new.entries.items) c.args.imports.now c.loop-import.import-index c.import-item.result
    c.loop-import-test.true c.import-item.is c.loop-import.invariant
    (c.in_ok-add_names.ensures ∙ ap (λ l. map entry_view c.loop-import.entries.items ++ numbered_by k (map (bytes_in h) l)) c.as_slice.ensures.value)

pub returns : goal.returns
returns c =
    let h = home_view c.args.home in
    let k = c.args.number in
    sym (listed_all (map entry_view c.args.entries.now.items ++ imported_from k h c.args.imports.now) (map entry_view c.loop-import.entries.items) (imported_from k h (drop c.loop-import.import-index c.args.imports.now)) c.loop-import.invariant
    (imports_listed k h c.args.imports.now c.loop-import.import-index (omega (arith, c.loop-import-test.false))))
