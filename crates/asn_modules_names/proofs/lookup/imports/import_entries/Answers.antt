use Rattle.std.proofs.Common.{ap, sym, ◌∙◌, ◌++◌, map, arith}
use Rattle.asn_modules_names.specs.lookup.Homes.{home_view}
use Rattle.asn_modules_names.specs.lookup.Views.{import_view}
use Rattle.asn_modules_names.proofs.Founds.{listed_all}
use Rattle.asn_modules_names.specs.lookup.Entries.{imports_in}
use Rattle.asn_modules_names.proofs.lookup.Listing.{entries_added, entries_end, entries_from}
use Rattle.asn_modules_names.proofs.lookup.imports.import_entries.Goals as goal

pub loop-number-init : goal.loop-number-init
loop-number-init c = ap (λ l. map import_view l ++ entries_from c.args.homes.now 0) (sym c.new-entries.ensures.items)

pub loop-number-preserved : goal.loop-number-preserved
loop-number-preserved c =
    entries_added (entries_from c.args.homes.now 0) (map import_view c.loop-number.entries.items) (map import_view c.add_imports.new.entries.items) c.args.homes.now c.loop-number.number c.index-homes-number.result
    c.loop-number-test.true c.index-homes-number.is c.loop-number.invariant
    (c.in_ok-add_imports.ensures ∙ ap (λ l. map import_view c.loop-number.entries.items ++ imports_in c.loop-number.number (home_view c.index-homes-number.result) l) c.imports_of.ensures)

pub returns : goal.returns
returns c =
    sym (listed_all (entries_from c.args.homes.now 0) (map import_view c.loop-number.entries.items) (entries_from c.args.homes.now c.loop-number.number) c.loop-number.invariant
    (entries_end c.args.homes.now c.loop-number.number (omega (arith, c.loop-number-test.false))))
