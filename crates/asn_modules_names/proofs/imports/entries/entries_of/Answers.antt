use Rattle.std.proofs.Common.{ap, sym, ◌++◌, map, arith}
use Rattle.asn_modules_names.specs.imports.Tables.{names_of}
use Rattle.asn_modules_names.proofs.imports.Listing.{module_added, modules_listed, names_from}
use Rattle.asn_modules_names.proofs.imports.entries.entries_of.Goals as goal
use Rattle.asn_modules_names.specs.lookup.Views.{entry_view}

pub loop-number-init : goal.loop-number-init
loop-number-init c = ap (λ l. map entry_view l ++ names_from (names_of c.args.listed) c.args.homes.now 0) (sym c.new-entries.ensures.items)

pub loop-number-preserved : goal.loop-number-preserved
loop-number-preserved c =
    let f = names_of c.args.listed in
    module_added f c.args.homes.now (names_from f c.args.homes.now 0) (map entry_view c.loop-number.entries.items) (map entry_view c.add_listed.new.entries.items) c.loop-number.number c.index-homes-number.result
    c.loop-number-test.true c.index-homes-number.is c.loop-number.invariant c.in_ok-add_listed.ensures

pub returns : goal.returns
returns c =
    let f = names_of c.args.listed in
    modules_listed f c.args.homes.now (names_from f c.args.homes.now 0) (map entry_view c.loop-number.entries.items) c.loop-number.number (omega (arith, c.loop-number-test.false)) c.loop-number.invariant
