use Rattle.std.proofs.Common.{refl, sym, ◌++◌, map, drop, arith}
use Rattle.asn_modules_names.specs.lookup.Entries.{imported_in}
use Rattle.asn_modules_names.specs.lookup.Homes.{home_view}
use Rattle.asn_modules_names.specs.lookup.Views.{import_view}
use Rattle.asn_modules_names.proofs.Founds.{listed_all}
use Rattle.asn_modules_names.proofs.lookup.Listing.{name_added, names_end}
use Rattle.asn_modules_names.proofs.lookup.imports.add_names.Goals as goal

pub loop-name-init : goal.loop-name-init
loop-name-init c = refl

pub loop-name-preserved : goal.loop-name-preserved
loop-name-preserved c =
    let h = home_view c.args.home in
    name_added (map import_view c.args.entries.now.items ++ imported_in c.args.number h c.args.from c.args.names.now) c.loop-name.entries.items c.push.new.self.items c.text_of.result c.text_of-origin.result c.args.number h c.args.from c.args.names.now c.loop-name.name-index _
    c.loop-name-test.true c.loop-name.invariant c.text_of.ensures c.text_of-origin.ensures c.in_ok-push.ensures.items

pub returns : goal.returns
returns c =
    let h = home_view c.args.home in
    sym (listed_all (map import_view c.args.entries.now.items ++ imported_in c.args.number h c.args.from c.args.names.now) (map import_view c.loop-name.entries.items) (imported_in c.args.number h c.args.from (drop c.loop-name.name-index c.args.names.now)) c.loop-name.invariant
    (names_end c.args.number h c.args.from c.args.names.now c.loop-name.name-index (omega (arith, c.loop-name-test.false))))
