use Rattle.std.proofs.Common.{refl, ◌+◌, ◌++◌, map, drop, arith}
use Rattle.std.proofs.lemmas.List.{drop_all, drop_more}
use Rattle.asn_modules_names.proofs.imports.Listing.{each, each_added, each_listed}
use Rattle.asn_modules_names.proofs.imports.entries.add_names.Goals as goal
use Rattle.asn_modules_names.specs.lookup.Homes.{bytes_in, home_view}
use Rattle.asn_modules_names.specs.lookup.Views.{entry_view}

pub loop-name-init : goal.loop-name-init
loop-name-init c = refl

pub loop-name-preserved : goal.loop-name-preserved
loop-name-preserved c =
    let g = bytes_in (home_view c.args.home) in
    each_added g c.args.number (map entry_view c.args.entries.now.items ++ each g c.args.number c.args.names.now) c.loop-name.entries.items c.push.new.self.items c.text_of.result _ (drop c.loop-name.name-index c.args.names.now) (drop (c.loop-name.name-index + 1) c.args.names.now)
    (drop_more c.args.names.now c.loop-name.name-index _ c.loop-name-test.true) c.loop-name.invariant c.text_of.ensures c.in_ok-push.ensures.items

pub returns : goal.returns
returns c =
    let g = bytes_in (home_view c.args.home) in
    each_listed g c.args.number (map entry_view c.args.entries.now.items ++ each g c.args.number c.args.names.now) c.loop-name.entries.items (drop c.loop-name.name-index c.args.names.now)
    (drop_all c.loop-name.name-index c.args.names.now (omega (arith, c.loop-name-test.false))) c.loop-name.invariant
