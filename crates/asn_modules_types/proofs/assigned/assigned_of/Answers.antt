use Rattle.std.proofs.Common.{ap, sym, ◌∙◌, ◌++◌, map, arith}
use Rattle.asn_modules_names.specs.lookup.Homes.{home_view}
use Rattle.asn_modules_names.proofs.Founds.{listed_all}
use Rattle.asn_modules_types.specs.Known.{assigned_view}
use Rattle.asn_modules_types.proofs.Listing.{listed, listed_from, modules_added, modules_end}
use Rattle.asn_modules_types.proofs.assigned.assigned_of.Goals as goal

pub loop-number-init : goal.loop-number-init
loop-number-init c = ap (λ l. map assigned_view l ++ listed_from c.args.sort c.args.homes.now 0) (sym c.new-found.ensures.items)

pub loop-number-preserved : goal.loop-number-preserved
loop-number-preserved c =
    modules_added (listed_from c.args.sort c.args.homes.now 0) (map assigned_view c.loop-number.found.items) (map assigned_view c.add_assigned.new.found.items) c.args.sort c.args.homes.now c.loop-number.number c.index-homes-number.result
    c.loop-number-test.true c.index-homes-number.is c.loop-number.invariant
    (c.in_ok-add_assigned.ensures ∙ ap (λ l. map assigned_view c.loop-number.found.items ++ listed c.args.sort c.loop-number.number (home_view c.index-homes-number.result) l) c.as_slice.ensures.value)

pub returns : goal.returns
returns c =
    sym (listed_all (listed_from c.args.sort c.args.homes.now 0) (map assigned_view c.loop-number.found.items) (listed_from c.args.sort c.args.homes.now c.loop-number.number) c.loop-number.invariant
    (modules_end c.args.sort c.args.homes.now c.loop-number.number (omega (arith, c.loop-number-test.false))))
