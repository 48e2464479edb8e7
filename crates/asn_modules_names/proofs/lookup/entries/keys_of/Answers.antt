use Rattle.std.proofs.Common.{ap, sym, ◌∙◌, ◌++◌, map, arith}
use Rattle.asn_modules_names.specs.lookup.Homes.{home_view}
use Rattle.asn_modules_names.specs.lookup.Views.{key_view}
use Rattle.asn_modules_names.proofs.Founds.{listed_all}
use Rattle.asn_modules_names.proofs.lookup.Listing.{keyed, keys_added, keys_end, keys_from}
use Rattle.asn_modules_names.proofs.lookup.entries.keys_of.Goals as goal

pub loop-number-init : goal.loop-number-init
loop-number-init c = ap (λ l. map key_view l ++ keys_from c.args.sort c.args.homes.now 0) (sym c.new-keys.ensures.items)

pub loop-number-preserved : goal.loop-number-preserved
loop-number-preserved c =
    keys_added (keys_from c.args.sort c.args.homes.now 0) (map key_view c.loop-number.keys.items) (map key_view c.add_keys.new.keys.items) c.args.sort c.args.homes.now c.loop-number.number c.index-homes-number.result
    c.loop-number-test.true c.index-homes-number.is c.loop-number.invariant
    (c.in_ok-add_keys.ensures ∙ ap (λ l. map key_view c.loop-number.keys.items ++ keyed c.args.sort c.loop-number.number (home_view c.index-homes-number.result) l) c.as_slice.ensures.value)

pub returns : goal.returns
returns c =
    sym (listed_all (keys_from c.args.sort c.args.homes.now 0) (map key_view c.loop-number.keys.items) (keys_from c.args.sort c.args.homes.now c.loop-number.number) c.loop-number.invariant
    (keys_end c.args.sort c.args.homes.now c.loop-number.number (omega (arith, c.loop-number-test.false))))
