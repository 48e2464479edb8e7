use Rattle.std.proofs.Common.{ap, sym, ◌∙◌, ◌++◌, map, arith}
use Rattle.asn_modules_rules.specs.included.Types.{type_view}
use Rattle.asn_modules_names.specs.lookup.Homes.{home_view}
use Rattle.asn_modules_names.proofs.Founds.{listed_all}
use Rattle.asn_modules_rules.proofs.included.Listing.{listed, listed_from, modules_added, modules_end}
use Rattle.asn_modules_rules.proofs.included.types.types_of.Goals as goal

pub loop-number-init : goal.loop-number-init
loop-number-init c = λ ss is. ap (λ l. map type_view l ++ listed_from ss c.args.homes.now 0) (sym c.new-types.ensures.items)

pub loop-number-preserved : goal.loop-number-preserved
loop-number-preserved c = λ ss is.
    modules_added (listed_from ss c.args.homes.now 0) (map type_view c.loop-number.types.items) (map type_view c.add_types.new.types.items) ss c.args.homes.now c.loop-number.number c.index-homes-number.result
    c.loop-number-test.true c.index-homes-number.is (c.loop-number.invariant ss is)
    (c.in_ok-add_types.ensures ss is ∙ ap (λ l. map type_view c.loop-number.types.items ++ listed ss c.loop-number.number (home_view c.index-homes-number.result) l) c.as_slice-assignments.ensures.value)

pub returns : goal.returns
returns c = λ ss is.
    sym (listed_all (listed_from ss c.args.homes.now 0) (map type_view c.loop-number.types.items) (listed_from ss c.args.homes.now c.loop-number.number) (c.loop-number.invariant ss is)
    (modules_end ss c.args.homes.now c.loop-number.number (omega (arith, c.loop-number-test.false))))
