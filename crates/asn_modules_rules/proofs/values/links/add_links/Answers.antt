use Rattle.std.proofs.Common.{refl, sym, ◌++◌, map, drop, arith}
use Rattle.asn_modules_names.specs.lookup.Homes.{home_view}
use Rattle.asn_modules_names.proofs.Founds.{listed_all}
use Rattle.asn_modules_rules.specs.values.ValueLinks.{link_view}
use Rattle.asn_modules_rules.proofs.values.Linking.{listed, listed_end, one_listed}
use Rattle.asn_modules_rules.proofs.values.links.add_links.Goals as goal

pub loop-assignment-init : goal.loop-assignment-init
loop-assignment-init c = λ ss is. refl

pub loop-assignment-preserved : goal.loop-assignment-preserved
loop-assignment-preserved c = λ ss is.
    let h = home_view c.args.home in
    one_listed (map link_view c.args.links.now.items ++ listed ss c.args.number h c.args.assignments.now) c.loop-assignment.links.items c.add_link.new.links.items c.link_of.result ss c.args.number h c.args.assignments.now c.loop-assignment.assignment-index
    c.assignment-item.result c.loop-assignment-test.true c.assignment-item.is (c.loop-assignment.invariant ss is) (c.link_of.ensures ss is) c.in_ok-add_link.ensures

pub returns : goal.returns
returns c = λ ss is.
    let h = home_view c.args.home in
    sym (listed_all (map link_view c.args.links.now.items ++ listed ss c.args.number h c.args.assignments.now) (map link_view c.loop-assignment.links.items) (listed ss c.args.number h (drop c.loop-assignment.assignment-index c.args.assignments.now))
    (c.loop-assignment.invariant ss is) (listed_end ss c.args.number h c.args.assignments.now c.loop-assignment.assignment-index (omega (arith, c.loop-assignment-test.false))))
