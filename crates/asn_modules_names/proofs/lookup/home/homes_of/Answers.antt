use Rattle.std.proofs.Common.{ap, sym, ◌∙◌, ◌++◌, map, drop, arith}
use Rattle.asn_modules_names.specs.lookup.Homes.{home_view}
use Rattle.asn_modules_names.specs.Mentions.{source_view}
use Rattle.asn_modules_names.proofs.Founds.{listed_all}
use Rattle.asn_modules_names.proofs.lookup.Listing.{homes_added, homes_end, homes_from, housed}
use Rattle.asn_modules_names.proofs.lookup.home.homes_of.Goals as goal

pub loop-source-init : goal.loop-source-init
loop-source-init c = ap (λ l. map home_view l ++ homes_from c.args.sources.now) (sym c.new-found.ensures.items)

pub loop-source-preserved : goal.loop-source-preserved
loop-source-preserved c =
    homes_added (homes_from c.args.sources.now) (map home_view c.loop-source.found.items) (map home_view c.add_homes.new.found.items) c.args.sources.now c.loop-source.source-index c.source-item.result
    c.loop-source-test.true c.source-item.is c.loop-source.invariant
    (c.in_ok-add_homes.ensures ∙ ap (λ l. map home_view c.loop-source.found.items ++ housed (source_view c.source-item.result) l) c.as_slice.ensures.value)

pub returns : goal.returns
returns c =
    sym (listed_all (homes_from c.args.sources.now) (map home_view c.loop-source.found.items) (homes_from (drop c.loop-source.source-index c.args.sources.now)) c.loop-source.invariant
    (homes_end c.args.sources.now c.loop-source.source-index (omega (arith, c.loop-source-test.false))))
