use Rattle.std.proofs.Common.{ap, sym, ◌∙◌, ◌++◌, map, arith}
use Rattle.asn_modules_names.specs.lookup.Homes.{home_view}
use Rattle.asn_modules_names.specs.Mentions.{mention_view}
use Rattle.asn_modules_names.specs.Missing.{origins_in}
use Rattle.asn_modules_names.proofs.Origins.{home_added, homes_end, origins_from}
use Rattle.asn_modules_names.proofs.missing.origins_of.Goals as goal

pub loop-home-init : goal.loop-home-init
loop-home-init c = ap (λ l. map mention_view l ++ origins_from c.args.homes.now 0) (sym c.new-origins.ensures.items)

pub loop-home-preserved : goal.loop-home-preserved
loop-home-preserved c =
    home_added (origins_from c.args.homes.now 0) (map mention_view c.loop-home.origins.items) (map mention_view c.add_origins.new.origins.items) c.args.homes.now c.loop-home.home-index c.home-item.result
    c.loop-home-test.true c.home-item.is c.loop-home.invariant
    (c.in_ok-add_origins.ensures ∙ ap (λ l. map mention_view c.loop-home.origins.items ++ origins_in (home_view c.home-item.result).source l) c.imports_of.ensures)

pub returns : goal.returns
returns c = homes_end (origins_from c.args.homes.now 0) (map mention_view c.loop-home.origins.items) c.args.homes.now c.loop-home.home-index (omega (arith, c.loop-home-test.false)) c.loop-home.invariant
