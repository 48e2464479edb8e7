use Rattle.std.proofs.Common.{refl, sym, ◌++◌, map, drop, arith}
use Rattle.asn_modules_names.specs.lookup.Homes.{home_view}
use Rattle.asn_modules_names.specs.Mentions.{source_view}
use Rattle.asn_modules_names.proofs.Founds.{listed_all}
use Rattle.asn_modules_names.proofs.lookup.Listing.{home_added, housed, housed_end}
use Rattle.asn_modules_names.proofs.lookup.home.add_homes.Goals as goal

pub loop-parsed-init : goal.loop-parsed-init
loop-parsed-init c = refl

pub loop-parsed-preserved : goal.loop-parsed-preserved
loop-parsed-preserved c =
    let s = source_view c.args.source.now in
    home_added (map home_view c.args.found.now.items ++ housed s c.args.modules.now) c.loop-parsed.found.items c.push.new.self.items _ s c.args.modules.now c.loop-parsed.parsed-index c.parsed-item.result
    c.loop-parsed-test.true c.parsed-item.is c.loop-parsed.invariant refl c.in_ok-push.ensures.items

pub returns : goal.returns
returns c =
    let s = source_view c.args.source.now in
    sym (listed_all (map home_view c.args.found.now.items ++ housed s c.args.modules.now) (map home_view c.loop-parsed.found.items) (housed s (drop c.loop-parsed.parsed-index c.args.modules.now)) c.loop-parsed.invariant
    (housed_end s c.args.modules.now c.loop-parsed.parsed-index (omega (arith, c.loop-parsed-test.false))))
