use Rattle.std.proofs.Common.{refl, ◌++◌, map, arith}
use Rattle.asn_modules_names.specs.Mentions.{mention_view, source_view}
use Rattle.asn_modules_names.proofs.Origins.{origin_added, origins, origins_end}
use Rattle.asn_modules_names.proofs.missing.add_origins.Goals as goal

pub loop-import-init : goal.loop-import-init
loop-import-init c = refl

pub loop-import-preserved : goal.loop-import-preserved
loop-import-preserved c =
    let s = source_view c.args.source.now in
    origin_added s (map mention_view c.args.origins.now.items ++ origins s c.args.imports.now) c.loop-import.origins.items c.push.new.self.items c.mention_of.result c.args.imports.now c.loop-import.import-index c.import-item.result
    c.loop-import-test.true c.import-item.is c.loop-import.invariant c.mention_of.ensures c.in_ok-push.ensures.items

pub returns : goal.returns
returns c =
    let s = source_view c.args.source.now in
    origins_end s (map mention_view c.args.origins.now.items ++ origins s c.args.imports.now) c.loop-import.origins.items c.args.imports.now c.loop-import.import-index (omega (arith, c.loop-import-test.false)) c.loop-import.invariant
